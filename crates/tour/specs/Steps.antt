-- One step of the walk: which it is, and what it tells.
use Rattle.std.specs.Prelude.{ℕ, zero, suc, ◌+◌, ◌≤◌, ◌<◌, ◌⊎◌, ◌≢◌, Bool, eqb, get_or, Option, None, Some}
use Rattle.std.proofs.Math.Path.{◌≡◌, refl, ap, subst}
use Rattle.std.proofs.Common.{sym, ◌∙◌, inl, inr}
use Rattle.std.proofs.Math.Bool.{true, false, cond}
use mathlib.Core.List.{List, [], ◌∷◌}
use native.Mathlib.Omega.{arith}
use borrow.Author.Tests.{eq-eqb, ne_eqb, lt-ltb, le-ltb}
use Rattle.std.proofs.Math.Dec.{T}
use Rattle.std.proofs.Math.ListN.{length}
use Rattle.rules.specs.Lists.{occurs}
use Rattle.rules.specs.Tree.{Tree, node_at, blank_node}
use Rattle.rules.specs.Check.{names}
use Rattle.counting.specs.Count.{same?, lt?, is, is_same}
use Rattle.counting.specs.Lists.{past_end}
use Rattle.counting.specs.Sums.{occurs-cons}
use Rattle.laws.specs.Check.Accept.{names-is}
use Rattle.tour.specs.Sums.{kids}
use Rattle.tour.specs.Walking.{place_after, up_of, down_of, step_of}
use Rattle.tour.specs.declared.Step.TheVariants.{Down, Up, End, Astray}

-- ---- steps of different kinds, and of one kind

pub down_end : {c : ℕ} → Down c ≡ End → ⊥
down_end e = let z : ◌≡◌ {A = ℕ} 0 1 = cc in omega arith

pub up_end : {p j : ℕ} → Up p j ≡ End → ⊥
up_end e = let z : ◌≡◌ {A = ℕ} 0 1 = cc in omega arith

pub down_up : {c p j : ℕ} → Down c ≡ Up p j → ⊥
down_up e = let z : ◌≡◌ {A = ℕ} 0 1 = cc in omega arith

astray_down : {c : ℕ} → Astray ≡ Down c → ⊥
astray_down e = let z : ◌≡◌ {A = ℕ} 0 1 = cc in omega arith

pub down_same : {c d : ℕ} → Down c ≡ Down d → c ≡ d
down_same e = cc

pub up_same : {p j q k : ℕ} → Up p j ≡ Up q k → (p ≡ q) × (j ≡ k)
up_same e = (cc, cc)

-- ---- places of a list

-- not after the place where it stands
pub after-most : (c : ℕ) (l : List ℕ) (k : ℕ) → k < length l → get_or l k 0 ≡ c → place_after c l ≤ suc k
unfolding place_after
after-most c [] k h e = absurd (omega arith)
after-most c (x ∷ l) zero h e = rw (eq-eqb x c e) (omega arith)
after-most c (x ∷ l) (suc k) h e = go (eqb x c) (after-most c l k (omega arith) e)
  where
    go : (b : Bool) → place_after c l ≤ suc k → cond b 1 (suc (place_after c l)) ≤ suc (suc k)
    go true q = omega arith
    go false q = omega arith

pub at-occurs : (c : ℕ) (l : List ℕ) (k : ℕ) → k < length l → get_or l k 0 ≡ c → 0 < occurs c l
at-occurs c [] k h e = absurd (omega arith)
at-occurs c (x ∷ l) zero h e = let a = occurs-cons c x l in let b = is_same c x (sym e) in omega arith
at-occurs c (x ∷ l) (suc k) h e = let a = occurs-cons c x l in let b = at-occurs c l k (omega arith) e in omega arith

-- after that place, where it stands once
pub after_is : (c : ℕ) (l : List ℕ) (k : ℕ) → k < length l → get_or l k 0 ≡ c → occurs c l ≤ 1 → place_after c l ≡ suc k
unfolding place_after
after_is c [] k h e o = absurd (omega arith)
after_is c (x ∷ l) zero h e o = rw (eq-eqb x c e)
after_is c (x ∷ l) (suc k) h e o = let a = occurs-cons c x l in go (same? x c) a (λ q. after_is c l k (omega arith) e q)
  where
    go : (x ≡ c) ⊎ (x ≢ c) → occurs c (x ∷ l) ≡ is c x + occurs c l → (occurs c l ≤ 1 → place_after c l ≡ suc k)
        → cond (eqb x c) 1 (suc (place_after c l)) ≡ suc (suc k)
    go (inl w) a ih = let b = is_same c x (sym w) in let d = at-occurs c l k (omega arith) e in absurd (omega arith)
    go (inr w) a ih = rw (ne_eqb x c w) (ap suc (ih (omega arith)))

-- ---- what a step tells

module _ (t : Tree) where
  pub step_in : (i k : ℕ) → k < length (kids t i) → step_of t i k ≡ down_of t i (get_or (kids t i) k 0)
  unfolding step_of
  step_in i k h = rw (lt-ltb k (length (kids t i)) h)

  pub step-done : (i k : ℕ) → length (kids t i) ≤ k → step_of t i k ≡ up_of t i (node_at t i).parent
  unfolding step_of
  step-done i k h = rw (le-ltb k (length (kids t i)) h)

  up_not_down : (i c : ℕ) (o : Option ℕ) → up_of t i o ≡ Down c → ⊥
  unfolding up_of
  up_not_down i c None e = down_end (sym e)
  up_not_down i c (Some p) e = down_up (sym e)

  -- down to a node of the list that names its node
  pub step_down : (i k c : ℕ) → step_of t i k ≡ Down c → (k < length (kids t i)) × (get_or (kids t i) k 0 ≡ c) × ((node_at t c).parent ≡ Some i)
  unfolding down_of
  step_down i k c e = go (lt? k (length (kids t i)))
    where
      by : (x : ℕ) (b : Bool) → names i (node_at t x).parent ≡ b → cond b (Down x) Astray ≡ Down c → (x ≡ c) × ((node_at t c).parent ≡ Some i)
      by x true n f =
          let w = down_same f in (w, subst (λ y. (node_at t y).parent ≡ Some i) w (names-is i (node_at t x).parent (subst T (sym n) tt)))
      by x false n f = absurd (astray_down f)

      go : (k < length (kids t i)) ⊎ (length (kids t i) ≤ k) → (k < length (kids t i)) × (get_or (kids t i) k 0 ≡ c) × ((node_at t c).parent ≡ Some i)
      go (inl q) =
          let x = get_or (kids t i) k 0 in
          let f : down_of t i x ≡ Down c = sym (step_in i k q) ∙ e in
          let (w, p) = by x (names i (node_at t x).parent) refl f in
          (q, w, p)
      go (inr q) = absurd (up_not_down i c (node_at t i).parent (sym (step-done i k q) ∙ e))

  down_not_end : (i c : ℕ) → down_of t i c ≡ End → ⊥
  unfolding down_of
  down_not_end i c e = go (names i (node_at t c).parent) e
    where
      go : (b : Bool) → cond b (Down c) Astray ≡ End → ⊥
      go true f = down_end f
      go false f = let z : ◌≡◌ {A = ℕ} 0 1 = cc in omega arith

  down_not_up : (i c p j : ℕ) → down_of t i c ≡ Up p j → ⊥
  unfolding down_of
  down_not_up i c p j e = go (names i (node_at t c).parent) e
    where
      go : (b : Bool) → cond b (Down c) Astray ≡ Up p j → ⊥
      go true f = down_up f
      go false f = let z : ◌≡◌ {A = ℕ} 0 1 = cc in omega arith

  -- with more of the list to come it neither ends nor goes up
  pub end_done : (i k : ℕ) → k < length (kids t i) → step_of t i k ≡ End → ⊥
  end_done i k h e = down_not_end i (get_or (kids t i) k 0) (sym (step_in i k h) ∙ e)

  pub up_done : (i k p j : ℕ) → k < length (kids t i) → step_of t i k ≡ Up p j → ⊥
  up_done i k p j h e = down_not_up i (get_or (kids t i) k 0) p j (sym (step_in i k h) ∙ e)

  -- up to the parent
  pub step_up : (i k p j : ℕ) → step_of t i k ≡ Up p j → (node_at t i).parent ≡ Some p
  unfolding up_of
  step_up i k p j e = go (lt? k (length (kids t i)))
    where
      by : (o : Option ℕ) → (node_at t i).parent ≡ o → up_of t i o ≡ Up p j → (node_at t i).parent ≡ Some p
      by None n f = absurd (up_end (sym f))
      by (Some q) n f = n ∙ ap Some (up_same f).0

      go : (k < length (kids t i)) ⊎ (length (kids t i) ≤ k) → (node_at t i).parent ≡ Some p
      go (inl q) = absurd (up_done i k p j q e)
      go (inr q) = by (node_at t i).parent refl (sym (step-done i k q) ∙ e)

  -- a node that its parent lists
  pub down_is : (i k c : ℕ) → k < length (kids t i) → get_or (kids t i) k 0 ≡ c → (node_at t c).parent ≡ Some i → step_of t i k ≡ Down c
  unfolding down_of names
  down_is i k c h e p = step_in i k h ∙ ap (down_of t i) e ∙ rw (p, eq-eqb i i refl)

  pub up_is : (c k i : ℕ) → length (kids t c) ≤ k → (node_at t c).parent ≡ Some i → step_of t c k ≡ Up i (place_after c (node_at t i).list)
  unfolding up_of
  up_is c k i h p = step-done c k h ∙ ap (up_of t c) p

  pub end_is : (i k : ℕ) → length (kids t i) ≤ k → (node_at t i).parent ≡ None → step_of t i k ≡ End
  unfolding up_of
  end_is i k h p = step-done i k h ∙ ap (up_of t i) p

  -- only an inner node's list is walked
  pub kids-inner : (i : ℕ) → 0 < length (kids t i) → ((node_at t i).leaf ≡ false) × (i < length t.nodes)
  unfolding kids
  kids-inner i h = (go (node_at t i).leaf h, there (lt? i (length t.nodes)))
    where
      go : (b : Bool) → 0 < length (cond b [] (node_at t i).list) → b ≡ false
      go true q = absurd (omega arith)
      go false q = refl

      there : (i < length t.nodes) ⊎ (length t.nodes ≤ i) → i < length t.nodes
      there (inl q) = q
      there (inr q) =
          let b : node_at t i ≡ blank_node = unfold node_at in past_end t.nodes blank_node i q in
          let z : 0 < length (kids t i) = h in
          let y : length (kids t i) ≡ 0 = unfold kids in (rw b (unfold blank_node in refl)) in
          absurd (omega arith)

  pub kids_list : (i : ℕ) → (node_at t i).leaf ≡ false → kids t i ≡ (node_at t i).list
  unfolding kids
  kids_list i e = rw e

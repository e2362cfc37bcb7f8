-- Merges of a rebuild: whom they kill, what they keep.
use Rattle.std.specs.Prelude.{ℕ, zero, suc, ◌+◌, ◌≤◌, ◌<◌, ◌≡◌, refl, ◌⊎◌, ◌≢◌, Bool, true, ◌&&◌, length, get_or}
use Rattle.std.proofs.Common.{sym, ◌∙◌, subst, inl, inr}
use Rattle.std.proofs.Math.Path.{ap}
use Rattle.std.proofs.Math.Bool.{false}
use Rattle.std.proofs.lemmas.Bool.{false≢true}
use mathlib.Core.List.{List, [], ◌∷◌}
use native.Mathlib.Omega.{arith}
use Rattle.std.proofs.Math.ListN.{length-set}
use Rattle.std.proofs.Math.Seq.{get_or-set_same, get_or-set_other}
use Rattle.binary64.specs.Whole.{most}
use Rattle.feature.specs.Summaries.{blank}
use Rattle.head.specs.declared.Settings.{Settings}
use Rattle.head.specs.Limits.{both}
use Rattle.rules.specs.Lists.{count_up, occurs}
use Rattle.rules.specs.Tree.{merge, Tree, node_at, row_count}
use Rattle.rules.specs.declared.Pair.{Pair}
use Rattle.rules.specs.Rebuild.{Merging, merge_one, both_alive, merge_all, Guard, mergeable}
use Rattle.laws.specs.Invariant.Weights.{IsExact, Exactly, exact_count, exact_is, merge_weight_lem}
use Rattle.counting.specs.Sums.{over, over-same, over_once, over_in, sum_to, sum-change, sum_two}
use Rattle.counting.specs.Count.{same?}
use Rattle.laws.specs.Invariant.Links.{Links, nil, put, put-at, put_off}
use Rattle.counting.specs.Lists.{change-at, change_off, length-change}
use Rattle.laws.specs.Invariant.Sound.{node_weight}
use Rattle.laws.specs.Inserting.Listed.{held_in_lem, held_one}
use Rattle.counting.specs.Flags.{alive, alive_up, alive_down, flag?, count_down, up_in}

unfoldable pub merge_weight : Settings → Merging → ℕ → ℕ
merge_weight s m c = row_count (get_or m.entries c blank)

-- n entries, of total weight in all that live
pub record Merged (s : Settings) (n total : ℕ) (m : Merging) : Type 0 where
  pub len_e : length m.entries ≡ n
  pub len_a : length m.alive ≡ n
  pub live : (c : ℕ) → get_or m.alive c false ≡ true → IsExact (get_or m.entries c blank) × (1 ≤ merge_weight s m c)
  pub sums : sum_to (alive m.alive (merge_weight s m)) n ≡ total
  pub counted : m.count + count_up m.alive ≡ n

-- each leaf still weighs what lives in it, and something lives in it
pub record Near (s : Settings) (t : Tree) (m : Merging) : Type 0 where
  pub leaves : (k : ℕ) → k < length t.nodes → (node_at t k).leaf ≡ true → node_weight t k ≡ over (alive m.alive (merge_weight s m)) (node_at t k).list
  pub stay : (k : ℕ) → k < length t.nodes → (node_at t k).leaf ≡ true → 0 < over (alive m.alive (λ _. 1)) (node_at t k).list

-- g's share at b goes to a
sum_move : (g h : ℕ → ℕ) (a b n : ℕ) → a ≢ b → a < n → b < n → h a ≡ g a + g b → h b ≡ 0 → ((c : ℕ) → c ≢ a → c ≢ b → h c ≡ g c) → sum_to h n ≡ sum_to g n
sum_move g h a b n d la lb ha hb ho =
    let f : ℕ → ℕ = put g b 0 in
    let p = sum-change g (put g b 0) b n lb (λ k _ q. put_off g b 0 k q) in
    let q = sum-change (put g b 0) h a n la (λ k _ z. by k z (same? k b)) in
    let x = put-at g b 0 in
    let y = put_off g b 0 a d in
    omega arith
  where
    by : (k : ℕ) → k ≢ a → (k ≡ b) ⊎ (k ≢ b) → h k ≡ put g b 0 k
    by k z (inl e) = ap h e ∙ hb ∙ sym (put-at g b 0) ∙ ap (λ y. put g b 0 y) (sym e)
    by k z (inr e) = ho k z e ∙ sym (put_off g b 0 k e)

over_move : (g h : ℕ → ℕ) (a b : ℕ) (l : List ℕ) → a ≢ b → occurs a l ≡ 1 → occurs b l ≡ 1 → h a ≡ g a + g b → h b ≡ 0 → ((c : ℕ) → c ≢ a → c ≢ b → h c ≡ g c)
    → over h l ≡ over g l
over_move g h a b l d la lb ha hb ho =
    let p = over_once (put g b 0) g b l lb (λ k _ q. put_off g b 0 k q) in
    let q = over_once h (put g b 0) a l la (λ k _ z. by k z (same? k b)) in
    let x = put-at g b 0 in
    let y = put_off g b 0 a d in
    omega arith
  where
    by : (k : ℕ) → k ≢ a → (k ≡ b) ⊎ (k ≢ b) → h k ≡ put g b 0 k
    by k z (inl e) = ap h e ∙ hb ∙ sym (put-at g b 0) ∙ ap (λ y. put g b 0 y) (sym e)
    by k z (inr e) = ho k z e ∙ sym (put_off g b 0 k e)

and_left : (p q : Bool) → (p && q) ≡ true → p ≡ true
and_left true q e = refl
and_left false q e = absurd (false≢true e)

and_right : (p q : Bool) → (p && q) ≡ true → q ≡ true
and_right true q e = e
and_right false q e = absurd (false≢true e)

module _ {s : Settings} {n total : ℕ} (p : Pair) {m : Merging} (small : total ≤ most) (g : Merged s n total m) (d : p.one ≢ p.two)
    (l : both_alive p m.alive ≡ true) where
  pub up_a : get_or m.alive p.one false ≡ true
  unfolding both_alive
  up_a = and_left (get_or m.alive p.one false) (get_or m.alive p.two false) l

  pub up_b : get_or m.alive p.two false ≡ true
  unfolding both_alive
  up_b = and_right (get_or m.alive p.one false) (get_or m.alive p.two false) l

  in_a : p.one < n
  in_a = subst (λ z. p.one < z) g.len_a (up_in m.alive p.one up_a)

  in_b : p.two < n
  in_b = subst (λ z. p.two < z) g.len_a (up_in m.alive p.two up_b)

  abbrev m' : Merging
  m' = merge_one s p m

  abbrev w : ℕ → ℕ
  w = merge_weight s m

  abbrev w' : ℕ → ℕ
  w' = merge_weight s (merge_one s p m)

  flag_b : get_or m'.alive p.two false ≡ false
  unfolding merge_one
  flag_b = get_or-set_same m.alive p.two false false (up_in m.alive p.two up_b)

  flag_o : (c : ℕ) → c ≢ p.two → get_or m'.alive c false ≡ get_or m.alive c false
  unfolding merge_one
  flag_o c q = get_or-set_other m.alive p.two c false false q

  flag_a : get_or m'.alive p.one false ≡ true
  flag_a = flag_o p.one d ∙ up_a

  pub entry_a : get_or m'.entries p.one blank ≡ merge s (get_or m.entries p.one blank) (get_or m.entries p.two blank)
  unfolding merge_one
  entry_a = change-at (λ e. merge s e (get_or m.entries p.two blank)) p.one blank m.entries (subst (λ z. p.one < z) (sym g.len_e) in_a)

  pub entry_o : (c : ℕ) → c ≢ p.one → get_or m'.entries c blank ≡ get_or m.entries c blank
  unfolding merge_one
  entry_o c q = change_off (λ e. merge s e (get_or m.entries p.two blank)) p.one c blank m.entries q

  room : w p.one + w p.two ≤ most
  room =
      let x = sum_two (alive m.alive w) p.one p.two n in_a in_b d in
      let y = alive_up m.alive w p.one up_a in
      let z = alive_up m.alive w p.two up_b in
      let v = g.sums in
      omega arith

  exact_a : Exactly (merge s (get_or m.entries p.one blank) (get_or m.entries p.two blank)) (w p.one + w p.two)
  unfolding merge_weight
  exact_a = merge_weight_lem s (get_or m.entries p.one blank) (get_or m.entries p.two blank) (w p.one) (w p.two)
      (g.live p.one up_a).0 (g.live p.two up_b).0 room

  w_a : w' p.one ≡ w p.one + w p.two
  w_a =
      unfold merge_weight in (ap (λ e. row_count e) entry_a ∙ exact_count (merge s (get_or m.entries p.one blank) (get_or m.entries p.two blank))
      (w p.one + w p.two) exact_a)

  w_o : (c : ℕ) → c ≢ p.one → w' c ≡ w c
  unfolding merge_weight
  w_o c q = ap (λ e. row_count e) (entry_o c q)

  abbrev aw : ℕ → ℕ
  aw = alive m.alive (merge_weight s m)

  abbrev aw' : ℕ → ℕ
  aw' = alive (merge_one s p m).alive (merge_weight s (merge_one s p m))

  pub aw_a : aw' p.one ≡ aw p.one + aw p.two
  aw_a =
      alive_up m'.alive w' p.one flag_a ∙ w_a
      ∙ ap (λ z. z + w p.two) (sym (alive_up m.alive w p.one up_a)) ∙ ap (λ z. aw p.one + z) (sym (alive_up m.alive w p.two up_b))

  pub aw-b : aw' p.two ≡ 0
  aw-b = alive_down m'.alive w' p.two flag_b

  pub aw_o : (c : ℕ) → c ≢ p.one → c ≢ p.two → aw' c ≡ aw c
  aw_o c x y = go (flag? m.alive c)
    where
      go : (get_or m.alive c false ≡ true) ⊎ (get_or m.alive c false ≡ false) → aw' c ≡ aw c
      go (inl e) = alive_up m'.alive w' c (flag_o c y ∙ e) ∙ w_o c x ∙ sym (alive_up m.alive w c e)
      go (inr e) = alive_down m'.alive w' c (flag_o c y ∙ e) ∙ sym (alive_down m.alive w c e)

  live' : (c : ℕ) → get_or m'.alive c false ≡ true → IsExact (get_or m'.entries c blank) × (1 ≤ w' c)
  live' c e = go (same? c p.one) (same? c p.two)
    where
      go : (c ≡ p.one) ⊎ (c ≢ p.one) → (c ≡ p.two) ⊎ (c ≢ p.two) → IsExact (get_or m'.entries c blank) × (1 ≤ w' c)
      go x (inl y) = absurd (false≢true (sym flag_b ∙ ap (λ z. get_or m'.alive z false) (sym y) ∙ e))
      go (inl x) (inr y) = (
        subst (λ z. IsExact (get_or m'.entries z blank)) (sym x)
            (subst (λ q. IsExact q) (sym entry_a) (exact_is (merge s (get_or m.entries p.one blank) (get_or m.entries p.two blank))
            (w p.one + w p.two) exact_a)),
        (let i : w' c ≡ w p.one + w p.two = ap (λ z. w' z) x ∙ w_a in let j = (g.live p.one up_a).1 in omega arith),
      )
      go (inr x) (inr y) =
          let q = g.live c (sym (flag_o c y) ∙ e) in
          (subst (λ z. IsExact z) (sym (entry_o c x)) q.0, subst (λ z. 1 ≤ z) (sym (w_o c x)) q.1)

  pub merged-one : Merged s n total (merge_one s p m)
  merged-one = record {
    len_e = lens.0;
    len_a = lens.1;
    live = live';
    sums = sum_move aw aw' p.one p.two n d in_a in_b aw_a aw-b aw_o ∙ g.sums;
    counted = counted';
  }
    where
      lens : (length m'.entries ≡ n) × (length m'.alive ≡ n)
      lens =
          unfold merge_one in (
            length-change (λ e. merge s e (get_or m.entries p.two blank)) p.one m.entries
                ∙ g.len_e,
            length-set m.alive p.two false ∙ g.len_a,
          )

      counted' : m'.count + count_up m'.alive ≡ n
      counted' = unfold merge_one in (let i = count_down m.alive p.two up_b in let j = g.counted in omega arith)

  -- both in one leaf
  module _ {t : Tree} {R : ℕ → ℕ} (links : Links s (node_at t) (length t.nodes) t.root (length t.entries) R nil nil nil) (near : Near s t m) (k₀ : ℕ)
      (l₀ : k₀ < length t.nodes) (f₀ : (node_at t k₀).leaf ≡ true) (o-a : 0 < occurs p.one (node_at t k₀).list)
      (o-b : 0 < occurs p.two (node_at t k₀).list) where
    held₁ : (c : ℕ) → 0 < occurs c (node_at t k₀).list → occurs c (node_at t k₀).list ≡ 1
    held₁ c o = (held_in_lem s (node_at t) (length t.nodes) t.root (length t.entries) R nil nil nil links k₀ c l₀ f₀ o).1

    elsewhere : (k : ℕ) → k < length t.nodes → (node_at t k).leaf ≡ true → k ≢ k₀ → (c : ℕ) → 0 < occurs c (node_at t k).list → (c ≢ p.one) × (c ≢ p.two)
    elsewhere k h f q c o = (
      (λ e. q (held_one s (node_at t) (length t.nodes) t.root (length t.entries) R nil nil nil links k k₀ c h l₀ f f₀ o
          (subst (λ z. 0 < occurs z (node_at t k₀).list) (sym e) o-a))),
      (λ e. q (held_one s (node_at t) (length t.nodes) t.root (length t.entries) R nil nil nil links k k₀ c h l₀ f f₀ o
          (subst (λ z. 0 < occurs z (node_at t k₀).list) (sym e) o-b))),
    )

    flags : (c : ℕ) → c ≢ p.two → alive m'.alive (λ _. 1) c ≡ alive m.alive (λ _. 1) c
    flags c q = go (flag? m.alive c)
      where
        go : (get_or m.alive c false ≡ true) ⊎ (get_or m.alive c false ≡ false) → alive m'.alive (λ _. 1) c ≡ alive m.alive (λ _. 1) c
        go (inl e) = alive_up m'.alive (λ _. 1) c (flag_o c q ∙ e) ∙ sym (alive_up m.alive (λ _. 1) c e)
        go (inr e) = alive_down m'.alive (λ _. 1) c (flag_o c q ∙ e) ∙ sym (alive_down m.alive (λ _. 1) c e)

    pub near_one : Near s t (merge_one s p m)
    near_one = record { leaves = (λ k h f. lv k h f (same? k k₀)); stay = (λ k h f. st k h f (same? k k₀)) }
      where
        lv : (k : ℕ) → k < length t.nodes → (node_at t k).leaf ≡ true → (k ≡ k₀) ⊎ (k ≢ k₀) → node_weight t k ≡ over aw' (node_at t k).list
        lv k h f (inl e) =
            near.leaves k h f ∙ sym (over_move aw aw' p.one p.two (node_at t k).list d (ap (λ z. occurs p.one (node_at t z).list) e
            ∙ held₁ p.one o-a) (ap (λ z. occurs p.two (node_at t z).list) e ∙ held₁ p.two o-b) aw_a aw-b aw_o)
        lv k h f (inr e) = near.leaves k h f ∙ sym (over-same aw' aw (node_at t k).list (λ c o. let q = elsewhere k h f e c o in aw_o c q.0 q.1))

        st : (k : ℕ) → k < length t.nodes → (node_at t k).leaf ≡ true → (k ≡ k₀) ⊎ (k ≢ k₀)
            → 0 < over (alive m'.alive (λ _. 1)) (node_at t k).list
        st k h f (inl e) =
            let i = over_in (alive m'.alive (λ _. 1)) p.one (node_at t k).list (subst (λ z. 0 < occurs p.one (node_at t z).list)
            (sym e) o-a) in
            let j = alive_up m'.alive (λ _. 1) p.one flag_a in
            omega arith
        st k h f (inr e) =
            subst (λ z. 0 < z) (sym (over-same (alive m'.alive (λ _. 1)) (alive m.alive (λ _. 1)) (node_at t k).list
            (λ c o. flags c (elsewhere k h f e c o).1))) (near.stay k h f)

-- ---- all merges

abbrev pub Every : (Pair → Type 0) → List Pair → Type 0
Every P [] = Unit
Every P (p ∷ ps) = P p × Every P ps

-- what is merged was not merged away
pub able_alive : (may : Guard) (p : Pair) (m : Merging) → mergeable may p m ≡ true → both_alive p m.alive ≡ true
unfolding mergeable
able_alive may p m e = (both (may _ _) (both_alive p m.alive) e).1

-- what one merge keeps, all merges keep, whichever may be merged
pub merge-all : (s : Settings) (may : Guard) (Q : Merging → Type 0) (P : Pair → Type 0)
    → ((p : Pair) (m : Merging) → P p → both_alive p m.alive ≡ true → Q m → Q (merge_one s p m))
    → (k : ℕ) (ps : List Pair) (m : Merging) → Every P ps → Q m → Q (merge_all s may k ps m)
unfolding merge_all
merge-all s may Q P step zero ps m a q = q
merge-all s may Q P step (suc k) [] m a q = q
merge-all s may Q P step (suc k) (p ∷ ps) m a q =
    go (mergeable may p m) refl (λ e. merge-all s may Q P step k ps (merge_one s p m) a.1 (step p m a.0 (able_alive may p m e) q))
    (merge-all s may Q P step (suc k) ps m a.1 q)
  where
    go : (b : Bool) → mergeable may p m ≡ b → (mergeable may p m ≡ true → Q (merge_all s may k ps (merge_one s p m))) → Q (merge_all s may (suc k) ps m)
        → Q (elim b [ true ↦ merge_all s may k ps (merge_one s p m) | false ↦ merge_all s may (suc k) ps m ])
    go true e x y = x e
    go false e x y = y

-- merges only add
pub merges_grow : (s : Settings) (may : Guard) (c k : ℕ) (ps : List Pair) (m : Merging) → c ≤ m.count → c ≤ (merge_all s may k ps m).count
merges_grow s may c k ps m h = merge-all s may (λ m. c ≤ m.count) (λ _. Unit) (λ p m x y z. (unfold merge_one in (let q = z in omega arith))) k ps m (units ps) h
  where
    units : (ps : List Pair) → Every (λ _. Unit) ps
    units [] = tt
    units (p ∷ ps) = (tt, units ps)

-- the first pair is merged: one merge at least
pub merges-some : (s : Settings) (may : Guard) (k : ℕ) (p : Pair) (ps : List Pair) (m : Merging) → 1 ≤ k → mergeable may p m ≡ true
    → 1 ≤ (merge_all s may k (p ∷ ps) m).count
unfolding merge_all
merges-some s may zero p ps m h e = absurd (omega arith)
merges-some s may (suc k) p ps m h e = go (mergeable may p m) e
  where
    one : 1 ≤ (merge_one s p m).count
    one = unfold merge_one in omega arith

    go : (b : Bool) → b ≡ true → 1 ≤ (elim b as (λ _. Merging) [ true ↦ merge_all s may k ps (merge_one s p m) | false ↦ merge_all s may (suc k) ps m ]).count
    go true q = merges_grow s may 1 k ps (merge_one s p m) one
    go false q = absurd (false≢true q)

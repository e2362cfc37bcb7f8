-- From the check to the links with ranks: a node's rank is the number of levels below its own.
use Prim.Native.Nat.{ℕ, zero, suc, ◌+◌, ◌-◌, ◌*◌, ◌≤◌, ◌<◌}
use Rattle.std.specs.Prelude.{◌≡◌, ◌⊎◌, ◌≢◌, Bool, ◌&&◌, ◌||◌, ltb}
use Rattle.std.proofs.Math.Path.{refl, sym, ap, subst}
use Rattle.std.proofs.Common.{◌∙◌, inl, inr, not-suc-le-zero, one-mul}
use Rattle.std.proofs.Math.Bool.{true, false, not, cond}
use mathlib.Core.List.{List, [], ◌∷◌, ◌++◌}
use native.Mathlib.Omega.{arith}
use Rattle.std.proofs.Math.Dec.{T, ltb→lt}
use Rattle.std.specs.Float.Ieee.Fits.{and_l, and_r}
use Rattle.std.proofs.Math.ListN.{length, length-append}
use Rattle.head.specs.declared.Settings.{Settings}
use Rattle.rules.specs.Tree.{Tree, node_at}
use Rattle.rules.specs.Lists.{occurs, every, concat}
use Rattle.rules.specs.Check.{next_level, levels_from, same_kind, growing}
use Rattle.counting.specs.Count.{is, is_same, is_other, same?, lt?}
use Rattle.counting.specs.Sums.{over, over-same, over-append, over_in, occurs-over, occurs-append, occurs-cons, length_over, over_zero}
use Rattle.laws.specs.Check.Ranks.{rank_in, rank_here, rank_later}

-- what node k lists, weighed by v
abbrev pub below_of : Tree → (ℕ → ℕ) → ℕ → ℕ
below_of t v k = cond (node_at t k).leaf 0 (over v (node_at t k).list)

-- the next level is what a level's nodes list
pub next-over : (t : Tree) (v : ℕ → ℕ) (l : List ℕ) → over v (next_level t l) ≡ over (below_of t v) l
unfolding next_level over
next-over t v [] = refl
next-over t v (k ∷ l) =
    let a = over-append v (cond (node_at t k).leaf [] (node_at t k).list) (next_level t l) in
    let b = next-over t v l in
    let c = go (node_at t k).leaf in
    omega arith
  where
    go : (b : Bool) → over v (cond b [] (node_at t k).list) ≡ cond b 0 (over v (node_at t k).list)
    go true = unfold over in refl
    go false = refl

module _ (s : Settings) (t : Tree) where
  -- each level lists the next, and the last lists none
  abbrev pub Chain : List (List ℕ) → Type 0
  Chain [] = Unit
  Chain (l ∷ []) = (0 < length l) × (next_level t l ≡ [])
  Chain (l ∷ (m ∷ ls)) = (0 < length l) × (next_level t l ≡ m) × Chain (m ∷ ls)

  no_level : (k : ℕ) → levels_from t k [] ≡ []
  unfolding levels_from
  no_level zero = refl
  no_level (suc k) = refl

  -- with steps to spare the levels are not cut
  pub uncut : (k : ℕ) (l : List ℕ) → length (concat (levels_from t k l)) < k → Chain (levels_from t k l)
  unfolding levels_from concat
  uncut zero l h = absurd (omega arith)
  uncut (suc k) [] h = tt
  uncut (suc zero) (m ∷ l) h = let q = length-append (m ∷ l) (concat (levels_from t 0 (next_level t (m ∷ l)))) in absurd (omega arith)
  uncut (suc (suc k)) (m ∷ l) h =
      go (next_level t (m ∷ l)) refl
      (uncut (suc k) (next_level t (m ∷ l)) (let q = length-append (m ∷ l) (concat (levels_from t (suc k) (next_level t (m ∷ l)))) in omega arith))
    where
      go : (n : List ℕ) → next_level t (m ∷ l) ≡ n → Chain (levels_from t (suc k) (next_level t (m ∷ l)))
          → Chain ((m ∷ l) ∷ levels_from t (suc k) (next_level t (m ∷ l)))
      go [] e c = subst (λ z. Chain ((m ∷ l) ∷ z)) (sym (ap (λ z. levels_from t (suc k) z) e)) (omega arith, e)
      go (x ∷ n) e c = subst (λ z. Chain ((m ∷ l) ∷ levels_from t (suc k) z)) (sym e) (omega arith, e, subst (λ z. Chain (levels_from t (suc k) z)) e c)

  -- all but the first level is what the levels list
  pub listed-all : (v : ℕ → ℕ) (l : List ℕ) (ls : List (List ℕ)) → Chain (l ∷ ls) → over v (concat (l ∷ ls)) ≡ over v l + over (below_of t v) (concat (l ∷ ls))
  unfolding concat over
  listed-all v l [] c =
      let a = over-append v l [] in
      let b = over-append (below_of t v) l [] in
      let d : over (below_of t v) l ≡ 0 = sym (next-over t v l) ∙ ap (λ z. over v z) c.1 in
      omega arith
  listed-all v l (m ∷ ls) c =
      let a = over-append v l (concat (m ∷ ls)) in
      let b = over-append (below_of t v) l (concat (m ∷ ls)) in
      let d : over (below_of t v) l ≡ over v m = sym (next-over t v l) ∙ ap (λ z. over v z) c.1 in
      let i = listed-all v m ls c.2 in
      omega arith

  -- a listed kid is in the next level
  kid_next : (i c : ℕ) (l : List ℕ) → 0 < occurs i l → (node_at t i).leaf ≡ false → 0 < occurs c (node_at t i).list → 0 < occurs c (next_level t l)
  kid_next i c l o f q =
      let a = occurs-over c (next_level t l) in
      let b = next-over t (is c) l in
      let d = over_in (below_of t (is c)) i l o in
      let e : below_of t (is c) i ≡ over (is c) (node_at t i).list = ap (λ z. cond z 0 (over (is c) (node_at t i).list)) f in
      let h = occurs-over c (node_at t i).list in
      omega arith

  -- a kid of a member of the levels is in the levels below the first
  kid_rest : (i c : ℕ) (l : List ℕ) (ls : List (List ℕ)) → Chain (l ∷ ls) → 0 < occurs i (concat (l ∷ ls)) → (node_at t i).leaf ≡ false
      → 0 < occurs c (node_at t i).list → 0 < occurs c (concat ls)
  unfolding concat occurs
  kid_rest i c l [] ch o f q =
      let a = occurs-append i l [] in
      let b = kid_next i c l (omega arith) f q in
      let z : occurs c (next_level t l) ≡ 0 = ap (λ y. occurs c y) ch.1 in
      absurd (omega arith)
  kid_rest i c l (m ∷ ls) ch o f q = go (lt? 0 (occurs i l)) (λ p. kid_rest i c m ls ch.2 p f q)
    where
      parts : occurs i (l ++ concat (m ∷ ls)) ≡ occurs i l + occurs i (concat (m ∷ ls))
      parts = occurs-append i l (concat (m ∷ ls))

      tail : occurs c (m ++ concat ls) ≡ occurs c m + occurs c (concat ls)
      tail = occurs-append c m (concat ls)

      go : (0 < occurs i l) ⊎ (occurs i l ≤ 0) → (0 < occurs i (concat (m ∷ ls)) → 0 < occurs c (concat ls)) → 0 < occurs c (m ++ concat ls)
      go (inl p) ih =
          let b = kid_next i c l p f q in
          let z : occurs c (next_level t l) ≡ occurs c m = ap (λ y. occurs c y) ch.1 in
          let w = tail in
          omega arith
      go (inr p) ih = let a = parts in let b = ih (omega arith) in let w = tail in omega arith

  -- one rank lower
  pub kid_rank : (i c : ℕ) (ls : List (List ℕ)) → Chain ls → ((d : ℕ) → occurs d (concat ls) ≤ 1) → 0 < occurs i (concat ls) → (node_at t i).leaf ≡ false
      → 0 < occurs c (node_at t i).list → rank_in ls i ≡ suc (rank_in ls c)
  unfolding concat occurs
  kid_rank i c [] ch u o f q = absurd (not-suc-le-zero o)
  kid_rank i c (l ∷ []) ch u o f q = let a = kid_rest i c l [] ch o f q in absurd (not-suc-le-zero a)
  kid_rank i c (l ∷ (m ∷ ls)) ch u o f q =
      go (lt? 0 (occurs i l)) (λ p. kid_rank i c (m ∷ ls) ch.2 (λ d. let a = occurs-append d l (concat (m ∷ ls)) in let b = u d in omega arith) p f q)
    where
      parts : (d : ℕ) → occurs d (l ++ concat (m ∷ ls)) ≡ occurs d l + occurs d (concat (m ∷ ls))
      parts d = occurs-append d l (concat (m ∷ ls))

      in_rest : 0 < occurs c (concat (m ∷ ls))
      in_rest = kid_rest i c l (m ∷ ls) ch o f q

      not_here : occurs c l ≡ 0
      not_here = let a = parts c in let b = u c in let d = in_rest in omega arith

      go : (0 < occurs i l) ⊎ (occurs i l ≤ 0) → (0 < occurs i (concat (m ∷ ls)) → rank_in (m ∷ ls) i ≡ suc (rank_in (m ∷ ls) c))
          → rank_in (l ∷ m ∷ ls) i ≡ suc (rank_in (l ∷ m ∷ ls) c)
      go (inl p) ih =
          let b = kid_next i c l p f q in
          let z : occurs c (next_level t l) ≡ occurs c m = ap (λ y. occurs c y) ch.1 in
          rank_here l (m ∷ ls) i p ∙ ap suc (sym (rank_here m ls c (omega arith)) ∙ sym (rank_later l (m ∷ ls) c not_here))
      go (inr p) ih = let a = parts i in rank_later l (m ∷ ls) i (omega arith) ∙ ih (omega arith) ∙ ap suc (sym (rank_later l (m ∷ ls) c not_here))

  -- ---- leaves are in the last level

  all_of : (f : ℕ → Bool) (l : List ℕ) → T (every f l) → (c : ℕ) → 0 < occurs c l → T (f c)
  unfolding every occurs
  all_of f [] h c o = absurd (not-suc-le-zero o)
  all_of f (x ∷ l) h c o = go (same? c x) (λ p. all_of f l (and_r (f x) (every f l) h) c p)
    where
      go : (c ≡ x) ⊎ (c ≢ x) → (0 < occurs c l → T (f c)) → T (f c)
      go (inl e) ih = subst (λ z. T (f z)) (sym e) (and_l (f x) (every f l) h)
      go (inr e) ih = let a : occurs c (x ∷ l) ≡ is c x + occurs c l = occurs-cons c x l in let b = is_other c x e in ih (omega arith)

  or_cases : (a b : Bool) → T (a || b) → T a ⊎ T b
  or_cases true b h = inl tt
  or_cases false b h = inr h

  leaf_last : (l : List ℕ) → T (same_kind t l) → (i : ℕ) → 0 < occurs i l → (node_at t i).leaf ≡ true → length (next_level t l) ≡ 0
  unfolding same_kind
  leaf_last l k i o f = go (or_cases (every (λ i. (node_at t i).leaf) l) (every (λ i. not (node_at t i).leaf) l) k)
    where
      go : T (every (λ i. (node_at t i).leaf) l) ⊎ T (every (λ i. not (node_at t i).leaf) l) → length (next_level t l) ≡ 0
      go (inl a) =
          length_over (next_level t l) ∙ next-over t (λ _. 1) l
          ∙ over-same (below_of t (λ _. 1)) (λ _. 0) l (λ c q. each c (all_of (λ i. (node_at t i).leaf) l a c q)) ∙ over_zero l
        where
          each : (c : ℕ) → T (node_at t c).leaf → below_of t (λ _. 1) c ≡ 0
          each c h = by (node_at t c).leaf h
            where
              by : (b : Bool) → T b → cond b 0 (over (λ _. 1) (node_at t c).list) ≡ 0
              by true h = refl
              by false h = absurd h
      go (inr a) = absurd (subst (λ b. T (not b)) f (all_of (λ i. not (node_at t i).leaf) l a i o))

  pub leaf_rank : (i : ℕ) (ls : List (List ℕ)) → Chain ls → T (every (same_kind t) ls) → 0 < occurs i (concat ls) → (node_at t i).leaf ≡ true → rank_in ls i ≡ 0
  unfolding concat occurs every
  leaf_rank i [] ch k o f = absurd (not-suc-le-zero o)
  leaf_rank i (l ∷ []) ch k o f = let a = occurs-append i l [] in rank_here l [] i (omega arith)
  leaf_rank i (l ∷ (m ∷ ls)) ch k o f =
      go (lt? 0 (occurs i l)) (λ p. leaf_rank i (m ∷ ls) ch.2 (and_r (same_kind t l) (same_kind t m && every (same_kind t) ls) k) p f)
    where
      parts : occurs i (l ++ concat (m ∷ ls)) ≡ occurs i l + occurs i (concat (m ∷ ls))
      parts = occurs-append i l (concat (m ∷ ls))

      some-m : (ls : List (List ℕ)) → Chain (m ∷ ls) → 0 < length m
      some-m [] c = c.0
      some-m (n ∷ ls) c = c.0

      go : (0 < occurs i l) ⊎ (occurs i l ≤ 0) → (0 < occurs i (concat (m ∷ ls)) → rank_in (m ∷ ls) i ≡ 0) → rank_in (l ∷ m ∷ ls) i ≡ 0
      go (inl p) ih =
          let a = leaf_last l (and_l (same_kind t l) (same_kind t m && every (same_kind t) ls) k) i p f in
          let b : length (next_level t l) ≡ length m = ap (λ z. length z) ch.1 in
          let d = some-m ls ch.2 in
          absurd (omega arith)
      go (inr p) ih = let a = parts in rank_later l (m ∷ ls) i (omega arith) ∙ ih (omega arith)

  -- ---- how many have a rank

  unfoldable pub len_at : List (List ℕ) → ℕ → ℕ
  len_at [] r = 0
  len_at (l ∷ ls) r = is r (length ls) * length l + len_at ls r

  pub rank_count_lem : (r : ℕ) (ls : List (List ℕ)) → ((d : ℕ) → occurs d (concat ls) ≤ 1) → over (λ k. is r (rank_in ls k)) (concat ls) ≡ len_at ls r
  unfolding concat len_at over
  rank_count_lem r [] u = refl
  rank_count_lem r (l ∷ ls) u =
      let a = over-append (λ k. is r (rank_in (l ∷ ls) k)) l (concat ls) in
      let b : over (λ k. is r (rank_in (l ∷ ls) k)) l ≡ over (λ k. is r (length ls)) l =
      over-same (λ k. is r (rank_in (l ∷ ls) k)) (λ k. is r (length ls)) l (λ c o. ap (λ z. is r z) (rank_here l ls c o)) in
      let d : over (λ k. is r (rank_in (l ∷ ls) k)) (concat ls) ≡ over (λ k. is r (rank_in ls k)) (concat ls) =
      over-same (λ k. is r (rank_in (l ∷ ls) k)) (λ k. is r (rank_in ls k)) (concat ls)
      (λ c o. ap (λ z. is r z) (rank_later l ls c (let p = occurs-append c l (concat ls) in let q = u c in omega arith))) in
      let i = rank_count_lem r ls (λ d. let p = occurs-append d l (concat ls) in let q = u d in omega arith) in
      let e = const (is r (length ls)) l in
      omega arith
    where
      const : (v : ℕ) (l : List ℕ) → over (λ _. v) l ≡ v * length l
      const v [] = unfold over in (omega arith)
      const v (x ∷ l) = let p : over (λ _. v) (x ∷ l) ≡ v + over (λ _. v) l = unfold over in refl in let q = const v l in omega arith

  len_high : (r : ℕ) (ls : List (List ℕ)) → length ls ≤ r → len_at ls r ≡ 0
  unfolding len_at
  len_high r [] h = refl
  len_high r (l ∷ ls) h =
      let a = is_other r (length ls) (λ e. clash e h) in
      let b = len_high r ls (omega arith) in
      let c : is r (length ls) * length l ≡ 0 = ap (λ z. z * length l) a ∙ omega arith in
      omega arith
    where
      clash : r ≡ length ls → suc (length ls) ≤ r → ⊥
      clash e h = omega arith

  pub len_grows : (r : ℕ) (ls : List (List ℕ)) → T (growing ls) → len_at ls (suc r) ≤ len_at ls r - 1
  unfolding len_at growing
  len_grows r [] h = omega arith
  len_grows r (a ∷ []) h =
      let x = is_other (suc r) 0 (λ e. clash e) in
      let y : is (suc r) 0 * length a ≡ 0 = ap (λ z. z * length a) x ∙ omega arith in
      omega arith
    where
      clash : suc r ≡ 0 → ⊥
      clash e = omega arith
  len_grows r (a ∷ (b ∷ ls)) h =
      go (same? r (length ls)) (same? r (suc (length ls))) (len_grows r (b ∷ ls) (and_r (ltb (length a) (length b)) (growing (b ∷ ls)) h))
    where
      longer : length a < length b
      longer = ltb→lt (length a) (length b) (and_l (ltb (length a) (length b)) (growing (b ∷ ls)) h)

      suc_ne : (m n : ℕ) → m ≢ n → suc m ≢ suc n
      suc_ne m n d e = d (let q : suc m ≡ suc n = e in omega arith)

      go : (r ≡ length ls) ⊎ (r ≢ length ls) → (r ≡ suc (length ls)) ⊎ (r ≢ suc (length ls))
          → is (suc r) (length ls) * length b + len_at ls (suc r) ≤ is r (length ls) * length b + len_at ls r - 1
          → is (suc r) (suc (length ls)) * length a + (is (suc r) (length ls) * length b + len_at ls (suc r)) ≤ is r (suc (length ls)) * length
          a + (is r (length ls) * length b + len_at ls r) - 1
      go (inl e) q ih =
          let x1 : is (suc r) (suc (length ls)) * length a ≡ length a =
          ap (λ z. z * length a) (is_same (suc r) (suc (length ls)) (ap suc e)) ∙ one-mul (length a) in
          let x2 : is (suc r) (length ls) * length b ≡ 0 = ap (λ z. z * length b) (is_other (suc r) (length ls) (λ z. off e z)) ∙ omega arith in
          let x3 : is r (length ls) * length b ≡ length b = ap (λ z. z * length b) (is_same r (length ls) e) ∙ one-mul (length b) in
          let x4 = len_high (suc r) ls (omega arith) in
          let x5 = longer in
          omega arith
        where
          off : r ≡ length ls → suc r ≡ length ls → ⊥
          off e z = omega arith
      go (inr d) q ih =
          let x1 : is (suc r) (suc (length ls)) * length a ≡ 0 =
          ap (λ z. z * length a) (is_other (suc r) (suc (length ls)) (suc_ne r (length ls) d)) ∙ omega arith in
          by q x1
        where
          by : (r ≡ suc (length ls)) ⊎ (r ≢ suc (length ls)) → is (suc r) (suc (length ls)) * length a ≡ 0
              → is (suc r) (suc (length ls)) * length a + (is (suc r) (length ls) * length b + len_at ls (suc r)) ≤ is r (suc (length ls)) * length
              a + (is r (length ls) * length b + len_at ls r) - 1
          by (inl e) x1 =
              let x2 : is (suc r) (length ls) * length b ≡ 0 = ap (λ z. z * length b) (is_other (suc r) (length ls) (λ z. off e z)) ∙ omega arith in
              let x4 = len_high (suc r) ls (omega arith) in
              omega arith
            where
              off : r ≡ suc (length ls) → suc r ≡ length ls → ⊥
              off e z = omega arith
          by (inr e) x1 = omega arith

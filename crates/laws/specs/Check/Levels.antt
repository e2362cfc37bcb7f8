-- From the invariant to the check's levels: each node in one level, once; a level's nodes of one kind; levels grow downward.
use Prim.Native.Nat.{ℕ, zero, suc, ◌+◌, ◌≤◌, ◌<◌}
use Rattle.std.specs.Prelude.{◌≡◌, ◌⊎◌, ◌≢◌, Bool, ◌&&◌, ◌||◌, ltb}
use Rattle.std.proofs.Math.Path.{refl, sym, ap, subst}
use Rattle.std.proofs.Common.{◌∙◌, inl, inr, lt→ltb}
use Rattle.std.proofs.Math.Bool.{true, false, not, cond}
use mathlib.Core.List.{List, [], ◌∷◌, ◌++◌}
use native.Mathlib.Omega.{arith}
use Rattle.std.proofs.Math.Dec.{T}
use Rattle.std.specs.Float.Ieee.Fits.{and_i}
use Rattle.std.proofs.Math.ListN.{length}
use Rattle.head.specs.declared.Settings.{Settings}
use Rattle.rules.specs.Tree.{Tree, node_at}
use Rattle.rules.specs.Lists.{occurs, every, concat}
use Rattle.rules.specs.Check.{next_level, levels_from, levels, same_kind, growing, level}
use Rattle.counting.specs.Count.{is, is_same, is_other, is_eq, same?, below}
use Rattle.counting.specs.Sums.{over, over-same, over-append, occurs-over, length_over, sum_to, over_zero}
use Rattle.counting.specs.Sums.{sum_same, sum-some, sum-none, occurs_later, occurs_here}
use Rattle.laws.specs.Invariant.Height.{height, rank_zero}
use Rattle.laws.specs.Invariant.Links.{Links, nil, leaf?, rank_count}
use Rattle.counting.specs.Only.{only, only_at, only_off}
use Rattle.laws.specs.Invariant.Beneath.{Frame, frame-of, inners_sum, alone}
use Rattle.counting.specs.Totals.{sum-only}
use Rattle.laws.specs.Invariant.Collected.{under, under-leaf, under-inner, under_root}
use Rattle.counting.specs.Flags.{is_sum}
use Rattle.laws.specs.Check.Read.{below_of, next-over}

module _ {s : Settings} (t : Tree) {R : ℕ → ℕ} (g : Links s (node_at t) (length t.nodes) t.root (length t.entries) R nil nil nil) where
  fr : Frame (node_at t) (length t.nodes) t.root (length t.entries) R
  fr = frame-of s (node_at t) (length t.nodes) t.root (length t.entries) R nil nil g

  -- l has the nodes of rank h, each once
  abbrev Level : ℕ → List ℕ → Type 0
  Level h l = (v : ℕ → ℕ) → over v l ≡ sum_to (λ k. only (v k) h (R k)) (length t.nodes)

  root_level : Level (R t.root) (t.root ∷ [])
  root_level v =
      let a : over v (t.root ∷ []) ≡ v t.root + 0 = unfold over in refl in
      let b : sum_to (λ k. only (v k) (R t.root) (R k)) (length t.nodes) ≡ sum_to (λ k. only (v t.root) t.root k) (length t.nodes) =
      sum_same (λ k. only (v t.root) t.root k) (λ k. only (v k) (R t.root) (R k)) (length t.nodes) (λ k q. each k q (same? k t.root)) in
      let c = sum-only (v t.root) t.root (length t.nodes) g.root_in in
      omega arith
    where
      each : (k : ℕ) → k < length t.nodes → (k ≡ t.root) ⊎ (k ≢ t.root) → only (v k) (R t.root) (R k) ≡ only (v t.root) t.root k
      each k q (inl e) = only_at (v k) (R t.root) (R k) (ap R e) ∙ ap v e ∙ sym (only_at (v t.root) t.root k e)
      each k q (inr e) = only_off (v k) (R t.root) (R k) (λ z. e (alone fr v k q z)) ∙ sym (only_off (v t.root) t.root k e)

  -- what the nodes of rank h + 1 list is the nodes of rank h
  next_level_lem : (h : ℕ) (l : List ℕ) → suc h ≤ R t.root → Level (suc h) l → Level h (next_level t l)
  next_level_lem h l b lv v =
      let a = next-over t v l in
      let c = lv (below_of t v) in
      let d = inners_sum fr (λ m. only (v m) h (R m)) in
      let e = only_off (v t.root) h (R t.root) (high b) in
      let f : sum_to (λ k. only (below_of t v k) (suc h) (R k)) (length t.nodes) ≡ sum_to (λ k. below_of t (λ m. only (v m) h (R m)) k) (length t.nodes) =
      sum_same (λ k. below_of t (λ m. only (v m) h (R m)) k) (λ k. only (below_of t v k) (suc h) (R k)) (length t.nodes)
      (λ k q. each k q (same? (R k) (suc h)) (leaf? (node_at t k))) in
      omega arith
    where
      high : suc h ≤ R t.root → R t.root ≢ h
      high b e = omega arith

      each : (k : ℕ) → k < length t.nodes → (R k ≡ suc h) ⊎ (R k ≢ suc h) → ((node_at t k).leaf ≡ true) ⊎ ((node_at t k).leaf ≡ false)
          → only (below_of t v k) (suc h) (R k) ≡ below_of t (λ m. only (v m) h (R m)) k
      each k q (inl e) (inl f) = let z = g.grounded k q f in absurd (omega arith)
      each k q (inl e) (inr f) =
          only_at (below_of t v k) (suc h) (R k) e ∙ ap (λ b. cond b 0 (over v (node_at t k).list)) f
          ∙ sym (over-same (λ m. only (v m) h (R m)) v (node_at t k).list (λ c o. only_at (v c) h (R c) (let z = (g.kid k c q f o).1 in omega arith)))
          ∙ ap (λ b. cond b 0 (over (λ m. only (v m) h (R m)) (node_at t k).list)) (sym f)
      each k q (inr e) (inl f) = only_off (below_of t v k) (suc h) (R k) e ∙ ap (λ b. cond b 0 (over (λ m. only (v m) h (R m)) (node_at t k).list)) (sym f)
      each k q (inr e) (inr f) =
          only_off (below_of t v k) (suc h) (R k) e
          ∙ sym (over-same (λ m. only (v m) h (R m)) (λ _. 0) (node_at t k).list (λ c o. only_off (v c) h (R c) (λ z. e ((g.kid k c q f o).1 ∙ ap suc z)))
          ∙ over_zero (node_at t k).list)
          ∙ ap (λ b. cond b 0 (over (λ m. only (v m) h (R m)) (node_at t k).list)) (sym f)

  -- members of a level
  member : (h : ℕ) (l : List ℕ) → Level h l → (c : ℕ) → 0 < occurs c l → (c < length t.nodes) × (R c ≡ h)
  member h l lv c o =
      let a = occurs-over c l in
      let b = lv (is c) in
      let r = sum-some (λ k. only (is c k) h (R k)) (length t.nodes) (omega arith) in
      go r.0 r.1 r.2 (same? (R r.0) h)
    where
      go : (k : ℕ) → k < length t.nodes → 0 < only (is c k) h (R k) → (R k ≡ h) ⊎ (R k ≢ h) → (c < length t.nodes) × (R c ≡ h)
      go k l p (inl e) =
          let q = only_at (is c k) h (R k) e in
          let ck : c ≡ k = is_eq c k (omega arith) in
          (subst (λ z. z < length t.nodes) (sym ck) l, ap R ck ∙ e)
      go k l p (inr e) = let q = only_off (is c k) h (R k) e in absurd (omega arith)

  level-length : (h : ℕ) (l : List ℕ) → Level h l → length l ≡ rank_count R (length t.nodes) h
  unfolding rank_count
  level-length h l lv = length_over l ∙ lv (λ _. 1) ∙ sum_same (λ k. is h (R k)) (λ k. only 1 h (R k)) (length t.nodes) (λ k q. each k (same? (R k) h))
    where
      each : (k : ℕ) → (R k ≡ h) ⊎ (R k ≢ h) → only 1 h (R k) ≡ is h (R k)
      each k (inl e) = only_at 1 h (R k) e ∙ sym (is_same h (R k) (sym e))
      each k (inr e) = only_off 1 h (R k) e ∙ sym (is_other h (R k) (λ z. e (sym z)))

  last_level : (l : List ℕ) → Level 0 l → next_level t l ≡ []
  last_level l lv =
      empty (next_level t l)
      (length_over (next_level t l) ∙ next-over t (λ _. 1) l ∙ lv (below_of t (λ _. 1))
      ∙ sum-none (λ k. only (below_of t (λ _. 1) k) 0 (R k)) (length t.nodes) (λ k q. each k q (same? (R k) 0)))
    where
      empty : (m : List ℕ) → length m ≡ 0 → m ≡ []
      empty [] e = refl
      empty (x ∷ m) e = absurd (omega arith)

      each : (k : ℕ) → k < length t.nodes → (R k ≡ 0) ⊎ (R k ≢ 0) → only (below_of t (λ _. 1) k) 0 (R k) ≡ 0
      each k q (inl e) = only_at (below_of t (λ _. 1) k) 0 (R k) e ∙ ap (λ b. cond b 0 (over (λ _. 1) (node_at t k).list)) (rank_zero g k q e)
      each k q (inr e) = only_off (below_of t (λ _. 1) k) 0 (R k) e

  -- ---- the check's lists

  abbrev U : (ℕ → ℕ) → ℕ → ℕ
  U f m = under fr f m

  under_all : (v : ℕ → ℕ) (l : List ℕ) → ((c : ℕ) → 0 < occurs c l → c < length t.nodes) → over (U v) l ≡ over v l + over (below_of t (U v)) l
  unfolding over
  under_all v [] h = refl
  under_all v (k ∷ l) h =
      let a = under_all v l (λ c o. h c (occurs_later c k l o)) in
      let b = go (leaf? (node_at t k)) (h k (occurs_here k l)) in
      omega arith
    where
      go : ((node_at t k).leaf ≡ true) ⊎ ((node_at t k).leaf ≡ false) → k < length t.nodes → U v k ≡ v k + below_of t (U v) k
      go (inl f) q = let a = under-leaf fr v k q f in let b : below_of t (U v) k ≡ 0 = ap (λ b. cond b 0 (over (U v) (node_at t k).list)) f in omega arith
      go (inr f) q = under-inner fr v k q f ∙ ap (λ z. v k + z) (ap (λ b. cond b 0 (over (U v) (node_at t k).list)) (sym f))

  no_level : (k : ℕ) → levels_from t k [] ≡ []
  unfolding levels_from
  no_level zero = refl
  no_level (suc k) = refl

  joined_over : (v : ℕ → ℕ) (k h : ℕ) (l : List ℕ) → h < k → h ≤ R t.root → Level h l → over v (concat (levels_from t k l)) ≡ over (U v) l
  unfolding levels_from concat over
  joined_over v zero h l q b lv = absurd (omega arith)
  joined_over v (suc k) h [] q b lv = refl
  joined_over v (suc k) zero (m ∷ l) q b lv =
      let a : levels_from t k (next_level t (m ∷ l)) ≡ [] = ap (λ z. levels_from t k z) (last_level (m ∷ l) lv) ∙ no_level k in
      let d : over v ((m ∷ l) ++ concat (levels_from t k (next_level t (m ∷ l)))) ≡ over v (m ∷ l) + over v (concat (levels_from t k (next_level t (m ∷ l)))) =
      over-append v (m ∷ l) (concat (levels_from t k (next_level t (m ∷ l)))) in
      let e : over v (concat (levels_from t k (next_level t (m ∷ l)))) ≡ 0 = ap (λ z. over v (concat z)) a in
      let f = under_all v (m ∷ l) (λ c o. (member 0 (m ∷ l) lv c o).0) in
      let i : over (below_of t (U v)) (m ∷ l) ≡ 0 = sym (next-over t (U v) (m ∷ l)) ∙ ap (λ z. over (U v) z) (last_level (m ∷ l) lv) in
      omega arith
  joined_over v (suc k) (suc h) (m ∷ l) q b lv =
      let a = joined_over v k h (next_level t (m ∷ l)) (omega arith) (omega arith) (next_level_lem h (m ∷ l) b lv) in
      let d : over v ((m ∷ l) ++ concat (levels_from t k (next_level t (m ∷ l)))) ≡ over v (m ∷ l) + over v (concat (levels_from t k (next_level t (m ∷ l)))) =
      over-append v (m ∷ l) (concat (levels_from t k (next_level t (m ∷ l)))) in
      let f = under_all v (m ∷ l) (λ c o. (member (suc h) (m ∷ l) lv c o).0) in
      let i = next-over t (U v) (m ∷ l) in
      omega arith

  -- condition 4: every node once
  pub levels_once : (v : ℕ → ℕ) → over v (concat (levels t)) ≡ sum_to v (length t.nodes)
  unfolding levels
  levels_once v =
      let h = height g in
      let a = joined_over v (suc (length t.nodes)) (R t.root) (t.root ∷ []) (omega arith) (omega arith) root_level in
      let b : over (U v) (t.root ∷ []) ≡ U v t.root + 0 = unfold over in refl in
      let c = under_root fr v in
      omega arith

  pub each_once : (c : ℕ) → occurs c (concat (levels t)) ≡ below c (length t.nodes)
  each_once c = occurs-over c (concat (levels t)) ∙ levels_once (is c) ∙ is_sum c (length t.nodes)

  -- ---- condition 6

  every_of : (f : ℕ → Bool) (l : List ℕ) → ((c : ℕ) → 0 < occurs c l → f c ≡ true) → every f l ≡ true
  unfolding every
  every_of f [] h = refl
  every_of f (c ∷ l) h = ap (λ b. b && every f l) (h c (occurs_here c l)) ∙ every_of f l (λ d o. h d (occurs_later d c l o))

  kind : (h : ℕ) (l : List ℕ) → Level h l → same_kind t l ≡ true
  unfolding same_kind
  kind zero l lv =
      ap (λ b. b || every (λ i. not (node_at t i).leaf) l) (every_of (λ i. (node_at t i).leaf) l (λ c o. let q = member 0 l lv c o in rank_zero g c q.0
      q.1))
  kind (suc h) l lv =
      ap (λ b. every (λ i. (node_at t i).leaf) l || b) (every_of (λ i. not (node_at t i).leaf) l (λ c o. let q = member (suc h) l lv c o in go c q.0 q.1
      (leaf? (node_at t c)))) ∙ or_true (every (λ i. (node_at t i).leaf) l)
    where
      or_true : (b : Bool) → (b || true) ≡ true
      or_true true = refl
      or_true false = refl

      go : (c : ℕ) → c < length t.nodes → R c ≡ suc h → ((node_at t c).leaf ≡ true) ⊎ ((node_at t c).leaf ≡ false) → not (node_at t c).leaf ≡ true
      go c q e (inl f) = let z = g.grounded c q f in absurd (omega arith)
      go c q e (inr f) = ap not f

  kinds : (k h : ℕ) (l : List ℕ) → h ≤ R t.root → Level h l → every (same_kind t) (levels_from t k l) ≡ true
  unfolding levels_from every
  kinds zero h l b lv = refl
  kinds (suc k) h [] b lv = refl
  kinds (suc k) zero (m ∷ l) b lv =
      ap (λ z. z && every (same_kind t) (levels_from t k (next_level t (m ∷ l)))) (kind 0 (m ∷ l) lv) ∙ ap (λ z. every (same_kind t) (levels_from t k z))
      (last_level (m ∷ l) lv) ∙ ap (λ z. every (same_kind t) z) (no_level k)
  kinds (suc k) (suc h) (m ∷ l) b lv =
      ap (λ z. z && every (same_kind t) (levels_from t k (next_level t (m ∷ l)))) (kind (suc h) (m ∷ l) lv) ∙ kinds k h (next_level t (m ∷ l)) (omega arith)
      (next_level_lem h (m ∷ l) b lv)

  grow : (k h : ℕ) (l : List ℕ) → h < k → h ≤ R t.root → Level h l → T (growing (levels_from t k l))
  unfolding levels_from growing
  grow zero h l q b lv = absurd (omega arith)
  grow (suc k) h [] q b lv = tt
  grow (suc k) zero (m ∷ l) q b lv = subst (λ z. T (growing ((m ∷ l) ∷ z))) (sym (ap (λ z. levels_from t k z) (last_level (m ∷ l) lv) ∙ no_level k)) tt
  grow (suc zero) (suc h) (m ∷ l) q b lv = absurd (omega arith)
  grow (suc (suc k)) (suc h) (m ∷ l) q b lv =
      go (next_level t (m ∷ l)) refl (grow (suc k) h (next_level t (m ∷ l)) (omega arith) (omega arith) (next_level_lem h (m ∷ l) b lv))
    where
      longer : length (m ∷ l) < length (next_level t (m ∷ l))
      longer =
          let a = level-length (suc h) (m ∷ l) lv in
          let c = level-length h (next_level t (m ∷ l)) (next_level_lem h (m ∷ l) b lv) in
          let d = g.grows h in
          omega arith

      go : (n : List ℕ) → next_level t (m ∷ l) ≡ n → T (growing (levels_from t (suc k) (next_level t (m ∷ l))))
          → T (growing ((m ∷ l) ∷ levels_from t (suc k) (next_level t (m ∷ l))))
      go [] e r = let z : length (next_level t (m ∷ l)) ≡ 0 = ap (λ y. length y) e in let w = longer in absurd (omega arith)
      go (x ∷ n) e r =
          subst (λ z. T (growing ((m ∷ l) ∷ levels_from t (suc k) z))) (sym e)
          (and_i (ltb (length (m ∷ l)) (length (x ∷ n))) (growing ((x ∷ n) ∷ levels_from t k (next_level t (x ∷ n))))
          (lt→ltb (length (m ∷ l)) (length (x ∷ n)) (subst (λ z. length (m ∷ l) < length z) e longer)) (subst (λ z. T (growing (levels_from t (suc k) z))) e r))

  pub level_holds : T (level t)
  unfolding level levels
  level_holds =
      let h = height g in
      and_i (every (same_kind t) (levels_from t (suc (length t.nodes)) (t.root ∷ []))) (growing (levels_from t (suc (length t.nodes)) (t.root ∷ [])))
      (subst T (sym (kinds (suc (length t.nodes)) (R t.root) (t.root ∷ []) (omega arith) root_level)) tt)
      (grow (suc (length t.nodes)) (R t.root) (t.root ∷ []) (omega arith) (omega arith) root_level)

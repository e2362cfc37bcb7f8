-- Each node weighs the sum of the entry weights beneath it.
use Rattle.std.specs.Prelude.{ℕ, zero, suc, ◌+◌, ◌≤◌, ◌<◌, ◌≡◌, ◌⊎◌, true, false, [], ◌∷◌, map, length}
use Rattle.std.proofs.Math.Path.{refl, ap}
use Rattle.std.proofs.Common.{sym, ◌∙◌, subst, inl, inr}
use Rattle.std.proofs.Math.Bool.{cond}
use native.Mathlib.Omega.{arith}
use Rattle.head.specs.declared.Settings.{Settings}
use Rattle.rules.specs.Tree.{Tree, node_at, entry_at}
use Rattle.rules.specs.Reinsert.{collected}
use Rattle.rules.specs.Lists.{occurs}
use Rattle.rules.specs.Check.{total_of}
use Rattle.counting.specs.Count.{is, below-le}
use Rattle.counting.specs.Sums.{over, over-same, occurs-over, sum_to, sum_ones, occurs-only, over_in, first_of}
use Rattle.counting.specs.Flags.{is_sum}
use Rattle.laws.specs.Invariant.Links.{Links, nil, leaf?}
use Rattle.laws.specs.Invariant.Height.{rank_zero}
use Rattle.laws.specs.Invariant.Weigh.{own, own-leaf, own-inner}
use Rattle.laws.specs.Invariant.Sound.{entry_weight, node_weight, Settled}
use Rattle.laws.specs.Invariant.Beneath.{Frame, frame-of, deep-le, leaves_sum, kid_below, entry_below}
use Rattle.laws.specs.Invariant.Collected.{under, under-leaf, under-inner, under_root, collect_over}
use Rattle.laws.specs.Rebuilding.Reinsert.{entries_total}

module _ {s : Settings} (t : Tree) {R : ℕ → ℕ} (g : Links s (node_at t) (length t.nodes) t.root (length t.entries) R nil nil nil) where
  fr : Frame (node_at t) (length t.nodes) t.root (length t.entries) R
  fr = frame-of s (node_at t) (length t.nodes) t.root (length t.entries) R nil nil g

  abbrev U : (ℕ → ℕ) → ℕ → ℕ
  U f m = under fr f m

  abbrev L : ℕ → ℕ
  L k = cond (node_at t k).leaf (over (entry_weight t) (node_at t k).list) 0

  pub rows_beneath : ℕ → ℕ
  rows_beneath k = U L k

  pub rows_leaf : (k : ℕ) → k < length t.nodes → (node_at t k).leaf ≡ true → rows_beneath k ≡ over (entry_weight t) (node_at t k).list
  unfolding rows_beneath
  rows_leaf k l f = under-leaf fr L k l f ∙ ap (λ z. cond z (over (entry_weight t) (node_at t k).list) 0) f

  pub rows_inner : (k : ℕ) → k < length t.nodes → (node_at t k).leaf ≡ false → rows_beneath k ≡ over rows_beneath (node_at t k).list
  unfolding rows_beneath
  rows_inner k l f =
      let a = under-inner fr L k l f in
      let b : L k ≡ 0 = ap (λ z. cond z (over (entry_weight t) (node_at t k).list) 0) f in
      omega arith

  under-le : (f : ℕ → ℕ) (k : ℕ) → k < length t.nodes → U f k ≤ sum_to f (length t.nodes)
  unfolding under
  under-le f k l = deep-le fr f k l

  pub rows_le : (k : ℕ) → k < length t.nodes → rows_beneath k ≤ sum_to (entry_weight t) (length t.entries)
  unfolding rows_beneath
  rows_le k l = let a = under-le L k l in let b = leaves_sum fr (entry_weight t) in omega arith

  pub rows_root : rows_beneath t.root ≡ sum_to (entry_weight t) (length t.entries)
  unfolding rows_beneath
  rows_root = under_root fr L ∙ leaves_sum fr (entry_weight t)

  some-leaf : ((c : ℕ) → c < length t.entries → 1 ≤ entry_weight t c) → (k : ℕ) → k < length t.nodes → (node_at t k).leaf ≡ true → 1 ≤ rows_beneath k
  some-leaf some k l f =
      let c = first_of (node_at t k).list (g.filled k l) in
      let a = rows_leaf k l f in
      let b = over_in (entry_weight t) c.0 (node_at t k).list c.1 in
      let d = some c.0 (entry_below fr k c.0 l f c.1) in
      omega arith

  -- where every entry has a row, every node has
  pub rows_some : ((c : ℕ) → c < length t.entries → 1 ≤ entry_weight t c) → (h k : ℕ) → k < length t.nodes → R k ≤ h → 1 ≤ rows_beneath k
  rows_some some zero k l b = some-leaf some k l (rank_zero g k l (omega arith))
  rows_some some (suc h) k l b = go (leaf? (node_at t k)) (λ c q z. rows_some some h c q z)
    where
      go : ((node_at t k).leaf ≡ true) ⊎ ((node_at t k).leaf ≡ false) → ((c : ℕ) → c < length t.nodes → R c ≤ h → 1 ≤ rows_beneath c) → 1 ≤ rows_beneath k
      go (inl f) ih = some-leaf some k l f
      go (inr f) ih =
          let c = first_of (node_at t k).list (g.filled k l) in
          let a = rows_inner k l f in
          let w = over_in rows_beneath c.0 (node_at t k).list c.1 in
          let r = (g.kid k c.0 l f c.1).1 in
          let d = ih c.0 (kid_below fr k c.0 l f c.1) (omega arith) in
          omega arith

  abbrev pub SumsLists : Type 0
  SumsLists = (k : ℕ) → k < length t.nodes → node_weight t k ≡ own (node_at t k) (entry_weight t) (node_weight t)

  weigh_leaf : SumsLists → (k : ℕ) → k < length t.nodes → (node_at t k).leaf ≡ true → node_weight t k ≡ rows_beneath k
  weigh_leaf sums k l f = sums k l ∙ own-leaf (node_at t k) (entry_weight t) (node_weight t) f ∙ sym (rows_leaf k l f)

  -- by rank, from the leaves up: nodes that weigh their lists weigh what is beneath them
  pub weigh_beneath : SumsLists → (h k : ℕ) → k < length t.nodes → R k ≤ h → node_weight t k ≡ rows_beneath k
  weigh_beneath sums zero k l b = weigh_leaf sums k l (rank_zero g k l (omega arith))
  weigh_beneath sums (suc h) k l b = go (leaf? (node_at t k)) (λ c q z. weigh_beneath sums h c q z)
    where
      go : ((node_at t k).leaf ≡ true) ⊎ ((node_at t k).leaf ≡ false) → ((c : ℕ) → c < length t.nodes → R c ≤ h → node_weight t c ≡ rows_beneath c)
          → node_weight t k ≡ rows_beneath k
      go (inl f) ih = weigh_leaf sums k l f
      go (inr f) ih =
          sums k l ∙ own-inner (node_at t k) (entry_weight t) (node_weight t) f
          ∙ over-same (node_weight t) rows_beneath (node_at t k).list (λ c o. ih c (kid_below fr k c l f o) (let q = (g.kid k c l f o).1 in omega arith))
          ∙ sym (rows_inner k l f)

  only : (k m : ℕ) → k < length t.nodes → 0 < occurs m (k ∷ []) → m < length t.nodes
  only k m l o = subst (λ z. z < length t.nodes) (sym (occurs-only m k o)) l

  size-le : (k : ℕ) → k < length t.nodes → over (U (λ _. 1)) (k ∷ []) ≤ length t.nodes
  unfolding over
  size-le k l = let a = under-le (λ _. 1) k l in let b = sum_ones (length t.nodes) in omega arith

  -- as the check reads it
  pub beneath-is : (k : ℕ) → k < length t.nodes → total_of (map (entry_at t) (collected t (length t.nodes) (k ∷ []))) ≡ rows_beneath k
  unfolding rows_beneath
  beneath-is k l =
      let b : over (U L) (k ∷ []) ≡ U L k + 0 = unfold over in refl in
      let c = collect_over s t fr (entry_weight t) (length t.nodes) (k ∷ []) (λ m o. only k m l o) (size-le k l) in
      let e : total_of (map (entry_at t) (collected t (length t.nodes) (k ∷ []))) ≡ over (entry_weight t) (collected t (length t.nodes) (k ∷ [])) =
      entries_total t (collected t (length t.nodes) (k ∷ [])) in
      omega arith

  -- no entry is twice beneath a node
  pub beneath_once : (k c : ℕ) → k < length t.nodes → occurs c (collected t (length t.nodes) (k ∷ [])) ≤ 1
  beneath_once k c l =
      let f : ℕ → ℕ = λ k. cond (node_at t k).leaf (over (is c) (node_at t k).list) 0 in
      let b : over (U f) (k ∷ []) ≡ U f k + 0 = unfold over in refl in
      let d : over (is c) (collected t (length t.nodes) (k ∷ [])) ≡ over (U f) (k ∷ []) = collect_over s t fr (is c) (length t.nodes) (k ∷ [])
      (λ m o. only k m l o) (size-le k l) in
      let e = under-le f k l in
      let h : sum_to f (length t.nodes) ≡ sum_to (is c) (length t.entries) = leaves_sum fr (is c) in
      let i = is_sum c (length t.entries) in
      let j = below-le c (length t.entries) in
      let o : occurs c (collected t (length t.nodes) (k ∷ [])) ≡ over (is c) (collected t (length t.nodes) (k ∷ [])) =
      occurs-over c (collected t (length t.nodes) (k ∷ [])) in
      omega arith

-- each node of a settled tree weighs the entries beneath it
pub beneath-weighs : {s : Settings} {t : Tree} {R : ℕ → ℕ} {total : ℕ} (g : Settled s t R total) (k : ℕ) → k < length t.nodes → node_weight t k ≡ total_of
    (map (entry_at t) (collected t (length t.nodes) (k ∷ [])))
beneath-weighs {t = t} {R = R} g k l = weigh_beneath t g.links g.weighs.sums (R k) k l (omega arith) ∙ sym (beneath-is t g.links k l)

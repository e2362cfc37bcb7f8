-- Beneath every node of a standing tree there is a leaf, and so no list is longer than the leaves or the entries are many.
use Rattle.std.specs.Prelude.{ℕ, zero, suc, ◌+◌, ◌≤◌, ◌<◌, ◌≡◌, true, false, cond, ◌⊎◌}
use Rattle.std.proofs.Math.Path.{refl, ap}
use Rattle.std.proofs.Common.{◌∙◌, inl, inr}
use mathlib.Core.List.{List, [], ◌∷◌}
use native.Mathlib.Omega.{arith}
use Rattle.std.proofs.Math.ListN.{length}
use Rattle.head.specs.declared.Settings.{Settings}
use Rattle.head.specs.Sizes.{entry_cap}
use Rattle.rules.specs.Lists.{occurs}
use Rattle.rules.specs.Tree.{Tree, node_at}
use Rattle.counting.specs.Sums.{over, length_over, occurs_here, occurs_later, sum_to, sum-at, sum_ones}
use Rattle.laws.specs.Invariant.Links.{leaf?}
use Rattle.laws.specs.Invariant.Beneath.{Frame, kid_below, leaves_sum, deep-le}
use Rattle.laws.specs.Invariant.Collected.{under, under-leaf, under-inner}
use Rattle.laws.specs.ForCode.{Standing, leaf_count}

-- 1 for a leaf
unfoldable pub one_leaf : Tree → ℕ → ℕ
one_leaf t k = cond (node_at t k).leaf 1 0

-- each of a list weighs 1 at least
pub over_long : (w : ℕ → ℕ) (l : List ℕ) → ((c : ℕ) → 0 < occurs c l → 0 < w c) → length l ≤ over w l
unfolding over
over_long w [] h = omega arith
over_long w (c ∷ l) h =
    let a = h c (occurs_here c l) in
    let b = over_long w l (λ d o. h d (occurs_later d c l o)) in
    omega arith

module _ (s : Settings) (t : Tree) (u : Standing s t) where
  abbrev frame : Frame (node_at t) (length t.nodes) t.root (length t.entries) u.framed.R
  frame = u.framed.frame

  -- how many leaves are beneath node m
  unfoldable pub leaves_under : ℕ → ℕ
  leaves_under m = under frame (one_leaf t) m

  -- by rank: a leaf is one, and an inner node has a child
  some_by : (r m : ℕ) → u.framed.R m < r → m < length t.nodes → 0 < leaves_under m
  some_by zero m h l = absurd (omega arith)
  some_by (suc r) m h l = go (leaf? (node_at t m)) (λ k q b. some_by r k q b)
    where
      go : ((node_at t m).leaf ≡ true) ⊎ ((node_at t m).leaf ≡ false) → ((k : ℕ) → u.framed.R k < r → k < length t.nodes → 0 < leaves_under k)
          → 0 < leaves_under m
      go (inl e) ih = unfold leaves_under one_leaf in rw (under-leaf frame (one_leaf t) m l e, e) (omega arith)
      go (inr e) ih = first (node_at t m).list refl (u.inners m l e)
        where
          first : (ks : List ℕ) → (node_at t m).list ≡ ks → 0 < length ks → 0 < leaves_under m
          first [] q p = absurd (omega arith)
          first (k ∷ ks) q p =
              let o : 0 < occurs k (node_at t m).list = rw q (occurs_here k ks) in
              let r = (frame.kid m k l e o).1 in
              let b = ih k (omega arith) (kid_below frame m k l e o) in
              let a : leaves_under m ≡ one_leaf t m + (leaves_under k + over leaves_under ks) =
              (unfold leaves_under in under-inner frame (one_leaf t) m l e ∙ ap (λ ks. one_leaf t m + over (under frame (one_leaf t)) ks) q ∙
              (unfold over in refl)) in
              omega arith

  pub some-leaf : (m : ℕ) → m < length t.nodes → 0 < leaves_under m
  some-leaf m l = some_by (suc (u.framed.R m)) m (omega arith) l

  -- nodes one after the other have each a leaf beneath them
  pub nodes_few : (l : List ℕ) → ((c : ℕ) → 0 < occurs c l → c < length t.nodes) → length l ≤ over leaves_under l
  nodes_few l h = over_long leaves_under l (λ c o. some-leaf c (h c o))

  pub under-few : (m : ℕ) → m < length t.nodes → leaves_under m ≤ entry_cap s
  unfolding leaves_under under one_leaf
  under-few m l =
      let a = deep-le frame (one_leaf t) m l in
      let b : sum_to (one_leaf t) (length t.nodes) ≤ entry_cap s = (unfold leaf_count one_leaf in u.leaves_few) in
      omega arith

  -- a list is no longer than the entries' cap
  pub list_few : (m : ℕ) → m < length t.nodes → length (node_at t m).list ≤ entry_cap s
  list_few m l = go (leaf? (node_at t m))
    where
      go : ((node_at t m).leaf ≡ true) ⊎ ((node_at t m).leaf ≡ false) → length (node_at t m).list ≤ entry_cap s
      go (inl e) =
          let a = length_over (node_at t m).list in
          let b = sum-at (λ k. cond (node_at t k).leaf (over (λ _. 1) (node_at t k).list) 0) m (length t.nodes) l in
          let c : cond (node_at t m).leaf (over (λ _. 1) (node_at t m).list) 0 ≡ over (λ _. 1) (node_at t m).list = rw e in
          let d = leaves_sum frame (λ _. 1) in
          let f = sum_ones (length t.entries) in
          let h = u.entries_few in
          omega arith
      go (inr e) =
          let a = nodes_few (node_at t m).list (λ c o. kid_below frame m c l e o) in
          let b : leaves_under m ≡ one_leaf t m + over leaves_under (node_at t m).list = (unfold leaves_under in under-inner frame (one_leaf t) m l e) in
          let d = under-few m l in
          omega arith

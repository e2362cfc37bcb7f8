-- The order of a refold: the nodes from the root down, each once, a parent before its children.
use Prim.Native.Nat.{ℕ, zero, suc, ◌+◌, ◌≤◌, ◌<◌}
use Rattle.std.specs.Prelude.{◌≡◌, ◌⊎◌, Bool, true, cond, length}
use Rattle.std.proofs.Math.Path.{refl, subst}
use Rattle.std.proofs.Common.{sym, inl, inr}
use Rattle.std.proofs.Math.Bool.{false}
use mathlib.Core.List.{List, [], ◌∷◌, ◌++◌}
use native.Mathlib.Omega.{arith}
use Rattle.rules.specs.Tree.{Tree, node_at}
use Rattle.rules.specs.Refold.{preorder}
use Rattle.rules.specs.Lists.{occurs}
use Rattle.counting.specs.Count.{is, is_same, lt?, below_in}
use Rattle.counting.specs.Sums.{over, over-append, over_in, occurs-over, occurs-append, occurs-cons, sum_to, occurs_here, sum_ones, occurs-only}
use Rattle.laws.specs.Invariant.Links.{leaf?}
use Rattle.counting.specs.Flags.{is_sum}
use Rattle.laws.specs.Invariant.Beneath.{Frame, kid_below}
use Rattle.laws.specs.Invariant.Collected.{under, under-leaf, under-inner, under_root}

module _ (t : Tree) {R : ℕ → ℕ} (fr : Frame (node_at t) (length t.nodes) t.root (length t.entries) R) where
  abbrev U : (ℕ → ℕ) → ℕ → ℕ
  U f m = under fr f m

  U-leaf : (f : ℕ → ℕ) (m : ℕ) → m < length t.nodes → (node_at t m).leaf ≡ true → U f m ≡ f m
  U-leaf = under-leaf fr

  U-inner : (f : ℕ → ℕ) (m : ℕ) → m < length t.nodes → (node_at t m).leaf ≡ false → U f m ≡ f m + over (U f) (node_at t m).list
  U-inner = under-inner fr

  self_under : (f : ℕ → ℕ) (m : ℕ) → m < length t.nodes → f m ≤ U f m
  self_under f m l = go (leaf? (node_at t m))
    where
      go : ((node_at t m).leaf ≡ true) ⊎ ((node_at t m).leaf ≡ false) → f m ≤ U f m
      go (inl u) = let a = U-leaf f m l u in omega arith
      go (inr u) = let a = U-inner f m l u in omega arith

  -- ---- the order of the refold

  abbrev Below : List ℕ → Type 0
  Below ns = (m : ℕ) → 0 < occurs m ns → m < length t.nodes

  head-below : (m : ℕ) (ns : List ℕ) → Below (m ∷ ns) → m < length t.nodes
  head-below m ns h = h m (occurs_here m ns)

  abbrev next : ℕ → List ℕ → List ℕ
  next m ns = cond (node_at t m).leaf [] (node_at t m).list ++ ns

  next-below : (m : ℕ) (ns : List ℕ) → Below (m ∷ ns) → Below (next m ns)
  next-below m ns h = go (node_at t m).leaf refl
    where
      rest : Below ns
      rest c o = h c (let p = occurs-cons c m ns in omega arith)

      go : (b : Bool) → (node_at t m).leaf ≡ b → Below (cond b [] (node_at t m).list ++ ns)
      go true e c o = rest c o
      go false e c o = by (lt? 0 (occurs c (node_at t m).list))
        where
          by : (0 < occurs c (node_at t m).list) ⊎ (occurs c (node_at t m).list ≤ 0) → c < length t.nodes
          by (inl q) = kid_below fr m c (head-below m ns h) e q
          by (inr q) = let p = occurs-append c (node_at t m).list ns in rest c (omega arith)

  next-over : (f : ℕ → ℕ) (m : ℕ) (ns : List ℕ) → Below (m ∷ ns) → over (U f) (m ∷ ns) ≡ f m + over (U f) (next m ns)
  next-over f m ns h = go (node_at t m).leaf refl
    where
      split : over (U f) (m ∷ ns) ≡ U f m + over (U f) ns
      split = unfold over in refl

      go : (b : Bool) → (node_at t m).leaf ≡ b → over (U f) (m ∷ ns) ≡ f m + over (U f) (cond b [] (node_at t m).list ++ ns)
      go true e = let a = split in let b = U-leaf f m (head-below m ns h) e in omega arith
      go false e = let a = split in let b = U-inner f m (head-below m ns h) e in let c = over-append (U f) (node_at t m).list ns in omega arith

  pre_over : (v : ℕ → ℕ) (k : ℕ) (ns : List ℕ) → Below ns → over (U (λ _. 1)) ns ≤ k → over v (preorder t k ns) ≡ over (U v) ns
  unfolding preorder
  pre_over v zero [] h b = unfold over in refl
  pre_over v zero (m ∷ ns) h b = let a = next-over (λ _. 1) m ns h in absurd (omega arith)
  pre_over v (suc k) [] h b = unfold over in refl
  pre_over v (suc k) (m ∷ ns) h b =
      let a = next-over (λ _. 1) m ns h in
      let i = pre_over v k (next m ns) (next-below m ns h) (omega arith) in
      let c = next-over v m ns h in
      let d = cons v m (preorder t k (next m ns)) in
      omega arith
    where
      cons : (v : ℕ → ℕ) (m : ℕ) (l : List ℕ) → over v (m ∷ l) ≡ v m + over v l
      cons v m l = unfold over in refl

  pre_has : (k : ℕ) (ns : List ℕ) → Below ns → over (U (λ _. 1)) ns ≤ k → (c : ℕ) → 0 < occurs c ns → 0 < occurs c (preorder t k ns)
  pre_has k ns h b c o =
      let a = occurs-over c (preorder t k ns) in
      let d = pre_over (is c) k ns h b in
      let e = over_in (U (is c)) c ns o in
      let f = self_under (is c) c (h c o) in
      let i = is_same c c refl in
      omega arith

  -- an inner node's list comes after it
  abbrev pub Ordered : List ℕ → Type 0
  Ordered [] = Unit
  Ordered (m ∷ l) = (m < length t.nodes) × ((node_at t m).leaf ≡ false → (c : ℕ) → 0 < occurs c (node_at t m).list → 0 < occurs c l) × Ordered l

  pre_ordered : (k : ℕ) (ns : List ℕ) → Below ns → over (U (λ _. 1)) ns ≤ k → Ordered (preorder t k ns)
  unfolding preorder
  pre_ordered zero ns h b = tt
  pre_ordered (suc k) [] h b = tt
  pre_ordered (suc k) (m ∷ ns) h b =
      let a = next-over (λ _. 1) m ns h in
      let small : over (U (λ _. 1)) (next m ns) ≤ k = omega arith in
      (head-below m ns h, (λ e c o. pre_has k (next m ns) (next-below m ns h) small c (kid c e o)), pre_ordered k (next m ns) (next-below m ns h) small)
    where
      kid : (c : ℕ) → (node_at t m).leaf ≡ false → 0 < occurs c (node_at t m).list → 0 < occurs c (next m ns)
      kid c e o = subst (λ b. 0 < occurs c (cond b [] (node_at t m).list ++ ns)) (sym e) (let p = occurs-append c (node_at t m).list ns in omega arith)

  root_below : Below (t.root ∷ [])
  root_below m o = subst (λ z. z < length t.nodes) (sym (occurs-only m t.root o)) fr.root_in

  one_root : (f : ℕ → ℕ) → over (U f) (t.root ∷ []) ≡ sum_to f (length t.nodes)
  one_root f =
      let a : over (U f) (t.root ∷ []) ≡ U f t.root + 0 = unfold over in refl in
      let b = under_root fr f in
      omega arith

  fuel : over (U (λ _. 1)) (t.root ∷ []) ≤ length t.nodes
  fuel = let a = one_root (λ _. 1) in let b = sum_ones (length t.nodes) in omega arith

  pub every_node : (c : ℕ) → c < length t.nodes → 0 < occurs c (preorder t (length t.nodes) (t.root ∷ []))
  every_node c h =
      let a = occurs-over c (preorder t (length t.nodes) (t.root ∷ [])) in
      let b = pre_over (is c) (length t.nodes) (t.root ∷ []) root_below fuel in
      let d = one_root (is c) in
      let e = is_sum c (length t.nodes) in
      let f = below_in c (length t.nodes) h in
      omega arith

  pub root_ordered : Ordered (preorder t (length t.nodes) (t.root ∷ []))
  root_ordered = pre_ordered (length t.nodes) (t.root ∷ []) root_below fuel

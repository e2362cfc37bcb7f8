-- The row's path has its leaf, and with each node that node's parent.
use Prim.Native.Nat.{ℕ, zero, suc, ◌+◌, ◌<◌}
use Rattle.std.specs.Prelude.{◌≡◌, ◌⊎◌, ◌≢◌, Option, None, Some}
use Rattle.std.proofs.lemmas.Option.{none-some, same_Some}
use Rattle.std.proofs.Math.Path.{refl, ap, subst}
use Rattle.std.proofs.Common.{sym, ◌∙◌, inl, inr, arith}
use mathlib.Core.List.{[]}
use Rattle.std.proofs.Math.ListN.{length}
use Rattle.head.specs.declared.Settings.{Settings}
use Rattle.rules.specs.Lists.{occurs}
use Rattle.rules.specs.Tree.{Tree, node_at}
use Rattle.promises.specs.Demand.{way_up, path_up, OnPath}
use Rattle.counting.specs.Count.{same?, is_other}
use Rattle.laws.specs.Invariant.Links.{nil, Links, parent_lists}
use Rattle.counting.specs.Sums.{occurs_here, occurs-cons, occurs_later}
use Rattle.laws.specs.Invariant.Height.{height}

pub way_first : (t : Tree) (k n : ℕ) → 0 < k → 0 < occurs n (way_up t k (Some n))
unfolding way_up
way_first t zero n h = absurd (omega arith)
way_first t (suc k) n h = occurs_here n (way_up t k (node_at t n).parent)

way_none : (t : Tree) (k m : ℕ) → occurs m (way_up t k None) ≡ 0
unfolding way_up occurs
way_none t zero m = refl
way_none t (suc k) m = refl

-- whoever is on the way has its parent on it: the node count is steps enough
module _ {s : Settings} (t : Tree) {R : ℕ → ℕ} (g : Links s (node_at t) (length t.nodes) t.root (length t.entries) R nil nil nil) where
  way_parent : (k i m p : ℕ) → i < length t.nodes → R t.root < R i + k → 0 < occurs m (way_up t k (Some i)) → (node_at t m).parent ≡ Some p
      → 0 < occurs p (way_up t k (Some i))
  unfolding way_up
  way_parent zero i m p l h o e = let z : occurs m [] ≡ 0 = unfold occurs in refl in absurd (omega arith)
  way_parent (suc k) i m p l h o e =
      occurs_later p i (way_up t k (node_at t i).parent) (go (same? m i) (node_at t i).parent refl (λ q a b c. way_parent k q m p a b c e))
    where
      go : (m ≡ i) ⊎ (m ≢ i) → (o : Option ℕ) → (node_at t i).parent ≡ o
          → ((q : ℕ) → q < length t.nodes → R t.root < R q + k → 0 < occurs m (way_up t k (Some q)) → 0 < occurs p (way_up t k (Some q)))
          → 0 < occurs p (way_up t k o)
      go (inl z) None f ih = absurd (none-some p (sym f ∙ ap (λ y. (node_at t y).parent) (sym z) ∙ e))
      go (inl z) (Some q) f ih =
          let r = parent_lists g i q l refl f in
          let w = g.top q r.0 in
          let u = r.3 in
          let same : q ≡ p = same_Some q p (sym f ∙ ap (λ y. (node_at t y).parent) (sym z) ∙ e) in
          subst (λ y. 0 < occurs y (way_up t k (Some q))) same (way_first t k q (omega arith))
      go (inr z) None f ih =
          let a = occurs-cons m i (way_up t k (node_at t i).parent) in
          let b = is_other m i z in
          let c : occurs m (way_up t k (node_at t i).parent) ≡ 0 = ap (λ y. occurs m (way_up t k y)) f ∙ way_none t k m in
          absurd (omega arith)
      go (inr z) (Some q) f ih =
          let r = parent_lists g i q l refl f in
          let u = r.3 in
          let a = occurs-cons m i (way_up t k (node_at t i).parent) in
          let b = is_other m i z in
          let c : occurs m (way_up t k (node_at t i).parent) ≡ occurs m (way_up t k (Some q)) = ap (λ y. occurs m (way_up t k y)) f in
          ih q r.0 (omega arith) (omega arith)

  pub path_leaf-on : (l : ℕ) → OnPath t l l
  unfolding path_up
  path_leaf-on l = way_first t (length t.nodes) l (let r = g.root_in in omega arith)

  pub path_parent_on : (l m p : ℕ) → l < length t.nodes → OnPath t l m → (node_at t m).parent ≡ Some p → OnPath t l p
  unfolding path_up
  path_parent_on l m p here o e = let h = height g in way_parent (length t.nodes) l m p here (omega arith) o e

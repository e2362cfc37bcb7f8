-- A tree that rows are routed in, and the leaf that one comes to.
use Rattle.std.specs.Prelude.{ℕ, ◌<◌, ◌≡◌, true, List, length, Float}
use Rattle.std.proofs.Common.{ap, ◌∙◌, inl, inr, arith}
use Rattle.head.specs.declared.Settings.{Settings}
use Rattle.head.specs.declared.Counters.{Counters}
use Rattle.rules.specs.Tree.{Tree, dist_to, node_at, entry_at}
use Rattle.rules.specs.Slices.{tree_of}
use Rattle.rules.specs.Descent.{closest, leaf_for}
use Rattle.laws.specs.Inserting.Grown.{Whole}
use Rattle.laws.specs.Inserting.First.{Holding, leaf-of}
use Rattle.laws.specs.Check.Both.{AtRest}
use Rattle.laws.specs.ForCode.{Sure, sure_of}
use Rattle.arena.specs.Trees.{ChildrenIn, count_nodes_lem}
use Rattle.bounds.specs.Sure.{children_in}
use Rattle.rules.specs.Route.{greedy}

-- a tree that holds so many rows, and so has entries
pub record Routable (s : Settings) (t : Tree) : Type 0 where
  pub rows : ℕ
  pub whole : Whole s t rows

-- as a tree between calls does if it has any
pub rest_routable : (s : Settings) (t : Tree) (rows : ℕ) → AtRest s t rows → 0 < length t.entries → Routable s t
rest_routable s t rows r h = go r.holds
  where
    go : Holding s t rows → Routable s t
    go (inl b) = let none : length t.entries ≡ 0 = ap (λ u. length u.entries) b.0.is in absurd (omega arith)
    go (inr w) = record { rows = rows; whole = w }

pub routable_sure : (s : Settings) (t : Tree) → Routable s t → Sure s t
routable_sure s t g = sure_of s t g.rows (inr g.whole)

-- ---- the leaf of a row x, and its list

module _ (s : Settings) (n : Counters) (fs : List Float) (ls : List ℕ) (x : List Float) (g : Routable s (tree_of s n fs ls)) (leaf : ℕ)
    (e : leaf ≡ leaf_for (tree_of s n fs ls) (λ c. dist_to s c x)) (h : leaf < n.nodes) {list : List ℕ} (q : list ≡ (node_at (tree_of s n fs ls) leaf).list) where
  pub leaf-some : 0 < length list
  leaf-some = rw q (g.whole.1.links.filled leaf (rw (count_nodes_lem s n fs ls) h))

  pub leaf_entries : ChildrenIn n true list
  leaf_entries =
      rw q (children_in s n fs ls (routable_sure s (tree_of s n fs ls) g) leaf h true
      (rw e (leaf-of s (tree_of s n fs ls) g.rows (λ c. dist_to s c x) (inr g.whole)).1))

  -- the closest of them
  pub route_is : {r : ℕ} → r ≡ closest (λ e. dist_to s (entry_at (tree_of s n fs ls) e) x) list → r ≡ greedy s (tree_of s n fs ls) x
  unfolding greedy
  route_is p = p ∙ rw (q, e)

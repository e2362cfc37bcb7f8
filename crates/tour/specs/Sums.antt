-- Sums over the levels of a tree, by depth and node.
use Rattle.std.specs.Prelude.{ℕ, zero, suc, ◌+◌, cond, List, [], ◌∷◌, ltb, eqb, length}
use Rattle.rules.specs.Tree.{Tree, node_at}
use Rattle.counting.specs.Sums.{over}

-- the nodes that node i lists
unfoldable pub kids : Tree → ℕ → List ℕ
kids t i = cond (node_at t i).leaf [] (node_at t i).list

-- of the levels from depth d on
unfoldable pub deep_sum : (ℕ → ℕ → ℕ) → ℕ → List (List ℕ) → ℕ
deep_sum v d [] = 0
deep_sum v d (l ∷ ls) = over (v d) l + deep_sum v (suc d) ls

-- of a node and those beneath it, the node at depth d, as far as f levels
unfoldable pub beneath : Tree → (ℕ → ℕ → ℕ) → ℕ → ℕ → ℕ → ℕ
beneath t v zero d i = 0
beneath t v (suc f) d i = v d i + over (beneath t v f (suc d)) (kids t i)

-- what counts w at depth e alone
unfoldable pub at_depth : (ℕ → ℕ) → ℕ → ℕ → ℕ → ℕ
at_depth w e d i = cond (eqb e d) (w i) 0

-- a leaf, an inner node, a fork: an inner node that lists two or more
unfoldable pub leaf_of : Tree → ℕ → ℕ
leaf_of t i = cond (node_at t i).leaf 1 0

unfoldable pub inner_of : Tree → ℕ → ℕ
inner_of t i = cond (node_at t i).leaf 0 1

unfoldable pub fork_of : Tree → ℕ → ℕ
fork_of t i = cond (node_at t i).leaf 0 (cond (ltb 1 (length (node_at t i).list)) 1 0)

unfoldable pub any_of : ℕ → ℕ
any_of i = 1

-- Descent to a leaf, the search in it, and the way back up.
use Rattle.std.specs.Prelude.{ℕ, zero, suc, true, false, cond, List, [], ◌∷◌, length, get_or, Float, Option, None, Some}
use Rattle.std.specs.Float.Ieee.{lt}
use Rattle.binary64.specs.Operators.{infinity}
use Rattle.feature.specs.declared.Summary.{Summary}
use Rattle.rules.specs.Lists.{change_at}
use Rattle.rules.specs.Tree.{Node, Tree, blank_node, node_at, with_nodes, summed}

-- ---- the closest of a list

-- a number of a list and its distance
pub data Best : Type 0 where
  best : ℕ → Float → Best

abbrev pub who : Best → ℕ
who (best i d) = i

-- a later one only if it is strictly closer: a NaN never wins
unfoldable pub closer : Best → ℕ → Float → Best
closer (best i d) j e = cond (lt e d) (best j e) (best i d)

unfoldable pub nearest : (ℕ → Float) → Best → List ℕ → Best
nearest f b [] = b
nearest f b (c ∷ cs) = nearest f (closer b c (f c)) cs

-- the first, then any later one strictly closer; 0 for an empty list
unfoldable pub closest : (ℕ → Float) → List ℕ → ℕ
closest f [] = 0
closest f (c ∷ cs) = who (nearest f (best c (f c)) cs)

-- ---- descent

-- from node n down to a leaf by a distance to summaries; k steps at most
unfoldable pub descended : Tree → (Summary → Float) → ℕ → ℕ → ℕ
descended t f zero n = n
descended t f (suc k) n =
    elim (node_at t n).leaf [ true ↦ n | false ↦ descended t f k (closest (λ c. f (node_at t c).summary) (node_at t n).list) ]

-- the leaf that the root leads to; the node count is steps enough
unfoldable pub leaf_for : Tree → (Summary → Float) → ℕ
leaf_for t f = descended t f (length t.nodes) t.root

-- ---- the search in a leaf: from infinity, so that it may give nothing

pub record Search : Type 0 where
  pub near : Option ℕ
  pub least : Float

unfoldable pub better : Search → ℕ → Float → Search
better b j e = cond (lt e b.least) (record { near = Some j; least = e }) b

unfoldable pub searching : (ℕ → Float) → Search → List ℕ → Search
searching f b [] = b
searching f b (c ∷ cs) = searching f (better b c (f c)) cs

unfoldable pub searched : (ℕ → Float) → List ℕ → Option ℕ
searched f l = (searching f (record { near = None; least = infinity }) l).near

-- ---- the path up: the summary of each node from n to the root changed; k steps at most

unfoldable pub climbed : (Summary → Summary) → ℕ → Option ℕ → List Node → List Node
climbed f zero n ns = ns
climbed f (suc k) None ns = ns
climbed f (suc k) (Some n) ns = climbed f k (get_or ns n blank_node).parent (change_at (summed f) n ns)

unfoldable pub along_path : (Summary → Summary) → ℕ → Tree → Tree
along_path f n t = with_nodes (climbed f (length t.nodes) (Some n) t.nodes) t

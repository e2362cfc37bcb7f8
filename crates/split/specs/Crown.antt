-- A new root over two nodes: both told of it, the node more, and its number as the root.
use Rattle.std.specs.Prelude.{ℕ, zero, suc, ◌≤◌, ◌<◌, ◌≡◌, false, [], ◌∷◌, length, None}
use Rattle.std.proofs.Math.Path.{sym}
use Rattle.std.proofs.Common.{arith}
use Rattle.feature.specs.declared.Summary.{Summary}
use Rattle.head.specs.declared.Settings.{Settings}
use Rattle.head.specs.declared.Counters.{Counters}
use Rattle.head.specs.Limits.{Sized}
use Rattle.head.specs.Sizes.{block_width}
use Rattle.rules.specs.Tree.{Tree, with_nodes, with_root, under}
use Rattle.rules.specs.Split.{gathered, crowned}
use Rattle.stretch.specs.Blocks.{node_of}
use Rattle.arena.specs.Trees.{ChildIn, ChildrenIn, on_node, with_node}

pub pair_in : (n : Counters) (i j : ℕ) → i < n.nodes → j < n.nodes → ChildrenIn n false (i ∷ j ∷ [])
unfolding ChildrenIn ChildIn
pair_in n i j p q zero h = p
pair_in n i j p q (suc zero) h = q
pair_in n i j p q (suc (suc k)) h = absurd (omega arith)

-- a block has room for a list of two
pub pair_room : (s : Settings) → Sized s → 4 ≤ block_width s
unfolding block_width
pair_room s z = let b = z.branching_some in omega arith

-- r: the number of the next node
module _ (s : Settings) (i j r : ℕ) (t : Tree) (n : length t.nodes ≡ r) where
  pub crown_is : {c : Summary} {u v w : Tree} → c ≡ gathered s t false (i ∷ j ∷ []) → u ≡ on_node (under r) i t → v ≡ on_node (under r) j u
      → w ≡ with_node (node_of c None false (i ∷ j ∷ [])) v → with_root r w ≡ crowned s i j t
  unfolding crowned on_node with_node with_nodes with_root node_of
  crown_is ec eu ev ew = rw (ew, ev, eu, ec, sym n)

use Rattle.std.proofs.Common.{length}
use Rattle.rules.specs.Slices.{tree_of}
use Rattle.arena.specs.Trees.{Floats, Links}
use Rattle.insert.specs.Batch.{Batch}
use Rattle.insert.proofs.insert_all.Given as goal

-- the rows before this one are in the tree
abbrev pub invariant-loop-k : goal.invariant-loop-k
invariant-loop-k l = record {
  floats_fit : Floats l.s l.m (length l.floats);
  links_fit : Links l.s l.m (length l.links);
  batch : Batch l.s l.rows l.count (tree_of l.s l.fn.n l.fn.floats l.fn.links) l.k (tree_of l.s l.m l.floats l.links);
}

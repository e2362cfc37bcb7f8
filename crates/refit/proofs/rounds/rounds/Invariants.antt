use Rattle.std.proofs.Common.{length}
use Rattle.rules.specs.Slices.{tree_of}
use Rattle.arena.specs.Trees.{Floats, Links}
use Rattle.refit.specs.Rounds.{Rounds}
use Rattle.refit.proofs.rounds.rounds.Given as goal

-- the rounds that are left, on the tree so far, give what all give
abbrev pub invariant-loop-done : goal.invariant-loop-done
invariant-loop-done l = record {
  floats_fit : Floats l.s l.m (length l.floats);
  links_fit : Links l.s l.m (length l.links);
  rounds : Rounds l.s l.count l.rows l.fn.n.entries (tree_of l.s l.fn.n l.fn.floats l.fn.links) l.done (tree_of l.s l.m l.floats l.links);
}

-- The nodes so far are pruned, and the others as they were.
use Rattle.scratch.specs.Flags.{alive_in}
use Rattle.merging.specs.Pruning.{Prunes}
use Rattle.merging.proofs.dropping.keep_lists.Given as goal

abbrev pub invariant-loop-i : goal.invariant-loop-i
invariant-loop-i l = Prunes l.s l.n (alive_in l.numbers l.n.entries) l.initial.links l.i l.links

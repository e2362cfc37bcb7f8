-- Those from here on are sorted.
use Rattle.std.proofs.Common.{◌≡◌}
use Rattle.scratch.specs.Stored.{pairs_in}
use Rattle.pairs.specs.Sorting.{sorted_from}
use Rattle.pairs.proofs.sorting.sort.Given as goal

abbrev pub invariant-loop-i : goal.invariant-loop-i
invariant-loop-i l = pairs_in l.costs l.numbers l.count ≡ sorted_from l.i (pairs_in l.initial.costs l.initial.numbers l.count)

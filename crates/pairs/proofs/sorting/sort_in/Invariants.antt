-- What is left to move back from here is what was at the start.
use Rattle.std.proofs.Common.{◌≡◌}
use Rattle.scratch.specs.Stored.{PairFits, pair_at, pairs_in}
use Rattle.pairs.specs.Sorting.{inserted_from}
use Rattle.pairs.proofs.sorting.sort_in.Given as goal

abbrev pub invariant-loop-at : goal.invariant-loop-at
invariant-loop-at l =
    PairFits l.p
    × (inserted_from l.p l.at (pairs_in l.costs l.numbers l.count)
    ≡ inserted_from (pair_at l.initial.costs l.initial.numbers l.fn.i) l.fn.i (pairs_in l.initial.costs l.initial.numbers l.count))

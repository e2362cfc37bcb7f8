-- `place_after` meets its contract: after k places, it is k and the place after it in the rest.
use Rattle.tour.specs.Loops.{Searching}
use Rattle.tour.proofs.place_after.Given as goal

abbrev pub invariant-loop-k : goal.invariant-loop-k
invariant-loop-k l = Searching l.list l.c l.k

-- `once::list_marks` meets its contract: the set holds what was there and the places passed, none twice.
use Rattle.seen.specs.Sets.{Holds}
use Rattle.once.specs.Once.{marks_at}
use Rattle.once.proofs.list_marks.Given as goal

abbrev pub invariant-loop-e : goal.invariant-loop-e
invariant-loop-e l = Holds l.set (marks_at l.fn.seen l.e-items l.e-index)

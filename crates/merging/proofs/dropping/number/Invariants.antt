-- The entries so far are numbered, and the other words as they were.
use Rattle.merging.specs.Numbering.{Numbering}
use Rattle.merging.proofs.dropping.number.Given as goal

abbrev pub invariant-loop-i : goal.invariant-loop-i
invariant-loop-i l = Numbering l.initial.numbers l.entries l.i l.kept l.numbers

-- The entries so far have moved, and from here on nothing has changed.
use Rattle.scratch.specs.Flags.{alive_in, length-alive}
use Rattle.merging.specs.Moving.{Moves}
use Rattle.merging.proofs.dropping.keep_entries.Given as goal

abbrev pub invariant-loop-i : goal.invariant-loop-i
invariant-loop-i l = Moves l.s l.n (alive_in l.numbers l.n.entries) (length-alive l.numbers l.n.entries) l.initial.floats l.i l.floats

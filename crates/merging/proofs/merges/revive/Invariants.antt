-- The flags so far are up, and the pairs as they were.
use Rattle.std.proofs.Common.{◌≡◌, true, replicate}
use Rattle.scratch.specs.Flags.{alive_in, SamePairs}
use Rattle.merging.proofs.merges.revive.Given as goal

abbrev pub invariant-loop-i : goal.invariant-loop-i
invariant-loop-i l = (alive_in l.numbers l.i ≡ replicate l.i true) × SamePairs l.initial.numbers l.numbers

-- The stores of the first i digits are left.
use Rattle.std.proofs.Common.{◌≡◌}
use Rattle.text.specs.Written.{stored}
use Rattle.text.proofs.writing.digits.Given as goal

abbrev pub invariant-loop-i : goal.invariant-loop-i
invariant-loop-i l = stored l.i l.base l.rest l.at l.out ≡ stored l.k l.base l.n l.at l.initial.out

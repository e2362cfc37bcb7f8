use Rattle.std.proofs.Common.{arith, sym, ◌∙◌}
use Rattle.text.specs.Numbers.{hex_low, hex_high, hex_is}
use Rattle.text.proofs.digits.hex_digit.Goals as goal
use Rattle.text.proofs.digits.hex_digit.Goals.{in_default-via-then-b-lt97, in_default-via-else-b-lt97+else-b-lt103}

pub returns-in-97-to-102 : goal.returns-in-97-to-102
returns-in-97-to-102 c = sym (hex_is c.args.b (omega arith) (omega arith))

pub returns-in_default : goal.returns-in_default
returns-in_default c =
    c.digit.ensures ∙ elim c.in_default.branch [
      | in_default-via-then-b-lt97 w ↦ sym (hex_low c.args.b (omega arith))
      | in_default-via-else-b-lt97+else-b-lt103 w ↦ sym (hex_high c.args.b (omega arith))
    ]

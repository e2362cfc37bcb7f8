use Rattle.std.proofs.Common.{arith, sym}
use Rattle.text.specs.Numbers.{digit_low, digit_high, digit-is}
use Rattle.text.proofs.digits.digit.Goals as goal

pub returns-in-48-to-57 : goal.returns-in-48-to-57
returns-in-48-to-57 c = sym (digit-is c.args.b (omega arith) (omega arith))

pub returns-in_default : goal.returns-in_default
returns-in_default c = sym (digit_low c.args.b (omega arith))

pub returns-in_default-2 : goal.returns-in_default-2
returns-in_default-2 c = sym (digit_high c.args.b (omega arith))

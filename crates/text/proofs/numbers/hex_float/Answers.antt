-- The float of the bits that 16 digits spell.
use Rattle.std.proofs.Common.{sym, ap, ◌∙◌, Some}
use Rattle.text.specs.Numbers.{real_short, real_none, real_is}
use Rattle.text.proofs.numbers.hex_float.Goals as goal

pub returns-then-field-ne16 : goal.returns-then-field-ne16
returns-then-field-ne16 c = sym (real_short _ c.if-field-ne16.true)

pub returns-in_err-n : goal.returns-in_err-n
returns-in_err-n c = c.from_residual.ensures ∙ sym (real_none _ (sym c.of_sixteens.ensures ∙ c.in_err-n.was) c.if-field-ne16.false)

pub returns : goal.returns
returns c = ap Some c.of_bits.ensures ∙ sym (real_is _ _ (sym c.of_sixteens.ensures ∙ c.in_ok-n.was) c.if-field-ne16.false)

-- One digit, or more of which the first is not 0.
use Rattle.std.proofs.Common.{sym, ap, ◌∙◌}
use Rattle.text.specs.Told.{few}
use Rattle.text.specs.Numbers.{decimal-none, decimal-one, decimal_padded, decimal_more}
use Rattle.text.proofs.numbers.decimal.Goals as goal

pub returns-then-field-eq0 : goal.returns-then-field-eq0
unfolding few
returns-then-field-eq0 c = ap few (sym (decimal-none _ c.if-field-eq0.true))

pub returns-then-field-eq1 : goal.returns-then-field-eq1
returns-then-field-eq1 c = c.of_tens.ensures ∙ ap few (sym (decimal-one _ c.if-field-eq1.true))

pub returns-then-field-eq48 : goal.returns-then-field-eq48
unfolding few
returns-then-field-eq48 c = ap few (sym (decimal_padded _ c.if-field-eq0.false c.if-field-eq1.false c.if-field-eq48.true))

pub returns : goal.returns
returns c = c.of_tens-2.ensures ∙ ap few (sym (decimal_more _ c.if-field-eq0.false c.if-field-eq1.false c.if-field-eq48.false))

-- `export::look::cftree_validate` meets its contract: the answer of the call over values, in numbers.
use mathlib.Core.Path.{sym, ap, ◌∙◌}
use Rattle.boundary.specs.Numbers.{answer_numbers}
use Rattle.export.proofs.look.cftree_validate.Goals as goal

pub returns : goal.returns
returns c = rw (sym c.head_of-h.ensures) (c.answer_numbers.ensures ∙ ap answer_numbers c.validate-answer.ensures)

-- The flag is up if the weight is above 0.
use Rattle.std.proofs.Common.{sym, ap, ◌∙◌}
use Rattle.std.specs.Float.Ieee.{lt}
use Rattle.binary64.specs.Operators.{f0}
use Rattle.rules.specs.Refit.{used}
use Rattle.pouring.specs.Used.{flagged}
use Rattle.pouring.proofs.flag_used.Goals as goal

pub returns-then-weight : goal.returns-then-weight
unfolding used
returns-then-weight c = (
  λ ls. sym c.if-weight.true ∙ ap (lt f0) (c.weight.ensures ls),
  flagged c.args.numbers.now c.args.i 1 c.requires.2,
)

pub returns : goal.returns
unfolding used
returns c = (
  λ ls. sym c.if-weight.false ∙ ap (lt f0) (c.weight.ensures ls),
  flagged c.args.numbers.now c.args.i 0 c.requires.2,
)

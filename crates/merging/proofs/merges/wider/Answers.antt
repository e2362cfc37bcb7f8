-- The gap between the two as they stand.
use Rattle.std.proofs.Common.{◌∙◌, ap}
use Rattle.rules.specs.Rebuild.{widened}
use Rattle.merging.specs.Merging.{GapWidened}
use Rattle.merging.proofs.merges.wider.Goals as goal

pub returns : goal.returns
unfolding GapWidened
returns c = λ ls. c.widen.ensures ∙ ap (widened c.args.widest) (c.between-gap.ensures ls)

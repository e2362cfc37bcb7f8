use Rattle.std.proofs.Common.{◌∙◌}
use Rattle.reasons.specs.Reasons.{return_ends}
use Rattle.reasons.proofs.ends_in_return.Goals as goal

pub returns : goal.returns
returns c = c.ends_with.ensures.value ∙ return_ends _

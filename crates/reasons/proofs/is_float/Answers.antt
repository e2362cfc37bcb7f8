use Rattle.std.proofs.Common.{ap, ◌∙◌, is_some}
use Rattle.reasons.proofs.is_float.Goals as goal

pub returns : goal.returns
returns c = c.is_some.ensures ∙ ap is_some c.hex_float.ensures

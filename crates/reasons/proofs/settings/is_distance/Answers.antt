use Rattle.std.proofs.Common.{ap, ◌∙◌, is_some}
use Rattle.reasons.proofs.settings.is_distance.Goals as goal

pub returns : goal.returns
returns c = c.is_some.ensures ∙ ap is_some c.distance_word.ensures

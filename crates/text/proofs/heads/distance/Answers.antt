use Rattle.std.proofs.Common.{ap, ◌∙◌}
use Rattle.rules.specs.Listing.{distance_word}
use Rattle.text.proofs.heads.distance.Goals as goal

pub returns : goal.returns
returns c = c.distance_word.ensures ∙ ap distance_word c.field.ensures

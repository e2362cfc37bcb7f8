use Rattle.std.proofs.Common.{ap, ◌∙◌}
use Rattle.rules.specs.Listing.{decimal}
use Rattle.text.specs.Told.{few}
use Rattle.text.proofs.heads.number.Goals as goal

pub returns : goal.returns
returns c = c.decimal.ensures ∙ ap (λ l. few (decimal l)) c.field.ensures

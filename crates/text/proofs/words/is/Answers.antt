-- Two texts are one where they are equal.
use Rattle.std.proofs.Common.{◌∙◌}
use Rattle.text.specs.Words.{same-equal}
use Rattle.text.proofs.words.is.Goals as goal

pub returns : goal.returns
returns c = c.eq.ensures ∙ same-equal _ _

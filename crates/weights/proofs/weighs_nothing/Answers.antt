-- `weighs_nothing` meets its contract: the root's weight is read.
use Rattle.binary64.specs.Whole.{whole_0}
use Rattle.rules.specs.Slices.{tree_of}
use Rattle.weights.specs.Adding.{weighs_nothing}
use Rattle.weights.proofs.weighs_nothing.Goals as goal

pub returns : goal.returns
unfolding weighs_nothing tree_of
returns c = λ ls. rw (whole_0, ← c.weight.ensures ls)

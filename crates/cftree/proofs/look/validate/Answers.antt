-- `cftree::look::validate` meets its contract: the answer to the tree's own refusals.
use Rattle.rules.specs.Calls.{validated}
use Rattle.cftree.proofs.look.validate.Goals as goal

pub returns : goal.returns
unfolding validated
returns c = c.look.ensures

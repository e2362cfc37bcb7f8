-- `refusals::lent::tree_check` meets its contract: the verdict's own condition.
use Rattle.std.proofs.Common.{rules}
use Rattle.refusals.specs.Each.{tree_told}
use Rattle.refusals.proofs.lent.tree_check.Goals as goal

pub returns : goal.returns
returns c = rw (← c.validate.ensures) (tree_told _ (λ k r p. search rules) c.validate.result c.map_err.ensures.cases)

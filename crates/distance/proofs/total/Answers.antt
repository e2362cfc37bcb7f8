-- The closure gives each deviation.
use Rattle.std.proofs.Common.{rules}
use Rattle.kernels.specs.Laws.{sums_up}
use Rattle.distance.proofs.total.Goals as goal

pub returns : goal.returns
returns c = sums_up _ _ _ _ c.sum.ensures (λ i x h p. search rules)

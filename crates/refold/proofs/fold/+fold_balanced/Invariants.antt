-- `refold::fold::fold_balanced` ends: each half of a list is shorter than the list.
use Rattle.std.specs.Prelude.{length}
use Rattle.refold.proofs.fold.+fold_balanced.Given as goal

abbrev pub decreases-fold_balanced : goal.decreases-fold_balanced
decreases-fold_balanced l = length l.list.now

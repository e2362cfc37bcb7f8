-- A turn adds the call's number for one channel more.
use Rattle.kernels.specs.Laws.{sums-none, sums_more}
use Rattle.kernels.proofs.sum.Goals as goal

pub loop-i-init : goal.loop-i-init
loop-i-init g c = sums-none _

pub loop-i-preserved : goal.loop-i-preserved
loop-i-preserved g c = sums_more _ _ _ _ c.loop-i.invariant c.rule-sum.ensures

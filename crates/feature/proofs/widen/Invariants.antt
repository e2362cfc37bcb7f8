-- After i turns the first `min i dim` numbers are the rule's.
use Rattle.std.proofs.Common.{◌≡◌, min}
use Rattle.kernels.specs.Channels.{up_to}
use Rattle.feature.specs.Steps.{added_at}
use Rattle.feature.proofs.widen.Given as goal

abbrev pub invariant-loop-i : goal.invariant-loop-i
invariant-loop-i l = l.deviation ≡ up_to (added_at l.coef l.mean l.initial.deviation l.x) (min l.i l.dim) l.initial.deviation

-- After i turns the first `min i dim` numbers are the rule's.
use Rattle.std.proofs.Common.{◌≡◌, min}
use Rattle.kernels.specs.Channels.{up_to}
use Rattle.feature.specs.Steps.{moved_at}
use Rattle.feature.proofs.shift.Given as goal

abbrev pub invariant-loop-i : goal.invariant-loop-i
invariant-loop-i l = l.mean ≡ up_to (moved_at l.factor l.initial.mean l.x) (min l.i l.dim) l.initial.mean

-- After i turns the first `min i n` numbers are the rule's.
use Rattle.std.proofs.Common.{◌≡◌, min}
use Rattle.kernels.specs.Channels.{up_to}
use Rattle.feature.specs.Steps.{both_at}
use Rattle.feature.proofs.add.Given as goal

abbrev pub invariant-loop-i : goal.invariant-loop-i
invariant-loop-i l = l.a ≡ up_to (both_at l.initial.a l.b) (min l.i l.n) l.initial.a

-- After i turns the first `min i dim` places are those of the slice.
use Rattle.std.proofs.Common.{◌≡◌, min, replicate}
use Rattle.binary64.specs.Operators.{f0}
use Rattle.kernels.specs.Channels.{at, up_to}
use Rattle.kernels.proofs.copied.Given as goal

abbrev pub invariant-loop-i : goal.invariant-loop-i
invariant-loop-i l = l.out ≡ up_to (at l.a) (min l.i l.dim) (replicate 8 f0)

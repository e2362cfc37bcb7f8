-- After i turns the first `min i length` places are those of the numbers with zeros behind.
use Rattle.std.proofs.Common.{◌≡◌, ◌++◌, ◌-◌, min, length, take, replicate}
use Rattle.binary64.specs.Operators.{f0}
use Rattle.kernels.specs.Channels.{at, up_to}
use Rattle.stretch.proofs.slot.fill.Given as goal

abbrev pub invariant-loop-i : goal.invariant-loop-i
invariant-loop-i l = let p = l.initial.p in l.p ≡ up_to (at (take l.n l.from ++ replicate (length p - l.n) f0)) (min l.i (length p)) p

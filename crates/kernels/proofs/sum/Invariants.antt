-- After i turns the sum is that of the first i channels.
use Rattle.kernels.specs.Channels.{SumsUp}
use Rattle.kernels.proofs.sum.Given as goal

abbrev pub invariant-loop-i : goal.invariant-loop-i
invariant-loop-i g l = SumsUp (goal.F-post g l.rule) l.i l.sum

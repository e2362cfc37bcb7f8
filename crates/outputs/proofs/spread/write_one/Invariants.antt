use Rattle.std.proofs.Common.{◌≡◌}
use Rattle.kernels.specs.Channels.{at, up_to}
use Rattle.rules.specs.Spread.{spread_of}
use Rattle.outputs.proofs.spread.write_one.Given as goal

-- the numbers before this one are the entry's
abbrev pub invariant-loop-k : goal.invariant-loop-k
invariant-loop-k l = l.out ≡ up_to (at (spread_of l.s.feature l.s.dim l.e)) l.k l.fn.out

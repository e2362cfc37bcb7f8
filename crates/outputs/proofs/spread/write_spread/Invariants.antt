use Rattle.std.proofs.Common.{◌≡◌, ◌*◌, ◌++◌, drop}
use Rattle.rules.specs.Lists.{concat, table}
use Rattle.rules.specs.Spread.{spread_of}
use Rattle.outputs.specs.Written.{piece_of}
use Rattle.outputs.proofs.spread.write_spread.Given as goal

-- the entries before this one have their pieces in front
abbrev pub invariant-loop-i : goal.invariant-loop-i
invariant-loop-i l =
    l.out ≡ concat (table (piece_of l.s l.n l.floats (spread_of l.s.feature l.s.dim) l.s.dim) l.i) ++ drop (l.i * l.s.dim) l.fn.out

use Rattle.arena.specs.Trees.{AnyLinks}
use Rattle.pouring.specs.Used.{Flags}
use Rattle.pouring.proofs.flag_all.Given as goal

-- the flags so far, and whether all of them are up
abbrev pub invariant-loop-i : goal.invariant-loop-i
invariant-loop-i l = AnyLinks l.s l.n l.floats (λ t. Flags t l.i l.numbers l.all)

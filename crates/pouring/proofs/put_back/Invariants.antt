use Rattle.scratch.specs.Slots.{slots_in}
use Rattle.pouring.specs.Pouring.{PutBack}
use Rattle.pouring.proofs.put_back.Given as goal

-- the entries before this one are those in scratch
abbrev pub invariant-loop-i : goal.invariant-loop-i
invariant-loop-i l = PutBack l.s l.n l.fn.floats (slots_in l.s l.scratch l.n.entries) l.i l.floats

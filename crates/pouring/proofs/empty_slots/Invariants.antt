use Rattle.std.proofs.Common.{◌≡◌, replicate}
use Rattle.feature.specs.Summaries.{blank}
use Rattle.scratch.specs.Slots.{slots_in}
use Rattle.pouring.proofs.empty_slots.Given as goal

-- the summaries before this one are empty
abbrev pub invariant-loop-i : goal.invariant-loop-i
invariant-loop-i l = slots_in l.s l.scratch l.i ≡ replicate l.i blank

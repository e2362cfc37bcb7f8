-- A turn below dim acts on a place that reads as it was, one past it leaves all.
use Rattle.std.proofs.Common.{◌∙◌, arith}
use Rattle.kernels.specs.Laws.{turns_none, turn_unread, turn_acts, turn_rests, turns_end}
use Rattle.feature.proofs.shift.Goals as goal
use Rattle.feature.proofs.shift.Goals.{then-i-dim, else-i-dim}

pub loop-i-init : goal.loop-i-init
loop-i-init c = turns_none _ _ _

pub loop-i-preserved : goal.loop-i-preserved
loop-i-preserved c =
    let e = c.loop-i.invariant in
    elim c.if-i-dim.branch [
      | then-i-dim w ↦ w.mean-is ∙ turn_acts _ _ _ _ _ e _ w.if-i-dim.true (rw (turn_unread _ _ _ _ _ e))
      | else-i-dim w ↦ w.mean-is ∙ turn_rests _ _ _ _ _ e w.if-i-dim.false
    ]

pub returns : goal.returns
returns c = turns_end _ _ _ _ _ c.loop-i.invariant (omega arith)

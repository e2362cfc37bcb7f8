-- The one slot is merged into, and the others stay.
use Rattle.feature.specs.Steps.{merged}
use Rattle.stretch.specs.Stretches.{put_stretch}
use Rattle.arena.specs.Numbered.{slot_put}
use Rattle.arena.proofs.slots.merge.Goals as goal

pub returns : goal.returns
unfolding put_stretch
returns c =
    let a = c.args in
    let w = c.slot_width-w in
    slot_put a.s a.floats.now a.i w.result c.requires.0 w.ensures (λ x. merged a.s.feature a.s.dim x a.c) c.merge.new.p c.merge.auto.p c.merge.ensures

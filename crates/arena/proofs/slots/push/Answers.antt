-- The one slot is pushed into, and the others stay.
use Rattle.feature.specs.Steps.{pushed}
use Rattle.stretch.specs.Stretches.{put_stretch}
use Rattle.arena.specs.Numbered.{slot_put}
use Rattle.arena.proofs.slots.push.Goals as goal

pub returns : goal.returns
unfolding put_stretch
returns c =
    let a = c.args in
    let w = c.slot_width-w in
    slot_put a.s a.floats.now a.i w.result c.requires.0 w.ensures (λ x. pushed a.s.feature a.s.dim x a.row.now) c.push.new.p c.push.auto.p c.push.ensures

-- The parts written make the pushed summary's slot.
use Rattle.std.proofs.Common.{refl}
use Rattle.stretch.specs.Stretches.{put_stretch}
use Rattle.stretch.specs.Pushes.{push_parts}
use Rattle.stretch.proofs.slot.push.Goals as goal

pub returns : goal.returns
unfolding put_stretch
returns c =
    let a = c.args in
    let parts = c.split_at_mut-front in
    push_parts a.s c.requires.0 a.row.now a.p.now parts.result.0.now parts.result.1.now c.shift.new.mean c.deviate.new.deviation _
    c.requires.1 parts.ensures.front parts.ensures.back refl c.shift.ensures c.deviate.ensures

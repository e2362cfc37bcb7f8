-- The one slot reads back as stored, and the others stay.
use Rattle.std.proofs.Common.{ap, ◌∙◌}
use Rattle.rules.specs.Slices.{summary_in}
use Rattle.rules.specs.Stored.{summary_back}
use Rattle.stretch.specs.Stretches.{put_stretch}
use Rattle.arena.specs.Numbered.{slot_put}
use Rattle.arena.proofs.slots.store.Goals as goal

pub returns : goal.returns
unfolding put_stretch
returns c =
    let a = c.args in
    let w = c.slot_width-w in
    slot_put a.s a.floats.now a.i w.result c.requires.0 w.ensures (λ _. a.c) c.store.new.p c.store.auto.p
    (ap (summary_in a.s) c.store.ensures ∙ summary_back a.s c.requires.0.sized a.c c.requires.1)

-- Weight, filled means and filled deviations make the slot of the summary.
use Rattle.std.proofs.Common.{◌≡◌, arith, length, rules}
use Rattle.rules.specs.Stored.{slots_in_lem}
use Rattle.stretch.specs.Stretches.{put_stretch}
use Rattle.stretch.specs.Pushes.{store_parts}
use Rattle.stretch.proofs.slot.store.Goals as goal

pub fill-requires-2 : goal.fill-requires-2
fill-requires-2 c =
    let few = slots_in_lem c.args.s c.requires.0 in
    let n = c.slots.ensures in
    let parts = c.split_at_mut-front.ensures in
    (omega arith, omega arith)

pub returns : goal.returns
unfolding put_stretch
returns c =
    let a = c.args in
    let parts = c.split_at_mut-front in
    let few = slots_in_lem a.s c.requires.0 in
    let mean : length a.c.mean ≡ 8 = search rules in
    let deviation : length a.c.deviation ≡ 8 = search rules in
    store_parts a.s a.c a.p.now parts.result.0.now parts.result.1.now c.fill.new.p c.fill-2.new.p c.slots.result
    c.requires.1 parts.ensures.front_len parts.ensures.back_len (omega arith) c.slots.ensures (omega arith) c.fill.ensures c.fill-2.ensures

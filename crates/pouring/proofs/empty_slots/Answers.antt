-- A turn stores one empty summary.
use Rattle.std.proofs.Common.{sym, subst, arith}
use Rattle.feature.specs.Shape.{Shaped, blank_shaped}
use Rattle.scratch.specs.Slots.{no_slots, slot_there}
use Rattle.pouring.specs.Pouring.{empty_more}
use Rattle.pouring.proofs.empty_slots.Goals as goal

pub loop-i-init : goal.loop-i-init
loop-i-init c = no_slots c.args.s c.args.scratch.now

pub store-requires : goal.store-requires
store-requires c =
    let s = c.args.s in
    let loop = c.loop-i in
    let more = c.loop-i-test.true in (
      rw loop.auto.scratch (slot_there s loop.i _ c.requires.0 c.requires.2 (omega arith)),
      subst (Shaped s.feature s.dim) (sym c.empty.ensures) (blank_shaped s.feature s.dim),
    )

pub loop-i-preserved : goal.loop-i-preserved
loop-i-preserved c = empty_more c.args.s c.loop-i.i _ c.loop-i.scratch _ c.empty.ensures c.store.ensures c.loop-i.invariant

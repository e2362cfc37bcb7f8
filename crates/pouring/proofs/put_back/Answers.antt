-- A turn puts one entry back.
use Rattle.std.proofs.Common.{sym, subst}
use Rattle.feature.specs.Shape.{Shaped}
use Rattle.arena.specs.Trees.{slot_shaped}
use Rattle.pouring.specs.Pouring.{put_start, put_turn, put_end}
use Rattle.pouring.proofs.put_back.Goals as goal

pub loop-i-init : goal.loop-i-init
loop-i-init c = put_start c.args.s c.args.n c.args.floats.now c.args.scratch.now

pub put-requires : goal.put-requires
put-requires c =
    let s = c.args.s in (
      rw c.loop-i.auto.floats c.requires.0,
      c.loop-i-test.true,
      subst (Shaped s.feature s.dim) (sym c.load.ensures) (slot_shaped s c.requires.0.sized c.args.scratch.now _),
    )

pub loop-i-preserved : goal.loop-i-preserved
loop-i-preserved c =
    let a = c.args in
    let loop = c.loop-i in
    put_turn a.s a.n a.floats.now a.scratch.now loop.i loop.floats loop.invariant _ _ c.loop-i-test.true c.load.ensures c.put.ensures

pub returns : goal.returns
returns c =
    let a = c.args in
    let loop = c.loop-i in
    put_end a.s a.n a.floats.now a.scratch.now loop.i loop.floats loop.invariant c.loop-i-test.false

-- A turn writes one number.
use Rattle.std.proofs.Common.{[], refl, sym, ◌∙◌, add-one, arith}
use Rattle.kernels.specs.Channels.{up_to}
use Rattle.arena.specs.Trees.{entry_shaped}
use Rattle.outputs.specs.Spread.{spread_written_lem}
use Rattle.outputs.proofs.spread.write_one.Goals as goal

pub loop-k-init : goal.loop-k-init
unfolding up_to
loop-k-init c = refl

pub spread_at-requires : goal.spread_at-requires
spread_at-requires c =
    let a = c.args in
    let shaped = entry_shaped a.s c.requires.0.sized a.n a.floats.now [] a.i c.requires.1 in
    (c.requires.0.sized, rw (c.summary-e.ensures []) shaped, omega arith)

pub loop-k-preserved : goal.loop-k-preserved
unfolding up_to
loop-k-preserved c = rw (c.spread_at.ensures, c.loop-k.invariant, add-one c.loop-k.k)

pub returns : goal.returns
returns c =
    let a = c.args in
    let loop = c.loop-k in
    let shaped = entry_shaped a.s c.requires.0.sized a.n a.floats.now [] a.i c.requires.1 in
    λ ls. rw (sym (c.summary-e.ensures ls))
    (loop.invariant ∙ spread_written_lem _ _ c.requires.0.sized.dim_few _ (rw (c.summary-e.ensures []) shaped) loop.k a.out.now c.requires.2 (omega arith) (omega arith))

use Rattle.std.proofs.Common.{◌∙◌, ◌+◌, ◌-◌, refl, sym, arith, None}
use Rattle.arena.specs.Trees.{count_nodes_lem}
use Rattle.bounds.specs.Sure.{parent_there}
use Rattle.descent.specs.Paths.{up_start, up_on, up_top, up_end}
use Rattle.descent.proofs.path.feed_path.Goals as goal

pub loop-init : goal.loop-init
loop-init c = (c.requires.sure.1, refl, up_start _ _ _ _ (count_nodes_lem c.args.s c.args.n c.args.floats.now c.args.links.now ∙ omega arith))

pub returns-in_default : goal.returns-in_default
returns-in_default c =
    sym (up_top _ (c.args.n.nodes - (c.loop.counter + 1)) _)
    ∙ up_on _ _ (c.args.n.nodes - (c.loop.counter + 1)) c.loop.i _ _ None (omega arith) (c.feed.ensures _) (sym c.in_default.is ∙ c.parent.ensures c.loop.floats) ∙ c.loop.invariant.2

pub loop-preserved : goal.loop-preserved
loop-preserved c = (
  parent_there _ _ _ _ c.requires.sure.0 c.loop.i c.loop.invariant.0 _ (sym (c.in-Some.ensures c.args.floats.now)),
  c.feed.auto.floats ∙ c.loop.invariant.1,
  up_on _ _ (c.args.n.nodes - (c.loop.counter + 1)) c.loop.i _ _ _ (omega arith) (c.feed.ensures _) (c.in-Some.ensures c.loop.floats) ∙ c.loop.invariant.2,
)

pub returns : goal.returns
returns c = sym (up_end _ _ _ _ (omega arith)) ∙ c.loop.invariant.2

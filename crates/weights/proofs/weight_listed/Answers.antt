use Rattle.weights.specs.Adding.{weight_listed}
use Rattle.weights.specs.Weighable.{child_in, sum-on, sum_done}
use Rattle.weights.proofs.weight_listed.Goals as goal

pub weight-sum-requires : goal.weight-sum-requires
weight-sum-requires c =
    let at = c.args.floats.now in (
      c.requires.0.floats,
      rw (c.is_leaf-leaf.ensures at, c.list-c-items.ensures at)
          (child_in c.args.s c.args.n at c.args.links.now c.requires.0 c.args.i c.loop-c.c-index c.requires.1
          (rw (← c.list-c-items.ensures at) c.loop-c-test.true)),
    )

pub loop-c-preserved : goal.loop-c-preserved
loop-c-preserved c = sum-on _ _ c.loop-c.sum c.loop-c.c-index c.loop-c-test.true c.loop-c.invariant (c.weight-sum.ensures c.args.links.now)

pub returns : goal.returns
unfolding weight_listed
returns c =
    let at = c.args.floats.now in
    rw (← c.is_leaf-leaf.ensures at, ← c.list-c-items.ensures at) (sum_done _ _ c.loop-c.sum c.loop-c.c-index c.loop-c-test.false c.loop-c.invariant)

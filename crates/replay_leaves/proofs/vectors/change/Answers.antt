-- There are two entries, and what is read of one has its shape.
use Rattle.std.proofs.Common.{arith, []}
use Rattle.arena.specs.Trees.{entry_shaped}
use Rattle.replay_leaves.proofs.vectors.change.Goals as goal

pub merge-requires : goal.merge-requires
merge-requires c =
    let (floats, two) = c.requires in (
      floats,
      omega (arith, two),
      rw (c.summary-b.ensures [])
          (entry_shaped c.args.s floats.sized c.args.n c.args.floats.now [] 1 (omega (arith, two))),
    )

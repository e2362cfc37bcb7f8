-- Six slots are there, and a slot has at least its weight.
use Rattle.std.proofs.Common.{arith}
use Rattle.head.specs.Sizes.{slot_width}
use Rattle.replay_leaves.proofs.vectors.agrees.Goals as goal

pub bounds-floats-w : goal.bounds-floats-w
unfolding slot_width
bounds-floats-w c = omega (arith, c.slot_width-w.ensures, c.requires.2)

use Rattle.std.proofs.Common.{arith}
use Rattle.head.specs.Sizes.{slot_small, block_small}
use Rattle.replay_trees.proofs.vectors.read_nodes.Goals as goal

pub overflow_add-slot : goal.overflow_add-slot
overflow_add-slot g c =
    let w = slot_small c.args.s c.requires in
    let e = c.slot_width-slot.ensures in omega arith

pub overflow_add-block : goal.overflow_add-block
overflow_add-block g c =
    let w = block_small c.args.s c.requires in
    let e = c.block_width-block.ensures in omega arith

pub loop-preserved : goal.loop-preserved
loop-preserved g c =
    let w = slot_small c.args.s c.requires in
    let e = c.slot_width-slot.ensures in
    let v = block_small c.args.s c.requires in
    let f = c.block_width-block.ensures in (omega arith, omega arith)

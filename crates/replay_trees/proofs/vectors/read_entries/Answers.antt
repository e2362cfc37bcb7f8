use Rattle.std.proofs.Common.{◌*◌, ◌≤◌, arith}
use Rattle.std.proofs.Math.Nat.{mul-le-mul}
use Rattle.head.specs.Sizes.{nodes_small, slot_small}
use Rattle.replay_trees.proofs.vectors.read_entries.Goals as goal

pub overflow_mul-slot : goal.overflow_mul-slot
overflow_mul-slot g c =
    let n : c.node_cap.result ≤ 33153 = rw c.node_cap.ensures (nodes_small c.args.s c.requires) in
    let w : c.slot_width.result ≤ 17 = rw c.slot_width.ensures (slot_small c.args.s c.requires) in
    let p : c.node_cap.result * c.slot_width.result ≤ 33153 * 17 = mul-le-mul n w in omega arith

pub loop-init : goal.loop-init
loop-init g c =
    let n : c.node_cap.result ≤ 33153 = rw c.node_cap.ensures (nodes_small c.args.s c.requires) in
    let w : c.slot_width.result ≤ 17 = rw c.slot_width.ensures (slot_small c.args.s c.requires) in
    let p : c.node_cap.result * c.slot_width.result ≤ 33153 * 17 = mul-le-mul n w in omega arith

pub overflow_add-slot : goal.overflow_add-slot
overflow_add-slot g c =
    let w = slot_small c.args.s c.requires in
    let e = c.slot_width-slot.ensures in omega arith

pub loop-preserved : goal.loop-preserved
loop-preserved g c =
    let w = slot_small c.args.s c.requires in
    let e = c.slot_width-slot.ensures in omega arith

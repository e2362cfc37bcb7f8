-- The entries' slots stand behind the nodes'.
use Rattle.std.proofs.Common.{arith}
use Rattle.std.proofs.Math.Nat.{mul-le-mul}
use Rattle.head.specs.Sizes.{nodes_small, slot_small}
use Rattle.rules.specs.Calls.{shown_by}
use Rattle.outputs.proofs.places.places.Goals as goal

pub overflow_mul-result : goal.overflow_mul-result
overflow_mul-result c =
    let z = c.requires in
    rw (c.node_cap.ensures, c.slot_width-width.ensures, c.settings-s.ensures) (omega (arith, mul-le-mul (nodes_small _ z) (slot_small _ z)))

pub returns : goal.returns
unfolding shown_by
returns c = rw (c.slots.ensures, c.node_cap.ensures, c.slot_width-width.ensures, c.settings-s.ensures)

-- Entry i stands in the slot i behind the nodes'.
use Rattle.std.proofs.Common.{arith}
use Rattle.arena.specs.Trees.{entry_place}
use Rattle.arena.proofs.entries.weight.Goals as goal

pub weight-requires : goal.weight-requires
weight-requires c = entry_place _ _ _ _ _ c.requires.0 (omega arith) c.place.ensures

-- Entry i stands in the slot i behind the nodes'.
use Rattle.std.proofs.Common.{arith}
use Rattle.arena.specs.Trees.{entry_place}
use Rattle.arena.proofs.entries.summary.Goals as goal

pub load-requires : goal.load-requires
load-requires c = entry_place _ _ _ _ _ c.requires.0 (omega arith) c.place.ensures

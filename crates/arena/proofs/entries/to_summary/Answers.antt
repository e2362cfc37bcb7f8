-- Entry i stands in the slot i behind the nodes'.
use Rattle.std.proofs.Common.{arith}
use Rattle.arena.specs.Trees.{entry_place}
use Rattle.arena.proofs.entries.to_summary.Goals as goal

pub to_summary-requires : goal.to_summary-requires
to_summary-requires c = entry_place _ _ _ _ _ c.requires.0 (omega arith) c.place.ensures

-- Entry i stands in the slot i behind the nodes'.
use Rattle.std.proofs.Common.{arith}
use Rattle.arena.specs.Trees.{entry_place}
use Rattle.arena.proofs.entries.to_row.Goals as goal

pub to_row-requires : goal.to_row-requires
to_row-requires c = (entry_place _ _ _ _ _ c.requires.0 (omega arith) c.place.ensures, c.requires.2)

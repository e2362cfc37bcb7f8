-- Both entries stand in their slots.
use Rattle.std.proofs.Common.{arith}
use Rattle.arena.specs.Trees.{entry_place}
use Rattle.arena.proofs.entries.between.Goals as goal

pub between-requires : goal.between-requires
between-requires c =
    (entry_place _ _ _ _ _ c.requires.0 (omega arith) c.place.ensures, entry_place _ _ _ _ _ c.requires.0 (omega arith) c.place-2.ensures)

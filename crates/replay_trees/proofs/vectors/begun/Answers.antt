-- An allowed head has sized settings.
use Rattle.std.proofs.Math.Path.{sym}
use Rattle.head.specs.Limits.{allowed-sized}
use Rattle.replay_trees.proofs.vectors.begun.Goals as goal

pub checked-requires : goal.checked-requires
checked-requires g c = rw c.settings.ensures (allowed-sized c.new-h.result (sym c.if-not-is_allowed.ensures))

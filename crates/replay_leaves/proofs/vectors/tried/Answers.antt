-- An allowed head has sized settings, and here its M is 1.
use Rattle.std.proofs.Math.Path.{refl, sym}
use Rattle.head.specs.Heads.{new_head, settings_of}
use Rattle.head.specs.Limits.{allowed-sized}
use Rattle.replay_leaves.proofs.vectors.tried.Goals as goal

pub taken-requires : goal.taken-requires
unfolding new_head settings_of
taken-requires g c = (
  rw c.settings.ensures (allowed-sized c.new-h.result (sym c.if-not-is_allowed.ensures)),
  rw (c.settings.ensures, c.new-h.ensures) refl,
)

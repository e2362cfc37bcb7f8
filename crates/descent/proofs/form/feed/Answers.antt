-- What a slot holds is shaped.
use Rattle.rules.specs.Held.{in_shaped}
use Rattle.descent.proofs.form.feed.Goals as goal

pub merge-requires : goal.merge-requires
merge-requires c = (c.requires.0, c.requires.1, rw c.load.ensures (in_shaped c.args.s c.requires.0.sized c.in-Slot.x.now))

-- `Depths::level` meets its contract: each depth is level.
use Rattle.std.proofs.Common.{rules, lt-ltb, le-ltb}
use Rattle.std.proofs.Math.Numerals.{add-one}
use Rattle.tour.specs.Walking.{level_at, levelled}
use Rattle.tour.proofs.depths.Depths.level.Goals as goal

pub returns-then-self-lt256 : goal.returns-then-self-lt256
unfolding levelled
returns-then-self-lt256 c =
    rw (lt-ltb _ 256 c.if-self-lt256.true, ← add-one c.args.self.deepest) (c.every_below.ensures (level_at c.args.self) (λ k b l h. search rules))

pub returns-else-self-lt256 : goal.returns-else-self-lt256
unfolding levelled
returns-else-self-lt256 c = rw (le-ltb _ 256 c.if-self-lt256.false)

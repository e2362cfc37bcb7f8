-- What is left of the way down from here ends as the whole does.
use Rattle.std.proofs.Common.{◌≡◌, ◌<◌, ◌-◌}
use Rattle.arena.specs.Trees.{AnyFloats}
use Rattle.refold.specs.Walk.{last_under}
use Rattle.refold.proofs.walk.last.Given as goal

abbrev pub invariant-loop : goal.invariant-loop
invariant-loop l =
    (l.at < l.n.nodes) × AnyFloats l.s l.n l.links (λ t. last_under t (l.n.nodes - l.counter) l.at ≡ last_under t l.n.nodes l.i)

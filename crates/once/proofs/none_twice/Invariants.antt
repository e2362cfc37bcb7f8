-- `once::none_twice` meets its contract: the set holds what the leaves passed list, none twice.
use Rattle.arena.specs.Trees.{AnyFloats}
use Rattle.seen.specs.Sets.{Holds}
use Rattle.once.specs.Once.{leaves_to}
use Rattle.once.proofs.none_twice.Given as goal

abbrev pub invariant-loop-i : goal.invariant-loop-i
invariant-loop-i l = AnyFloats l.s l.n l.links (λ t. Holds l.seen (leaves_to t l.i))

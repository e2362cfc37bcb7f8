-- The first entries of the list stand behind the summaries that were there.
use Rattle.std.proofs.Common.{◌≡◌, ◌+◌, ◌++◌, map, take}
use Rattle.rules.specs.Tree.{entry_at}
use Rattle.arena.specs.Trees.{AnyLinks}
use Rattle.scratch.specs.Slots.{slots_in}
use Rattle.reinsert.proofs.collect.copy_entries.Given as goal

abbrev pub invariant-loop-k : goal.invariant-loop-k
invariant-loop-k l =
    AnyLinks l.s l.n l.floats (λ t. slots_in l.s l.scratch (l.count + l.k) ≡ slots_in l.s l.initial.scratch l.count ++ map (entry_at t) (take l.k l.list))

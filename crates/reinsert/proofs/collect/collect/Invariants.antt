-- The summaries in scratch and those beneath the nodes that wait are all.
use Rattle.std.proofs.Common.{◌-◌}
use Rattle.rules.specs.Slices.{tree_of}
use Rattle.scratch.specs.Slots.{slots_in}
use Rattle.reinsert.specs.Waiting.{waiting}
use Rattle.reinsert.specs.Collect.{Collecting}
use Rattle.reinsert.proofs.collect.collect.Given as goal

abbrev pub invariant-loop : goal.invariant-loop
invariant-loop l =
    Collecting l.s (tree_of l.s l.n l.floats l.links) (l.n.nodes - l.counter) (slots_in l.s l.scratch l.count) (waiting l.stack l.high)

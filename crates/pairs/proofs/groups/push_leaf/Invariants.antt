-- The pairs so far and those of the members left are all.
use Rattle.std.proofs.Common.{◌≡◌, ◌≤◌, ◌+◌, ◌++◌, drop}
use Rattle.rules.specs.Slices.{tree_of}
use Rattle.rules.specs.Pairs.{partners, beneath}
use Rattle.scratch.specs.Stored.{pairs_in}
use Rattle.pairs.proofs.groups.push_leaf.Given as goal

abbrev pub invariant-loop-i : goal.invariant-loop-i
invariant-loop-i l =
    let t = tree_of l.s l.n l.floats l.links in
    let g = beneath t l.leaves in
    (l.m ≤ l.count + l.i-index)
    × (pairs_in l.costs l.numbers l.m ++ partners l.s t g (drop l.i-index l.list) ≡ pairs_in l.initial.costs l.initial.numbers l.count ++ partners l.s t g l.list)

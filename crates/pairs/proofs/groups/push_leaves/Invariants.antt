-- The pairs so far and those of the leaves left are all.
use Rattle.std.proofs.Common.{◌≡◌, ◌≤◌, ◌+◌, ◌++◌, drop, length}
use Rattle.rules.specs.Slices.{tree_of}
use Rattle.rules.specs.Pairs.{partners, beneath}
use Rattle.scratch.specs.Stored.{pairs_in}
use Rattle.pairs.proofs.groups.push_leaves.Given as goal

abbrev pub invariant-loop-leaf : goal.invariant-loop-leaf
invariant-loop-leaf l =
    let t = tree_of l.s l.n l.floats l.links in
    let g = beneath t l.leaves in
    let rest = beneath t (drop l.leaf-index l.leaves) in
    (l.m + length rest ≤ l.count + length g)
    × (pairs_in l.costs l.numbers l.m ++ partners l.s t g rest ≡ pairs_in l.initial.costs l.initial.numbers l.count ++ partners l.s t g g)

-- The pairs so far and those of the nodes left are all.
use Rattle.std.proofs.Common.{◌≡◌, ◌≤◌, ◌++◌, drop}
use Rattle.rules.specs.Slices.{tree_of}
use Rattle.rules.specs.Pairs.{siblings}
use Rattle.scratch.specs.Stored.{pairs_in}
use Rattle.pairs.specs.Rooms.{listed_to}
use Rattle.pairs.proofs.siblings.sibling_pairs.Given as goal

abbrev pub invariant-loop-i : goal.invariant-loop-i
invariant-loop-i l =
    let t = tree_of l.s l.n l.floats l.links in
    (l.count ≤ listed_to t l.i) × (pairs_in l.costs l.numbers l.count ++ siblings l.s t (drop l.i t.nodes) ≡ siblings l.s t t.nodes)

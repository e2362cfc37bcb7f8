use Rattle.std.proofs.Common.{◌≡◌, ◌<◌, ◌-◌}
use Rattle.rules.specs.Slices.{tree_of}
use Rattle.rules.specs.Descent.{descended, leaf_for}
use Rattle.descent.specs.Forms.{item_of}
use Rattle.descent.proofs.go_down.Given as goal

-- the steps that are left lead from node i to the leaf that the root leads to
abbrev pub invariant-loop : goal.invariant-loop
invariant-loop l =
    let t = tree_of l.s l.n l.floats l.links in
    let f = (item_of l.s l.item).near in
    record { there : l.i < l.n.nodes; left : descended t f (l.n.nodes - l.counter) l.i ≡ leaf_for t f }

-- What is left beneath the leaves from here gives the whole.
use Rattle.std.proofs.Common.{◌≡◌, None, drop}
use Rattle.rules.specs.Slices.{tree_of}
use Rattle.rules.specs.Pairs.{cost_of, partner, beneath}
use Rattle.pairs.specs.Partners.{Inside, partner_of}
use Rattle.pairs.proofs.groups.cheapest_beneath.Given as goal

abbrev pub invariant-loop-leaf : goal.invariant-loop-leaf
invariant-loop-leaf l =
    let t = tree_of l.s l.n l.floats l.links in
    Inside l.n.entries (partner_of l.best)
    × (partner (cost_of l.s t l.i) l.i (partner_of l.best) (beneath t (drop l.leaf-index l.leaves)) ≡ partner (cost_of l.s t l.i) l.i None (beneath t l.leaves))

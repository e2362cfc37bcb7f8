-- `route::route` meets its contract: the leaf is found, and of its list the closest.
use mathlib.Core.Path.{◌≡◌}
use borrow.Author.Rules.{rules}
use Rattle.rules.specs.Tree.{Tree, dist_to}
use Rattle.rules.specs.Slices.{tree_of}
use Rattle.rules.specs.Descent.{leaf_for}
use Rattle.route.specs.Routing.{routable_sure, leaf-some, leaf_entries, route_is}
use Rattle.route.proofs.route.Statement.{statement}
use Rattle.route.proofs.route.Tie as tie

-- the start, from the descent done
abbrev start : tie.After-descend-leaf → tie.Start
start c = c.before.before.before.before

-- the tree as it is lent
abbrev tree : tie.Start → Tree
tree c = tree_of c.args.s c.args.n c.args.floats.now c.args.links.now

leaf : (c : tie.After-descend-leaf) → c.descend-leaf.result ≡ leaf_for (tree (start c)) (λ d. dist_to (start c).args.s d (start c).args.row.now)
leaf c = c.descend-leaf.ensures.0

descend-requires : tie.Need-descend-leaf-requires
descend-requires c κs =
    let start = c.before.before.before in
    let a = start.args in
    (start.requires.0, routable_sure a.s (tree start) start.requires.1)

closest-entry-requires : tie.Need-closest_entry-requires
closest-entry-requires c κs =
    let down = c.before in
    let start = start down in
    let a = start.args in
    let list = c.list.ensures a.floats.now in
    let here = down.descend-leaf.ensures.1 in (
      start.requires.0.0,
      start.requires.0.2,
      leaf-some a.s a.n a.floats.now a.links.now a.row.now start.requires.1 _ (leaf down) here list,
      leaf_entries a.s a.n a.floats.now a.links.now a.row.now start.requires.1 _ (leaf down) here list,
    )

returns : tie.Need-returns
returns c =
    let down = c.before.before in
    let start = start down in
    let a = start.args in
    let near = c.closest_entry.ensures in (
      route_is a.s a.n a.floats.now a.links.now a.row.now start.requires.1 _ (leaf down) down.descend-leaf.ensures.1
          (c.list.ensures a.floats.now) (near.0 a.links.now),
      near.1,
    )

pub route_spec : {M : Type 1} → statement M
route_spec = tie.close (tie.spec descend-requires (λ c κs. search rules) closest-entry-requires returns)

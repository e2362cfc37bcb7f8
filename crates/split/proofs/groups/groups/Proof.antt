-- `split::groups::groups` meets its contract: seeds and groups of the list that the links hold.
use borrow.Author.Rules.{rules}
use Rattle.rules.specs.Slices.{tree_of}
use Rattle.split.specs.Splitting.{groups_are, splits_few}
use Rattle.split.proofs.groups.groups.Statement.{statement}
use Rattle.split.proofs.groups.groups.Tie as tie

seeds-of-requires : tie.Need-seeds_of-w-requires
seeds-of-requires c κs =
    let start = c.before.before.before.before in
    let fs = start.args.floats.now in
    let list = c.list-list.ensures fs in
    (start.requires.0.0, rw (c.is_leaf-leaf.ensures fs, list) start.requires.1.inside, rw list start.requires.1.two)

halves-of-requires : tie.Need-halves_of-requires
halves-of-requires c κs =
    let start = c.before.before.before.before.before in
    let a = start.args in
    let fs = a.floats.now in
    let list = c.list-list.ensures fs in (
      start.requires.0.0,
      rw (c.is_leaf-leaf.ensures fs, list) start.requires.1.inside,
      c.seeds_of-w.ensures.1,
      rw list (splits_few a.s a.n (tree_of a.s a.n fs a.links.now) a.i start.requires.0.0.sized start.requires.1),
    )

returns : tie.Need-returns
returns c =
    let a = c.args in
    let fs = a.floats.now in
    let ls = a.links.now in
    groups_are a.s a.n (tree_of a.s a.n fs ls) a.i c.seeds_of-w.result (c.is_leaf-leaf.ensures fs)
    (c.list-list.ensures fs) (c.seeds_of-w.ensures.0 ls) (c.halves_of.ensures ls)

pub groups_spec : {M : Type 1} → statement M
groups_spec = tie.close (tie.spec (λ c κs. search rules) (λ c κs. search rules) seeds-of-requires halves-of-requires returns)

-- `grow::grow` meets its contract: the leaf is found, its path fed, the row placed in it, and the way up split.
use mathlib.Core.Path.{◌≡◌, sym}
use borrow.Author.Rules.{rules}
use Rattle.rules.specs.Tree.{Tree, push, dist_to}
use Rattle.rules.specs.Slices.{tree_of}
use Rattle.rules.specs.Descent.{leaf_for, along_path}
use Rattle.grow.specs.Room.{growable_sure, row_place, row_rising, grown-is}
use Rattle.grow.proofs.grow.Statement.{statement}
use Rattle.grow.proofs.grow.Tie as tie

-- the start, from the descent done; the descent, from the path fed; the path, from the row placed
abbrev start : tie.After-descend-leaf → tie.Start
start c = c.before.before.before.before

abbrev found : tie.After-feed_path → tie.After-descend-leaf
found c = c.before.before

abbrev fed : tie.After-try_absorb-m → tie.After-feed_path
fed c = c.before.before.before.before.before

-- the tree as it is lent
abbrev tree : tie.Start → Tree
tree c = tree_of c.args.s c.args.n c.args.floats.now c.args.links.now

leaf : (c : tie.After-descend-leaf) → c.descend-leaf.result ≡ leaf_for (tree (start c)) (λ d. dist_to (start c).args.s d (start c).args.row.now)
leaf c = c.descend-leaf.ensures.0

path : (c : tie.After-feed_path)
    → tree_of (start (found c)).args.s (start (found c)).args.n c.feed_path.new.floats (start (found c)).args.links.now
    ≡ along_path (push (start (found c)).args.s (start (found c)).args.row.now) (found c).descend-leaf.result (tree (start (found c)))
path c = c.feed_path.ensures

descend-requires : tie.Need-descend-leaf-requires
descend-requires c κs =
    let start = c.before.before.before in
    (start.requires.0, growable_sure _ _ start.requires.1)

feed-path-requires : tie.Need-feed_path-requires
feed-path-requires c κs =
    let start = start c.before in
    (start.requires.0, (growable_sure _ _ start.requires.1, c.descend-leaf.ensures.1))

try-absorb-requires : tie.Need-try_absorb-m-requires
try-absorb-requires c κs =
    let fed = c.before.before.before.before in
    let down = found fed in
    let start = start down in
    let a = start.args in (
      (rw fed.feed_path.auto.floats start.requires.0.0, start.requires.0.1, start.requires.0.2),
      row_place a.s a.n a.floats.now _ a.links.now a.row.now _ start.requires.1 (leaf down) down.descend-leaf.ensures.1 (path fed),
    )

split-if-over-requires : tie.Need-split_if_over-requires
split-if-over-requires c κs =
    let placed = c.before.before.before.before.before.before in
    let fed = fed placed in
    let down = found fed in
    let start = start down in
    let a = start.args in
    let floats = rw (sym placed.try_absorb-m.auto.floats) at placed.try_absorb-m.ensures.0.0 in (
      (floats, rw (sym placed.try_absorb-m.auto.links) at placed.try_absorb-m.ensures.0.1),
      row_rising a.s a.n a.floats.now _ a.links.now a.row.now _ start.requires.1 (leaf down) _ _ _ (path fed) placed.try_absorb-m.ensures.1
          floats,
    )

returns : tie.Need-returns
returns c =
    let split = c.split_if_over in
    let placed = c.before.before.before.before.before.before.before.before.before.before.before in
    let fed = fed placed in
    let down = found fed in
    let start = start down in
    let a = start.args in (
      (
        rw (placed.try_absorb-m.auto.floats, fed.feed_path.auto.floats) at split.ensures.0.0,
        rw placed.try_absorb-m.auto.links at split.ensures.0.1,
      ),
      grown-is a.s a.n a.floats.now _ a.links.now a.row.now _ start.requires.1 (leaf down) _ _ _ (path fed) placed.try_absorb-m.ensures.1
          split.ensures.1,
    )

pub grow_spec : {M : Type 1} → statement M
grow_spec = tie.close (tie.spec descend-requires feed-path-requires try-absorb-requires split-if-over-requires (λ c. search rules) (λ c. search rules) returns)

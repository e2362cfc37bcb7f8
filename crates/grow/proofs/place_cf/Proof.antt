-- `grow::place_cf` meets its contract: the leaf is found, its path fed, the summary begun in it, and the way up split.
use Prim.Native.Nat.{ℕ}
use mathlib.Core.Path.{◌≡◌, sym, ap, ◌∙◌, subst}
use borrow.Author.Rules.{rules}
use lib.ListN.{length}
use Rattle.feature.specs.Shape.{Shaped}
use Rattle.feature.specs.declared.Summary.{Summary}
use Rattle.rules.specs.Tree.{Tree, merge, dist_between}
use Rattle.rules.specs.Slices.{summary_in, tree_of}
use Rattle.rules.specs.Descent.{leaf_for, along_path}
use Rattle.rules.specs.Insert.{begun}
use Rattle.rules.specs.Held.{in_shaped}
use Rattle.arena.specs.Trees.{Floats, Links}
use Rattle.grow.specs.Places.{Place, place_spare, floats-begun, links_begun}
use Rattle.grow.specs.Room.{placeable_sure, entry_place, entry_rising, replaced-is}
use Rattle.grow.proofs.place_cf.Statement.{statement}
use Rattle.grow.proofs.place_cf.Tie as tie

-- the start, from the descent done; the descent, from the path fed; the path, from the entry begun
abbrev start : tie.After-descend-leaf → tie.Start
start c = c.before.before.before.before

abbrev found : tie.After-feed_path → tie.After-descend-leaf
found c = c.before.before

abbrev fed : tie.After-begin-m → tie.After-feed_path
fed c = c.before.before.before.before.before.before

-- the tree as it is lent, and the summary that goes in
abbrev tree : tie.Start → Tree
tree c = tree_of c.args.s c.args.n c.args.floats.now c.args.links.now

abbrev summary : tie.Start → Summary
summary c = summary_in c.args.s c.args.x.now

leaf : (c : tie.After-descend-leaf) → c.descend-leaf.result ≡ leaf_for (tree (start c)) (λ d. dist_between (start c).args.s d (summary (start c)))
leaf c = c.descend-leaf.ensures.0

path : (c : tie.After-feed_path)
    → tree_of (start (found c)).args.s (start (found c)).args.n c.feed_path.new.floats (start (found c)).args.links.now
    ≡ along_path (λ d. merge (start (found c)).args.s d (summary (start (found c)))) (found c).descend-leaf.result (tree (start (found c)))
path c = c.feed_path.ensures

place : (c : tie.After-feed_path)
    → Place (start (found c)).args.s (start (found c)).args.n (found c).descend-leaf.result
    (tree_of (start (found c)).args.s (start (found c)).args.n c.feed_path.new.floats (start (found c)).args.links.now)
place c =
    let down = found c in
    let a = (start down).args in
    entry_place a.s a.n a.floats.now _ a.links.now (summary (start down)) _ (start down).requires.1 (leaf down) down.descend-leaf.ensures.1 (path c)

listed : (c : tie.After-begin-m)
    → tree_of (start (found (fed c))).args.s c.begin-m.result c.begin-m.new.floats c.begin-m.new.links
    ≡ begun (found (fed c)).descend-leaf.result (summary (start (found (fed c))))
    (tree_of (start (found (fed c))).args.s (start (found (fed c))).args.n (fed c).feed_path.new.floats (start (found (fed c))).args.links.now)
listed c =
    let a = (start (found (fed c))).args in
    c.begin-m.ensures.1
    ∙ ap (λ e. begun (found (fed c)).descend-leaf.result e (tree_of a.s a.n (fed c).feed_path.new.floats a.links.now)) c.load.ensures

floats : (c : tie.After-begin-m) {k : ℕ} → k ≡ length (start (found (fed c))).args.floats.now → Floats (start (found (fed c))).args.s c.begin-m.result k
floats c q =
    let start = start (found (fed c)) in
    floats-begun start.args.s start.args.n _ c.begin-m.ensures.0 q start.requires.0.0 (place (fed c)).room

links : (c : tie.After-begin-m) {k : ℕ} → k ≡ length (start (found (fed c))).args.links.now → Links (start (found (fed c))).args.s c.begin-m.result k
links c q = let start = start (found (fed c)) in links_begun start.args.s start.args.n _ c.begin-m.ensures.0 q start.requires.0.1

descend-requires : tie.Need-descend-leaf-requires
descend-requires c κs =
    let start = c.before.before.before in
    (start.requires.0, placeable_sure _ _ _ start.requires.1)

feed-path-requires : tie.Need-feed_path-requires
feed-path-requires c κs =
    let start = start c.before in
    (start.requires.0, (placeable_sure _ _ _ start.requires.1, c.descend-leaf.ensures.1))

load-requires : tie.Need-load-requires
load-requires c κs =
    let fed = c.before.before.before.before in
    let start = start (found fed) in
    (start.requires.0.0.sized, start.requires.0.2)

begin-requires : tie.Need-begin-m-requires
begin-requires c κs =
    let fed = c.before.before.before.before.before in
    let start = start (found fed) in
    let a = start.args in
    let place = place fed in (
      (
        rw fed.feed_path.auto.floats start.requires.0.0,
        start.requires.0.1,
        place.here,
        place.room,
      ),
      (
        subst (Shaped a.s.feature a.s.dim) (sym c.load.ensures) (in_shaped a.s start.requires.0.0.sized a.x.now),
        place_spare a.s a.n _ a.links.now _ place,
      ),
    )

split-up-requires : tie.Need-split_up-requires
split-up-requires c κs =
    let begun = c.before.before.before.before.before.before in
    let fed = fed begun in
    let down = found fed in
    let start = start down in
    let a = start.args in
    let long = floats begun (begun.begin-m.auto.floats ∙ fed.feed_path.auto.floats) in (
      (long, links begun begun.begin-m.auto.links),
      entry_rising a.s a.n a.floats.now _ a.links.now (summary start) _ start.requires.1 (leaf down) _ _ _ (path fed) (listed begun) long,
    )

returns : tie.Need-returns
returns c =
    let split = c.split_up in
    let begun = c.before.before.before.before.before.before.before.before.before.before.before in
    let fed = fed begun in
    let down = found fed in
    let start = start down in
    let a = start.args in (
      (
        rw (begun.begin-m.auto.floats, fed.feed_path.auto.floats) at split.ensures.0.0,
        rw begun.begin-m.auto.links at split.ensures.0.1,
      ),
      replaced-is a.s a.n a.floats.now _ a.links.now (summary start) _ start.requires.1 (leaf down) _ _ _ (path fed) (listed begun)
          split.ensures.1,
    )

pub place_cf_spec : {M : Type 1} → statement M
place_cf_spec =
    tie.close (tie.spec descend-requires feed-path-requires load-requires begin-requires split-up-requires (λ c. search rules) (λ c. search rules)
    returns)

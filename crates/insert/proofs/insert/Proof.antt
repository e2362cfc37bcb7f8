-- `insert::insert` meets its contract: the row in the tree, and a rebuild if entries exceed M.
use mathlib.Core.Path.{◌≡◌, sym, ap, ◌∙◌}
use borrow.Author.Rules.{rules}
use lib.ListN.{length}
use Rattle.rules.specs.Tree.{Tree}
use Rattle.rules.specs.Slices.{tree_of}
use Rattle.insert.specs.Resting.{rest_grows, rest_rebuilds, with_rebuild, without_rebuild}
use Rattle.rules.specs.Insert.{grown, row_item}
use Rattle.rules.specs.Rebuild.{rebuilt}
use Rattle.arena.specs.Trees.{count_entries_lem}
use Rattle.insert.proofs.insert.Statement.{statement}
use Rattle.insert.proofs.insert.Tie as tie

-- the tree as it is lent
abbrev tree : tie.Start → Tree
tree c = tree_of c.args.s c.args.n c.args.floats.now c.args.links.now

-- the start, from the row placed, and this, from the counters that it gave
abbrev start : tie.After-grow-m → tie.Start
start c = c.before.before.before.before.before.before.before.before

abbrev growing : tie.After-slice_known-6-1 → tie.After-grow-m
growing c = c.before.before.before.before

-- the tree with the row has as many entries as the counters say
entries : (c : tie.After-grow-m) → length (grown (start c).args.s (row_item (start c).args.s (start c).args.row.now) (tree (start c))).entries ≡ c.grow-m.result.entries
entries c = ap (λ t. length t.entries) (sym c.grow-m.ensures.1) ∙ count_entries_lem (start c).args.s c.grow-m.result _ _

grow-requires : tie.Need-grow-m-requires
grow-requires c κs =
    let start = c.before.before.before.before.before.before.before in
    let a = start.args in
    ((start.requires.0.0, start.requires.0.1, start.requires.1.0), rest_grows a.s a.row.now (tree start) start.requires.1.1)

rebuild-requires : tie.Need-rebuild-requires
rebuild-requires c κs =
    let test = c.if-s-m in
    let grown = c.before.before.before.before.before.before.before.before.before.before.before in
    let start = start grown in
    let a = start.args in
    let grow = grown.grow-m in (
      (rw grow.auto.floats grow.ensures.0.0, rw grow.auto.links grow.ensures.0.1, start.requires.0.2),
      rw grow.ensures.1 (rest_rebuilds a.s a.row.now (tree start) start.requires.1.1 start.requires.0.0.sized (rw (entries grown) test.true)),
    )

returns : tie.Need-returns-then-s-m
returns c =
    let test = c.if-s-m in
    let grown = growing (c.before.before.before.before.before.before.before.before.before.before.before.before.before.before.before.before)
    in
    let start = start grown in
    let grow = grown.grow-m in
    let new = c.rebuild in (
      (rw grow.auto.floats at new.ensures.0.0, rw grow.auto.links at new.ensures.0.1),
      new.ensures.1 ∙ ap (rebuilt start.args.s) grow.ensures.1
          ∙ with_rebuild start.args.s start.args.row.now (tree start) (rw (entries grown) test.true),
    )

returns-2 : tie.Need-returns
returns-2 c =
    let grown = c.before.before.before.before.before.before.before in
    let start = start grown in
    let grow = grown.grow-m in
    (grow.ensures.0, grow.ensures.1 ∙ without_rebuild start.args.s start.args.row.now (tree start) (rw (entries grown) c.if-s-m.false))

pub insert_spec : {M : Type 1} → statement M
insert_spec = tie.close
    (tie.spec grow-requires rebuild-requires (λ c. search rules) (λ c. search rules) (λ c. search rules) (λ c. search rules) returns (λ c. search rules)
    (λ c. search rules) returns-2)

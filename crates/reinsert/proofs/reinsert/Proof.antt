-- `reinsert::reinsert` meets its contract: the entries are collected, the nodes forgotten, and the entries placed from the last to the first.
use borrow.Author.Rules.{rules}
use Rattle.rules.specs.Tree.{Tree}
use Rattle.rules.specs.Slices.{tree_of}
use Rattle.reinsert.specs.Whole.{floats-cleared, links_cleared, all_replaceable, reinserted-is}
use Rattle.reinsert.proofs.reinsert.Statement.{statement}
use Rattle.reinsert.proofs.reinsert.Tie as tie

-- the start, from the entries collected, and these, from the nodes forgotten
abbrev start : tie.After-collect-count → tie.Start
start c = c.before.before.before.before.before.before.before

abbrev taken : tie.After-clear-m → tie.After-collect-count
taken c = c.before.before.before.before.before.before.before

-- the tree as it is lent
abbrev tree : tie.Start → Tree
tree c = tree_of c.args.s c.args.n c.args.floats.now c.args.links.now

collect-requires : tie.Need-collect-count-requires
collect-requires c κs =
    let start = c.before.before.before.before.before.before in
    ((start.requires.0.0, start.requires.0.1, start.requires.1.1.standing), start.requires.1.0)

replace-all-requires : tie.Need-replace_all-requires
replace-all-requires c κs =
    let none = c.before.before.before.before.before.before in
    let all = taken none in
    let start = start all in
    let a = start.args in
    let counts = none.clear-m.ensures.0 in (
      (
        rw none.clear-m.auto.floats (floats-cleared a.s a.n _ counts start.requires.0.0),
        rw none.clear-m.auto.links (links_cleared a.s a.n _ counts start.requires.0.1),
        rw all.collect-count.auto.scratch start.requires.1.0.0,
      ),
      all_replaceable a.s (tree start) start.requires.1.1 all.collect-count.ensures none.clear-m.ensures.1 start.requires.0.0.sized,
    )

returns : tie.Need-returns
returns c =
    let none = c.before.before.before.before.before.before.before.before.before.before.before in
    let all = taken none in
    let start = start all in
    let new = c.replace_all in (
      (rw none.clear-m.auto.floats at new.ensures.0.0, rw none.clear-m.auto.links at new.ensures.0.1),
      reinserted-is start.args.s (tree start) start.requires.1.1 all.collect-count.ensures none.clear-m.ensures.1 new.ensures.1,
    )

pub reinsert_spec : {M : Type 1} → statement M
reinsert_spec =
    tie.close (tie.spec collect-requires (λ c κs. search rules) replace-all-requires (λ c. search rules) (λ c. search rules) (λ c. search rules)
    (λ c. search rules) returns)

-- `rebuild::merge_cheapest` meets its contract: sorted by cost, all entries there, and merged until the target.
use native.Mathlib.Omega.{arith}
use borrow.Author.Rules.{rules}
use Rattle.scratch.specs.Stored.{some_room}
use Rattle.rebuild.specs.Merges.{sorted-below, all-merged}
use Rattle.rebuild.proofs.merge_cheapest.Statement.{statement}
use Rattle.rebuild.proofs.merge_cheapest.Tie as tie

-- the start, from the pairs sorted
abbrev start : tie.After-sort → tie.Start
start c = c.before.before.before.before.before.before

sort-requires : tie.Need-sort-requires
sort-requires c κs =
    let start = c.before.before.before.before.before in
    some_room start.args.s start.requires.0.1 start.args.pairs start.requires.0.2

merge-pairs-requires : tie.Need-merge_pairs-requires
merge-pairs-requires c κs =
    let revive = c.revive in
    let paired = c.before.before.before.before.before.before.before.before.before.before.before in
    let start = start paired in
    let room = (some_room start.args.s start.requires.0.1 start.args.pairs start.requires.0.2).numbers_in in
    let all = start.requires.0.1.numbers_in in
    let entries = start.requires.0.0.entries_in in
    let first = paired.sort.auto.numbers in
    let second = revive.auto.numbers in (
      (start.requires.0.0, omega arith, omega arith),
      sorted-below start.args.s start.args.n _ start.args.pairs _ _ _ paired.sort.ensures revive.ensures.1 start.requires.1.1,
    )

returns : tie.Need-returns
returns c =
    let revive = c.revive in
    let wanted = c.wanted in
    let merge-pairs = c.merge_pairs in
    let paired = c.before.before.before.before.before.before.before.before.before.before.before.before.before.before.before.before in
    let start = start paired in
    all-merged start.args.s start.args.n _ start.args.pairs _ _ _ paired.sort.ensures revive.ensures.1 _ merge-pairs.result _ _ _
    wanted.ensures revive.ensures.0 merge-pairs.ensures

pub merge_cheapest_spec : {M : Type 1} → statement M
merge_cheapest_spec = tie.close
    (tie.spec sort-requires (λ c κs. search rules) (λ c κs. search rules) merge-pairs-requires (λ c. search rules) (λ c. search rules) (λ c. search rules)
    returns)

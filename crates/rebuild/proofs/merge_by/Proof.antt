-- `rebuild::merge_by` meets its contract: merged until the target, and compacted if anything was.
use mathlib.Core.Path.{◌∙◌}
use native.Mathlib.Omega.{arith}
use borrow.Author.Rules.{rules}
use Rattle.rebuild.specs.Counted.{merged-same, floats_as, links_as}
use Rattle.rebuild.specs.Merges.{merged-none, merged_some}
use Rattle.rebuild.specs.Rebuilding.{total-few, merges_compactable}
use Rattle.arena.specs.Trees.{count_entries_lem}
use Rattle.rebuild.proofs.merge_by.Statement.{statement}
use Rattle.rebuild.proofs.merge_by.Tie as tie

-- the start, from the merges done, and these, from the counters with them
abbrev start : tie.After-merge_cheapest-w → tie.Start
start c = c.before.before.before.before.before.before.before.before

abbrev merging : tie.After-merged → tie.After-merge_cheapest-w
merging c = c.before.before.before.before.before.before.before.before.before

merge-cheapest-requires : tie.Need-merge_cheapest-w-requires
merge-cheapest-requires c κs =
    let start = c.before.before.before.before.before.before.before in
    let a = start.args in
    let tree = start.requires.1.tree in
    let entries = count_entries_lem a.s a.n a.floats.now a.links.now in
    let more = tree.more in
    ((start.requires.0.0, start.requires.0.2, start.requires.1.pairs_few), (omega arith, rw entries at start.requires.1.far))

returns : tie.Need-returns-then-w-eq0
returns c =
    let start = c.before.before.before.before.before.before.before.before.before.before.before.before.before.before.before.before in
    let merge-cheapest = c.merge_cheapest-w in
    let a = start.args in (
      (start.requires.0.0, start.requires.0.1),
      merged-none a.s a.n _ merge-cheapest.result a.floats.now _ _ a.links.now merge-cheapest.ensures a.across c.if-w-eq0.true,
    )

merged-requires : tie.Need-merged-requires
merged-requires c κs =
    let start = c.before.before.before.before.before.before.before.before.before.before.before.before.before.before.before.before in
    let merge-cheapest = c.merge_cheapest-w in
    let a = start.args in
    total-few a.s a.n a.pairs _ merge-cheapest.result a.floats.now _ _ a.links.now start.requires.1 merge-cheapest.ensures
    start.requires.0.0.sized

compact-requires : tie.Need-compact-requires
compact-requires c κs =
    let merged = c.before.before.before.before in
    let all = merging merged in
    let start = start all in
    let a = start.args in
    let done = all.merge_cheapest-w in
    let new = merged.merged.ensures in
    let same = merged-same a.n merged.merged.result done.result new in
    let room = start.requires.0.2 in (
      (
        rw done.auto.floats (floats_as a.s a.n _ same start.requires.0.0),
        links_as a.s a.n _ same start.requires.0.1,
        rw (done.auto.scratch, done.auto.numbers) room,
      ),
      merges_compactable a.s a.n a.pairs _ done.result a.floats.now _ _ a.links.now start.requires.1 done.ensures
          merged.merged.result new,
    )

returns-2 : tie.Need-returns
returns-2 c =
    let test = c.if-w-eq0 in
    let merged = c.before.before.before.before.before.before.before.before.before.before.before.before.before in
    let all = merging merged in
    let a = (start all).args in
    let done = all.merge_cheapest-w in
    let new = c.compact in (
      (rw done.auto.floats at new.ensures.0.0, new.ensures.0.1),
      new.ensures.1
          ∙ merged_some a.s a.n _ done.result a.floats.now _ _ a.links.now done.ensures merged.merged.result a.across
          merged.merged.ensures test.false,
    )

pub merge_by_spec : {M : Type 1} → statement M
merge_by_spec = tie.close
    (tie.spec merge-cheapest-requires (λ c. search rules) (λ c. search rules) (λ c. search rules) returns merged-requires compact-requires (λ c. search rules)
    (λ c. search rules) (λ c. search rules) (λ c. search rules) returns-2)

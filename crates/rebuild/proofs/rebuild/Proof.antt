-- `rebuild::rebuild` meets its contract: merged, every node made anew, and counted.
use mathlib.Core.Path.{ap, ◌∙◌}
use borrow.Author.Rules.{rules}
use Rattle.rebuild.specs.Rebuilding.{merged-standing, rebuilt-is}
use Rattle.rebuild.specs.Counted.{counted_same, floats_as, links_as}
use Rattle.rules.specs.Refold.{refolded}
use Rattle.rules.specs.Tree.{Tree}
use Rattle.rules.specs.Slices.{tree_of}
use Rattle.rebuild.proofs.rebuild.Statement.{statement}
use Rattle.rebuild.proofs.rebuild.Tie as tie

-- the tree as it is lent
abbrev tree : tie.Start → Tree
tree c = tree_of c.args.s c.args.n c.args.floats.now c.args.links.now

-- the start, from the merges done
abbrev start : tie.After-merge-m → tie.Start
start c = c.before.before.before.before.before.before.before.before.before

refold-requires : tie.Need-refold-requires
refold-requires c κs =
    let merged = c.before.before.before.before.before.before.before.before.before.before in
    let start = start merged in
    let s = start.args.s in
    let done = merged.merge-m in
    let stands = merged-standing s (tree start) start.requires.1 start.requires.0.0.sized in (
      (
        rw done.auto.floats done.ensures.0.0,
        rw done.auto.links done.ensures.0.1,
        rw done.auto.scratch start.requires.0.2.floats_in_lem,
      ),
      rw done.ensures.1 stands,
    )

returns : tie.Need-returns
returns c =
    let refold = c.refold in
    let merged = c.before.before.before.before.before.before.before.before.before.before.before.before.before.before.before.before
    in
    let start = start merged in
    let s = start.args.s in
    let done = merged.merge-m in
    let count = c.counted.ensures in
    let same = counted_same done.result c.counted.result count in (
      (floats_as s done.result _ same done.ensures.0.0, links_as s done.result _ same done.ensures.0.1),
      rebuilt-is s (tree start) start.requires.1 done.result c.counted.result _ _ count (refold.ensures ∙ ap (refolded s) done.ensures.1),
    )

pub rebuild_spec : {M : Type 1} → statement M
rebuild_spec = tie.close
    (tie.spec (λ c κs. search rules) refold-requires (λ c κs. search rules) (λ c. search rules) (λ c. search rules) (λ c. search rules) (λ c. search rules)
    returns)

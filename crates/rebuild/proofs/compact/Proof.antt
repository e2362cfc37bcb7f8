-- `rebuild::compact` meets its contract: the merged-away entries dropped, and the others placed again where it is due.
use mathlib.Core.Path.{sym, ap, ◌∙◌, subst}
use native.Mathlib.Omega.{arith}
use borrow.Author.Rules.{rules}
use Rattle.rebuild.specs.Counted.{zero_same, floats_as, links_as, merged-zero, placed-again, left-placed}
use Rattle.merging.specs.Numbering.{floats-kept, links_kept}
use Rattle.reinsert.specs.Whole.{Reinsertable}
use Rattle.rules.specs.Tree.{on_running}
use Rattle.rebuild.proofs.compact.Statement.{statement}
use Rattle.head.specs.Counting.{with_merged}
use Rattle.rebuild.proofs.compact.Tie as tie

-- the start, from the merged ones dropped, and these, from the merged total set to 0
abbrev start : tie.After-drop_merged-m → tie.Start
start c = c.before.before.before.before.before.before.before.before

abbrev dropping : tie.After-with_merged → tie.After-drop_merged-m
dropping c = c.before.before.before.before.before.before.before.before.before

reinsert-requires : tie.Need-reinsert-requires
reinsert-requires c κs =
    let zeroed = c.before.before.before.before in
    let dropped = dropping zeroed in
    let start = start dropped in
    let a = start.args in
    let drop = dropped.drop_merged-m in
    let zero = zeroed.with_merged.ensures in
    let same = zero_same drop.result zeroed.with_merged.result zero in
    let left = drop.ensures.0 in
    let numbers = start.requires.0.2.numbers_in in
    let kept = drop.auto.numbers in (
      (
        rw drop.auto.floats
            (floats_as a.s drop.result _ same (floats-kept a.s a.n drop.result a.numbers.now left start.requires.0.0)),
        rw drop.auto.links
            (links_as a.s drop.result _ same (links_kept a.s a.n drop.result a.numbers.now left start.requires.0.1)),
      ),
      (
        (start.requires.0.2.floats_in_lem, omega arith),
        subst (Reinsertable a.s) (sym (merged-zero a.s _ _ drop.result zeroed.with_merged.result zero ∙ ap (on_running (with_merged 0)) drop.ensures.1))
            start.requires.1.again,
      ),
    )

returns : tie.Need-returns-then-due
returns c =
    let due = c.due in
    let test = c.if-due in
    let zeroed = c.before.before.before.before.before.before.before.before.before.before.before.before.before in
    let dropped = dropping zeroed in
    let drop = dropped.drop_merged-m in
    let a = (start dropped).args in
    let new = c.reinsert in (
      (rw drop.auto.floats at new.ensures.0.0, rw drop.auto.links at new.ensures.0.1),
      placed-again a.s a.across drop.result _ _ drop.ensures.1 zeroed.with_merged.result (sym due.ensures ∙ test.true)
          zeroed.with_merged.ensures new.ensures.1,
    )

returns-2 : tie.Need-returns
returns-2 c =
    let start = c.before.before.before.before.before.before.before.before.before.before.before.before.before.before.before.before in
    let a = start.args in
    let drop = c.drop_merged-m in (
      (
        floats-kept a.s a.n drop.result a.numbers.now drop.ensures.0 start.requires.0.0,
        links_kept a.s a.n drop.result a.numbers.now drop.ensures.0 start.requires.0.1,
      ),
      left-placed a.s a.across drop.result _ _ drop.ensures.1 (sym c.due.ensures ∙ c.if-due.false),
    )

pub compact_spec : {M : Type 1} → statement M
compact_spec = tie.close
    (tie.spec (λ c κs. search rules) (λ c κs. search rules) (λ c κs. search rules) reinsert-requires (λ c. search rules) (λ c. search rules)
    (λ c. search rules) (λ c. search rules) returns (λ c. search rules) (λ c. search rules) (λ c. search rules) returns-2)

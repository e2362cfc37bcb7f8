-- `refit::refit` meets its contract: nothing with no entries or no rows; else the rounds, and every node made anew.
use mathlib.Core.Path.{◌≡◌, sym, ap, ◌∙◌}
use native.Mathlib.Omega.{arith}
use borrow.Author.Rules.{rules}
use lib.ListN.{length}
use Rattle.rules.specs.Tree.{Tree}
use Rattle.rules.specs.Slices.{tree_of}
use Rattle.rules.specs.Refold.{refolded}
use Rattle.arena.specs.Trees.{count_entries_lem}
use Rattle.refit.specs.Rounds.{Pourable}
use Rattle.refit.specs.Refitting.{refit_pourable, rounds_standing, refit_bare, refit_none, refit_is}
use Rattle.refit.proofs.refit.Statement.{statement}
use Rattle.refit.proofs.refit.Tie as tie

-- the start, from the two tests passed; and these, from the rounds done
abbrev start : tie.Else-count-eq0 → tie.Start
start c = c.before.before.before.before.before.before.before.before

abbrev tests : tie.After-rounds-m → tie.Else-count-eq0
tests c = c.before.before.before.before.before

-- the tree as it is lent
abbrev tree : tie.Start → Tree
tree c = tree_of c.args.s c.args.n c.args.floats.now c.args.links.now

-- it has as many entries as the counters say
entries : (c : tie.Start) → length (tree c).entries ≡ c.args.n.entries
entries c = count_entries_lem c.args.s c.args.n c.args.floats.now c.args.links.now

-- past the tests it has some, and there are rows
pourable : (c : tie.Else-count-eq0) → Pourable (start c).args.s (start c).args.count (tree (start c))
pourable c =
    let start = start c in
    refit_pourable start.args.s start.args.count (tree start) start.requires.1.1 (omega (arith, entries start, c.if-n-eq0.false))
    (omega (arith, c.if-count-eq0.false))

returns : tie.Need-returns-then-n-eq0
returns c =
    let start = c.before.before.before.before.before.before.before in
    let a = start.args in
    ((start.requires.0.0, start.requires.0.1), refit_bare a.s a.count a.rows.now (tree start) (entries start ∙ c.if-n-eq0.true))

returns-2 : tie.Need-returns-then-count-eq0
returns-2 c =
    let start = c.before.before.before.before.before.before.before.before in
    let a = start.args in
    ((start.requires.0.0, start.requires.0.1), refit_none a.s a.count a.rows.now (tree start) c.if-count-eq0.true)

rounds-requires : tie.Need-rounds-m-requires
rounds-requires c κs =
    let tests = c.before.before.before.before in
    let start = start tests in
    (start.requires.0, (start.requires.1.0, pourable tests))

refold-requires : tie.Need-refold-requires
refold-requires c κs =
    let rounds = c.before.before.before.before.before.before.before.before.before.before in
    let tests = tests rounds in
    let start = start tests in
    let a = start.args in
    let done = rounds.rounds-m in (
      (
        rw done.auto.floats done.ensures.0.0,
        rw done.auto.links done.ensures.0.1,
        rw done.auto.scratch start.requires.0.2.floats_in_lem,
      ),
      rounds_standing a.s a.count a.rows.now (tree start) a.n.entries start.requires.0.0.sized (pourable tests) (sym (entries start))
          (omega (arith, tests.if-n-eq0.false)) start.requires.0.0.entries_in done.ensures.1,
    )

returns-3 : tie.Need-returns
returns-3 c =
    let refold = c.before.before.before.before in
    let rounds = refold.before.before.before.before.before.before.before.before.before.before.before in
    let tests = tests rounds in
    let start = start tests in
    let a = start.args in
    let done = rounds.rounds-m in (
      done.ensures.0,
      refit_is a.s a.count a.rows.now (tree start) a.n.entries tests.if-n-eq0.false tests.if-count-eq0.false (sym (entries start))
          (refold.refold.ensures ∙ ap (refolded a.s) done.ensures.1),
    )

pub refit_spec : {M : Type 1} → statement M
refit_spec =
    tie.close (tie.spec returns returns-2 rounds-requires refold-requires (λ c. search rules) (λ c. search rules) (λ c. search rules) (λ c. search rules)
    returns-3)

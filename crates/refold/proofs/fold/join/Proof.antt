-- `refold::fold::join` meets its contract: what was read is merged into the other slot.
use mathlib.Core.Path.{sym, ap, subst}
use borrow.Author.Rules.{rules}
use Rattle.feature.specs.Shape.{Shaped}
use Rattle.rules.specs.Tree.{merge}
use Rattle.arena.specs.Numbered.{summary_at}
use Rattle.arena.specs.Trees.{slot_shaped}
use Rattle.refold.specs.Folds.{folded_as, stored_folded}
use Rattle.refold.proofs.fold.join.Statement.{statement}
use Rattle.refold.proofs.fold.join.Tie as tie

merge-requires : tie.Need-merge-requires
merge-requires c κs =
    let start = c.before.before.before in (
      start.requires.0,
      subst (Shaped start.args.s.feature start.args.s.dim) (sym c.load-c.ensures)
          (slot_shaped start.args.s start.requires.0.sized start.args.scratch.now start.args.from),
    )

returns : tie.Need-returns
returns c =
    let start = c.before.before.before.before.before.before in
    let load = c.load-c in
    folded_as (ap (merge start.args.s (summary_at start.args.s start.args.scratch.now start.args.at)) load.ensures)
    (stored_folded _ c.merge.ensures)

pub join_spec : {M : Type 1} → statement M
join_spec = tie.close (tie.spec (λ c κs. search rules) merge-requires (λ c. search rules) returns)

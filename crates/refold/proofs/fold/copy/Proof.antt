-- `refold::fold::copy` meets its contract: stored in its slot.
use mathlib.Core.Path.{sym, subst}
use mathlib.Core.List.{[]}
use borrow.Author.Rules.{rules}
use Rattle.feature.specs.Shape.{Shaped}
use Rattle.arena.specs.Trees.{child_shaped}
use Rattle.refold.specs.Folds.{folded_as, stored_folded}
use Rattle.refold.proofs.fold.copy.Statement.{statement}
use Rattle.refold.proofs.fold.copy.Tie as tie

store-requires : tie.Need-store-requires
store-requires c κs =
    let start = c.before.before.before.before in (
      start.requires.2,
      subst (Shaped start.args.s.feature start.args.s.dim) (sym (c.summary-x.ensures []))
          (child_shaped start.args.s start.requires.0.sized start.args.n start.args.floats.now [] start.args.c start.args.leaf
          start.requires.1),
    )

returns : tie.Need-returns
returns c =
    let summary = c.summary-x in
    λ ls. folded_as (summary.ensures ls) (stored_folded (λ _. summary.result) c.store.ensures)

pub copy_spec : {M : Type 1} → statement M
copy_spec = tie.close (tie.spec (λ c κs. search rules) store-requires (λ c. search rules) returns)

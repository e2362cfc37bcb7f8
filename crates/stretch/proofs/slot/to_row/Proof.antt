-- `stretch::slot::to_row` meets its contract: the two sums over the parts are those over the summary that the slot holds.
use mathlib.Core.Path.{◌∙◌}
use borrow.Author.Rules.{rules}
use Rattle.stretch.specs.Slots.{point_parts}
use Rattle.stretch.proofs.slot.to_row.Statement.{statement}
use Rattle.stretch.proofs.slot.to_row.Tie as tie

returns : tie.Need-returns
returns c =
    let gap = c.gap-q in
    let start = c.before.before.before.before.before.before.before.before in
    c.to_row.ensures ∙ point_parts start.args.s start.requires.0 start.args.p.now start.requires.1 start.args.k start.args.row.now _
    _ gap.ensures c.ssd-v.ensures

pub to_row_spec : {M : Type 1} → statement M
to_row_spec =
    tie.close (tie.spec (λ c. search rules) (λ c. search rules) (λ c. search rules) (λ c. search rules) (λ c κs. search rules) (λ c. search rules)
    (λ c. search rules) (λ c. search rules) (λ c. search rules) (λ c κs. search rules) (λ c. search rules) (λ c κs. search rules) returns)

-- `refusals::change::row` meets its contract: the row's length after the tree, and then the total.
use Rattle.std.proofs.Common.{sym, ◌∙◌}
use borrow.Author.Tests.{eq-eqb, ne_eqb}
use Rattle.rules.specs.RefusalLaws.{unless_refused, unless_passed}
use Rattle.refusals.specs.Granted.{change_grants, ready_counts}
use Rattle.refusals.specs.Each.{passed_up, refused_first, others_answer}
use Rattle.rules.specs.Calls.{row_asked, row_refusals, row_shape_refusal, lent_tree}
use Rattle.refusals.proofs.change.row.Goals as goal

pub returns-in_err-change : goal.returns-in_err-change
unfolding row_refusals
returns-in_err-change c = passed_up c.from_residual.ensures.1 ∙ refused_first _ _ c.in_err-change.ensures

pub returns-then-row-s : goal.returns-then-row-s
unfolding row_refusals row_asked row_shape_refusal
returns-then-row-s c =
    rw c.settings-s.ensures
    (others_answer _ _ c.in_ok-change.ensures (unless_refused _ _ _ (ne_eqb _ _ (rw c.settings-s.ensures at c.if-row-s.true))))

pub full-requires : goal.full-requires
full-requires c = rw c.settings-s.ensures (ready_counts _ _ (change_grants _ _ (sym c.in_ok-change.ensures)))

pub returns : goal.returns
unfolding row_refusals row_asked row_shape_refusal lent_tree
returns c =
    let full = rw c.settings-s.ensures at (c.full.ensures c.args.links.now) in
    let shape = eq-eqb _ _ (rw c.settings-s.ensures at c.if-row-s.false) in
    others_answer _ _ c.in_ok-change.ensures (full ∙ unless_passed _ _ _ shape)

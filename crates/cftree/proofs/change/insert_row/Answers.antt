-- `cftree::change::insert_row` meets its contract: refused, all is as lent; accepted, the row is in the tree.
use Rattle.std.proofs.Common.{arith, sym, ap, ◌∙◌}
use borrow.Author.Rules.{rules}
use Rattle.std.specs.Float.Ieee.{nan}
use Rattle.cftree.specs.Outcomes.{refused_as_lent, done_as_ruled}
use Rattle.cftree.specs.Accepted.{insertable}
use Rattle.work.specs.Worked.{one_row}
use Rattle.rules.specs.Calls.{row_inserted, changed}
use Rattle.rules.specs.CallLaws.{row_taken}
use Rattle.cftree.proofs.change.insert_row.Goals as goal

pub returns-in_err-row : goal.returns-in_err-row
unfolding row_inserted
returns-in_err-row c = refused_as_lent _ _ _ _ _ c.from_residual.ensures.1 c.in_err-row.ensures

pub change-requires : goal.change-requires
change-requires c =
    let a = row_taken _ _ _ (sym c.in_ok-row.ensures) in
    record { ready = (a.ready, (let wide = a.shape in omega arith)); workable = insertable _ _ a.ready nan (search rules) 1 a.room }

pub returns : goal.returns
unfolding row_inserted
returns c =
    let a = row_taken _ _ _ (sym c.in_ok-row.ensures) in
    done_as_ruled _ _ _ _ c.in_ok-row.ensures (c.change.ensures ∙ ap (changed _ _) (one_row _ _ _ a.shape))

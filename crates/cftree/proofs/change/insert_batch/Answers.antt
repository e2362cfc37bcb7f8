-- `cftree::change::insert_batch` meets its contract: refused, all is as lent; accepted, all rows are in the tree.
use Rattle.std.proofs.Common.{sym}
use borrow.Author.Rules.{rules}
use Rattle.std.specs.Float.Ieee.{nan}
use Rattle.cftree.specs.Outcomes.{refused_as_lent, done_as_ruled}
use Rattle.cftree.specs.Accepted.{rows_in, insertable}
use Rattle.head.specs.Heads.{settings_of}
use Rattle.head.specs.Limits.{allowed-sized}
use Rattle.rules.specs.Calls.{batch_inserted}
use Rattle.rules.specs.CallLaws.{batch-taken}
use Rattle.work.specs.Worked.{worked}
use Rattle.cftree.proofs.change.insert_batch.Goals as goal

pub returns-in_err-batch : goal.returns-in_err-batch
unfolding batch_inserted
returns-in_err-batch c = refused_as_lent _ _ _ _ _ c.from_residual.ensures.1 c.in_err-batch.ensures

pub nonzero_div-rows : goal.nonzero_div-rows
unfolding settings_of
nonzero_div-rows c = (allowed-sized _ (batch-taken _ _ _ (sym c.in_ok-batch.ensures)).ready.allows).dim_some

pub change-requires : goal.change-requires
unfolding settings_of
change-requires c =
    let a = batch-taken _ _ _ (sym c.in_ok-batch.ensures) in
    record { ready = (a.ready, rows_in _ _); workable = insertable _ _ a.ready nan (search rules) _ a.room }

pub returns : goal.returns
unfolding batch_inserted settings_of worked
returns c = done_as_ruled _ _ _ _ c.in_ok-batch.ensures c.change.ensures

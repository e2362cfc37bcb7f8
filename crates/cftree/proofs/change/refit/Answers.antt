-- `cftree::change::refit` meets its contract: refused, all is as lent; accepted, the entries are made anew.
use Rattle.std.proofs.Common.{sym}
use borrow.Author.Rules.{rules}
use Rattle.std.specs.Float.Ieee.{nan}
use Rattle.cftree.specs.Outcomes.{refused_as_lent, done_as_ruled}
use Rattle.cftree.specs.Accepted.{rows_in, refittable}
use Rattle.head.specs.Heads.{settings_of}
use Rattle.head.specs.Limits.{allowed-sized}
use Rattle.rules.specs.Calls.{batch_refitted}
use Rattle.rules.specs.CallLaws.{refit_taken}
use Rattle.work.specs.Worked.{worked}
use Rattle.cftree.proofs.change.refit.Goals as goal

pub returns-in_err-refit : goal.returns-in_err-refit
unfolding batch_refitted
returns-in_err-refit c = refused_as_lent _ _ _ _ _ c.from_residual.ensures.1 c.in_err-refit.ensures

pub nonzero_div-rows : goal.nonzero_div-rows
unfolding settings_of
nonzero_div-rows c = (allowed-sized _ (refit_taken _ _ _ (sym c.in_ok-refit.ensures)).ready.allows).dim_some

pub change-requires : goal.change-requires
unfolding settings_of
change-requires c =
    let a = refit_taken _ _ _ (sym c.in_ok-refit.ensures) in
    record { ready = (a.ready, rows_in _ _); workable = refittable _ _ a.ready nan (search rules) _ a.room }

pub returns : goal.returns
unfolding batch_refitted settings_of worked
returns c = done_as_ruled _ _ _ _ c.in_ok-refit.ensures c.change.ensures

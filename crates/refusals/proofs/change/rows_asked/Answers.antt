-- `refusals::change::rows_asked` meets its contract: the rows' shape after the tree.
use Rattle.std.proofs.Common.{sym, ◌∙◌}
use Rattle.head.specs.Heads.{settings_of}
use Rattle.head.specs.Limits.{allowed-sized}
use Rattle.refusals.specs.Granted.{change_grants}
use Rattle.refusals.specs.Each.{passed_up, refused_first, others_answer}
use Rattle.rules.specs.Calls.{rows_asked}
use Rattle.refusals.proofs.change.rows_asked.Goals as goal

pub returns-in_err-change : goal.returns-in_err-change
returns-in_err-change c = passed_up c.from_residual.ensures.1 ∙ refused_first _ _ c.in_err-change.ensures

pub shape-requires : goal.shape-requires
unfolding settings_of
shape-requires c = (allowed-sized _ (change_grants _ _ (sym c.in_ok-change.ensures)).allows).dim_some

pub returns : goal.returns
unfolding settings_of rows_asked
returns c = others_answer _ _ c.in_ok-change.ensures c.shape.ensures

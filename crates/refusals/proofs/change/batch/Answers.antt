-- `refusals::change::batch` meets its contract: the total after all that comes before it.
use Rattle.std.proofs.Common.{sym, ap, ◌∙◌}
use Rattle.head.specs.Heads.{settings_of}
use Rattle.head.specs.Limits.{allowed-sized}
use Rattle.refusals.specs.Granted.{rows_grants, batch_parts, ready_counts}
use Rattle.refusals.specs.Each.{passed_up, refused_first, others_answer}
use Rattle.rules.specs.Calls.{answer_of, lent_tree}
use Rattle.refusals.proofs.change.batch.Goals as goal

pub returns-in_err-rows_asked : goal.returns-in_err-rows_asked
returns-in_err-rows_asked c = passed_up c.from_residual.ensures.1 ∙ refused_first _ _ c.in_err-rows_asked.ensures ∙ ap answer_of (batch_parts _ _ _)

pub nonzero_div-rows : goal.nonzero_div-rows
unfolding settings_of
nonzero_div-rows c = (allowed-sized _ (rows_grants _ _ _ (sym c.in_ok-rows_asked.ensures)).allows).dim_some

pub full-requires : goal.full-requires
full-requires c = rw c.settings.ensures (ready_counts _ _ (rows_grants _ _ _ (sym c.in_ok-rows_asked.ensures)))

pub returns : goal.returns
unfolding settings_of lent_tree
returns c =
    let full = rw c.settings.ensures at (c.full.ensures c.args.links.now) in
    others_answer _ _ c.in_ok-rows_asked.ensures full ∙ ap answer_of (batch_parts _ _ _)

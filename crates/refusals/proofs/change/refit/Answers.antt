-- `refusals::change::refit` meets its contract: the rows' number after all that comes before it.
use Rattle.std.proofs.Common.{sym, ap, ◌∙◌}
use Rattle.head.specs.Heads.{settings_of}
use Rattle.head.specs.Limits.{allowed-sized}
use Rattle.arena.specs.Trees.{count_entries_lem}
use Rattle.refusals.specs.Granted.{rows_grants, refit_parts}
use Rattle.refusals.specs.Each.{passed_up, refused_first, others_answer}
use Rattle.rules.specs.Calls.{answer_of, lent_tree}
use Rattle.refusals.proofs.change.refit.Goals as goal

pub returns-in_err-rows_asked : goal.returns-in_err-rows_asked
returns-in_err-rows_asked c = passed_up c.from_residual.ensures.1 ∙ refused_first _ _ c.in_err-rows_asked.ensures ∙ ap answer_of (refit_parts _ _ _)

pub nonzero_div-rows : goal.nonzero_div-rows
unfolding settings_of
nonzero_div-rows c = (allowed-sized _ (rows_grants _ _ _ (sym c.in_ok-rows_asked.ensures)).allows).dim_some

pub returns : goal.returns
unfolding settings_of lent_tree
returns c =
    let a = c.args in
    let full = c.refit_full.ensures _ (count_entries_lem (settings_of a.h) a.h.counters a.floats.now a.links.now) in
    others_answer _ _ c.in_ok-rows_asked.ensures full ∙ ap answer_of (refit_parts _ _ _)

-- `refusals::change::refit_full` meets its contract: nothing to count without entries.
use mathlib.Core.Path.{sym, ◌∙◌}
use Rattle.refusals.specs.Each.{refit_none, refit_over, refit_fits}
use Rattle.refusals.proofs.change.refit_full.Goals as goal

pub returns-then-entries-eq0 : goal.returns-then-entries-eq0
returns-then-entries-eq0 c = λ t e. refit_none t _ (e ∙ c.if-entries-eq0.true)

pub returns-then-rows-gt-MOST_ROWS : goal.returns-then-rows-gt-MOST_ROWS
returns-then-rows-gt-MOST_ROWS c = λ t e. refit_over t _ (λ z. c.if-entries-eq0.false (sym e ∙ z)) c.if-rows-gt-MOST_ROWS.true

pub returns : goal.returns
returns c = λ t e. refit_fits t _ c.if-rows-gt-MOST_ROWS.false

-- `export::change::cftree_refit` meets its contract: what the call over values leaves, its head and answer in numbers.
use mathlib.Core.Path.{sym}
use Rattle.export.specs.Given.{left-numbers}
use Rattle.export.proofs.change.cftree_refit.Goals as goal

pub returns : goal.returns
returns c = rw (sym c.head_of-h.ensures) (left-numbers _ c.refit-outcome.result c.outcome_numbers.ensures c.refit-outcome.ensures)

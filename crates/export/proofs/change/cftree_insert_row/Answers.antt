-- `export::change::cftree_insert_row` meets its contract: what the call over values leaves, its head and answer in numbers.
use mathlib.Core.Path.{sym}
use Rattle.export.specs.Given.{left-numbers}
use Rattle.export.proofs.change.cftree_insert_row.Goals as goal

pub returns : goal.returns
returns c = rw (sym c.head_of-h.ensures) (left-numbers _ c.insert_row-outcome.result c.outcome_numbers.ensures c.insert_row-outcome.ensures)

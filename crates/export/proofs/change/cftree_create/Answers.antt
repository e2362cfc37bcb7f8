-- `export::change::cftree_create` meets its contract: what the call over values leaves, its head and answer in numbers.
use mathlib.Core.Path.{sym}
use Rattle.export.specs.Given.{made-numbers}
use Rattle.export.proofs.change.cftree_create.Goals as goal

pub returns : goal.returns
returns c = rw (sym c.head_of-h.ensures) (made-numbers _ c.create-outcome.result c.outcome_numbers.ensures c.create-outcome.ensures)

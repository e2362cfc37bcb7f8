-- `export::look::cftree_spread` meets its contract: what the call over values writes, its answer in numbers.
use mathlib.Core.Path.{sym}
use Rattle.export.specs.Seen.{written-numbers}
use Rattle.export.proofs.look.cftree_spread.Goals as goal

pub returns : goal.returns
returns c = rw (sym c.head_of-h.ensures) (written-numbers c.answer_numbers.ensures c.spread-answer.ensures)

-- `refusals::look::empty` meets its contract: rows, and no entry for them.
use mathlib.Core.Path.{sym, ◌∙◌}
use Rattle.refusals.specs.Each.{no_rows, nowhere, somewhere}
use Rattle.refusals.proofs.look.empty.Goals as goal

pub returns-then-rows-eq0 : goal.returns-then-rows-eq0
returns-then-rows-eq0 c = λ t e. no_rows t _ c.if-rows-eq0.true

pub returns-then-entries-eq0 : goal.returns-then-entries-eq0
returns-then-entries-eq0 c = λ t e. nowhere t _ c.if-rows-eq0.false (e ∙ c.if-entries-eq0.true)

pub returns : goal.returns
returns c = λ t e. somewhere t _ (λ z. c.if-entries-eq0.false (sym e ∙ z))

-- `refusals::lent::create` meets its contract: the settings before the room.
use mathlib.Core.Path.{sym, ◌∙◌}
use Rattle.rules.specs.RefusalLaws.{unless_refused, unless_passed}
use Rattle.head.specs.Limits.{allowed-sized}
use Rattle.rules.specs.Calls.{create_refusals, settings_refusal}
use borrow.Author.Tests.{not-true, not-false}
use Rattle.refusals.proofs.lent.create.Goals as goal

pub returns-then-not-is_allowed : goal.returns-then-not-is_allowed
unfolding create_refusals settings_refusal
returns-then-not-is_allowed c = unless_refused _ _ _ (sym c.is_allowed.ensures ∙ not-true _ c.if-not-is_allowed.true-raw)

pub floats_needed-requires : goal.floats_needed-requires
floats_needed-requires c = rw c.settings-s.ensures (allowed-sized _ (sym c.is_allowed.ensures ∙ not-false _ c.if-not-is_allowed.false-raw))

pub links_needed-requires : goal.links_needed-requires
links_needed-requires c = rw c.settings-s.ensures (allowed-sized _ (sym c.is_allowed.ensures ∙ not-false _ c.if-not-is_allowed.false-raw))

pub returns : goal.returns
unfolding create_refusals settings_refusal
returns c =
    c.room.ensures
    ∙ rw (c.links_needed.ensures, c.floats_needed.ensures, c.settings-s.ensures)
    (unless_passed _ _ _ (sym c.is_allowed.ensures ∙ not-false _ c.if-not-is_allowed.false-raw))

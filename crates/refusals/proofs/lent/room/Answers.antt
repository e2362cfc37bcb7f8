-- `refusals::lent::room` meets its contract: each slice by its length.
use mathlib.Core.Path.{◌∙◌}
use Rattle.rules.specs.RefusalLaws.{unless_refused, unless_passed, only_refused, only_passed}
use Rattle.rules.specs.Calls.{room_refusal}
use borrow.Author.Tests.{lt-leb, le-leb}
use Rattle.refusals.proofs.lent.room.Goals as goal

pub returns-then-floats-floats_needed : goal.returns-then-floats-floats_needed
unfolding room_refusal
returns-then-floats-floats_needed c = unless_refused _ _ _ (lt-leb _ _ c.if-floats-floats_needed.true)

pub returns-then-links-links_needed : goal.returns-then-links-links_needed
unfolding room_refusal
returns-then-links-links_needed c = only_refused _ _ (lt-leb _ _ c.if-links-links_needed.true) ∙ unless_passed _ _ _ (le-leb _ _ c.if-floats-floats_needed.false)

pub returns : goal.returns
unfolding room_refusal
returns c = only_passed _ _ (le-leb _ _ c.if-links-links_needed.false) ∙ unless_passed _ _ _ (le-leb _ _ c.if-floats-floats_needed.false)

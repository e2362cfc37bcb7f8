-- `export::sizes::needed` meets its contract: the formula is asked of a head within its limits.
use mathlib.Core.Path.{sym, ◌∙◌}
use borrow.Author.Tests.{not-false}
use Rattle.head.specs.Limits.{allowed-sized}
use Rattle.export.proofs.sizes.needed.Goals as goal

pub formula-requires : goal.formula-requires
formula-requires g c =
    rw c.settings.ensures (c.requires _ (allowed-sized _ (sym c.is_allowed.ensures ∙ not-false _ c.if-not-is_allowed.false-raw)))

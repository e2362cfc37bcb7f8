-- `stretch::slot::weight` meets its contract: the weight stands first.
use mathlib.Core.Path.{refl}
use borrow.Author.Rules.{rules}
use Rattle.rules.specs.Slices.{summary_in}
use Rattle.stretch.proofs.slot.weight.Statement.{statement}
use Rattle.stretch.proofs.slot.weight.Tie as tie

returns : tie.Need-returns
unfolding summary_in
returns c = refl

pub weight_spec : {M : Type 1} → statement M
weight_spec = tie.close (tie.spec (λ c. search rules) returns)

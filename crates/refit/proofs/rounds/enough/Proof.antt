-- `refit::rounds::enough` meets its contract: no leaf was emptied, and a round has reinserted.
use mathlib.Core.Path.{sym, ap, ◌∙◌}
use mathlib.Core.Bool.{not, ◌&&◌}
use borrow.Author.Rules.{rules}
use lib.Dec.{leb}
use Rattle.rules.specs.Refit.{enough}
use Rattle.refit.proofs.rounds.enough.Statement.{statement}
use Rattle.refit.proofs.rounds.enough.Tie as tie

returns : tie.Need-returns-then-any_hollow
unfolding enough
returns c =
    let a = c.args in
    λ fs. ap (λ b. not b && leb 1 a.done) (sym c.if-any_hollow.true ∙ c.any_hollow.ensures fs)

returns-2 : tie.Need-returns
unfolding enough
returns-2 c =
    let a = c.args in
    λ fs. ap (λ b. not b && leb 1 a.done) (sym c.if-any_hollow.false ∙ c.any_hollow.ensures fs)

pub enough_spec : {M : Type 1} → statement M
enough_spec = tie.close (tie.spec (λ c κs. search rules) returns returns-2)

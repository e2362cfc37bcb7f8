-- `work::perform` meets its contract: the work that is asked for.
use mathlib.Core.Path.{◌∙◌}
use borrow.Author.Rules.{rules}
use Rattle.work.specs.Worked.{insert_asks, insert_does, refit_asks, refit_does}
use Rattle.work.proofs.perform.Statement.{statement}
use Rattle.work.proofs.perform.Tie as tie

insert-all-requires : tie.Need-insert_all-requires
insert-all-requires c κs =
    (c.requires.0, (c.requires.1.0, insert_asks _ _ (search rules) c.requires.1.1))

refit-requires : tie.Need-refit-requires
refit-requires c κs =
    (c.requires.0, (c.requires.1.0, refit_asks _ _ (search rules) c.requires.1.1))

returns : tie.Need-returns-in-Insert
returns c = (c.insert_all.ensures.0, c.insert_all.ensures.1 ∙ insert_does _ _ (search rules) _)

returns-2 : tie.Need-returns-in-Refit
returns-2 c = (c.refit.ensures.0, c.refit.ensures.1 ∙ refit_does _ _ (search rules) _)

pub perform_spec : {M : Type 1} → statement M
perform_spec = tie.close (tie.spec (λ c. search rules) insert-all-requires (λ c. search rules) refit-requires (λ c. search rules) (λ c. search rules) (λ c. search rules) (λ c. search rules) returns (λ c. search rules) (λ c. search rules) (λ c. search rules) (λ c. search rules) returns-2)

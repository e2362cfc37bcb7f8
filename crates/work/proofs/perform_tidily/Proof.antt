-- `work::perform_tidily` meets its contract: the work is done, and the slices are cleared.
use mathlib.Core.Path.{subst}
use borrow.Author.Rules.{rules}
use Rattle.fronts.specs.Fronts.{all_fronts, scratch_in, AllLeft}
use Rattle.work.proofs.perform_tidily.Statement.{statement}
use Rattle.work.proofs.perform_tidily.Tie as tie

perform-requires : tie.Need-perform-m-requires
perform-requires c κs =
    ((c.requires.0.tree.floats_in_lem, c.requires.0.tree.links_in, scratch_in c.requires.0), c.requires.1)

tidy-all-requires : tie.Need-tidy_all-requires
tidy-all-requires c κs =
    let new = c.perform-m in
    all_fronts c.requires.0 new.auto.floats new.auto.links new.auto.scratch new.auto.numbers new.ensures.0.0
    new.ensures.0.1

returns : tie.Need-returns
returns c =
    let tidy = c.tidy_all in
    let new = c.perform-m in
    subst (λ t. AllLeft c.args.s t new.result tidy.new.floats tidy.new.links tidy.new.scratch tidy.new.numbers)
    new.ensures.1 tidy.ensures

pub perform_tidily_spec : {M : Type 1} → statement M
perform_tidily_spec = tie.close (tie.spec perform-requires tidy-all-requires (λ c. search rules) (λ c. search rules) (λ c. search rules) (λ c. search rules) returns)

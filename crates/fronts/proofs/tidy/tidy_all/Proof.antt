-- `fronts::tidy::tidy_all` meets its contract: the tree's slices, then scratch.
use mathlib.Core.Path.{ap, ◌∙◌}
use borrow.Author.Rules.{rules}
use lib.ListN.{replicate}
use Rattle.binary64.specs.Operators.{f0}
use Rattle.fronts.proofs.tidy.tidy_all.Statement.{statement}
use Rattle.fronts.proofs.tidy.tidy_all.Tie as tie

tidy-requires : tie.Need-tidy-requires
tidy-requires c κs = c.requires.tree

returns : tie.Need-returns
returns c =
    let start = c.before.before.before.before.before.before.before.before.before.before.before.before.before.before.before.before.before.before.before in
    record {
      tree = c.tidy.ensures;
      scratch = c.zero.ensures ∙ ap (λ k. replicate k f0) start.requires.scratch_exact;
      numbers = c.zero-2.ensures ∙ ap (λ k. replicate k 0) start.requires.numbers_exact;
    }

pub tidy_all_spec : {M : Type 1} → statement M
tidy_all_spec = tie.close (tie.spec tidy-requires (λ c κs. search rules) (λ c κs. search rules) (λ c. search rules) (λ c. search rules) (λ c. search rules) (λ c. search rules) returns)

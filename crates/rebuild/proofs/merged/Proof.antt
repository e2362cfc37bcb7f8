-- `rebuild::merged` meets its contract: the threshold grown, and the total with the merges.
use mathlib.Core.Path.{◌∙◌}
use borrow.Author.Rules.{rules}
use Rattle.head.specs.Counting.{count_running}
use Rattle.rules.specs.Rebuild.{merges_on}
use Rattle.rebuild.specs.Counted.{merged_counts}
use Rattle.rebuild.proofs.merged.Statement.{statement}
use Rattle.rebuild.proofs.merged.Tie as tie

returns : tie.Need-returns
unfolding merged_counts count_running merges_on
returns c =
    let grown = c.grown-threshold in
    c.with_merged.ensures ∙ rw (c.with_threshold.ensures, grown.ensures)

pub merged_spec : {M : Type 1} → statement M
merged_spec = tie.close (tie.spec (λ c κs. search rules) (λ c κs. search rules) (λ c. search rules) (λ c κs. search rules) returns)

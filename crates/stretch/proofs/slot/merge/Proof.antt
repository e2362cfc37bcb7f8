-- `stretch::slot::merge` meets its contract: what is stored of the merged summary reads back as it.
use mathlib.Core.Path.{ap, ◌∙◌}
use borrow.Author.Rules.{rules}
use Rattle.feature.specs.Steps.{merged}
use Rattle.rules.specs.Slices.{summary_in}
use Rattle.rules.specs.Stored.{summary_back}
use Rattle.feature.specs.Shape.{merged_shaped}
use Rattle.rules.specs.Held.{in_shaped}
use Rattle.stretch.proofs.slot.merge.Statement.{statement}
use Rattle.stretch.proofs.slot.merge.Tie as tie

returns : tie.Need-returns
returns c =
    let merge = c.merge-new in
    let load = c.load-old in
    let start = c.before.before.before.before.before.before.before in
    let f = start.args.s.feature in
    let n = start.args.s.dim in
    ap (summary_in start.args.s) c.store.ensures ∙ summary_back start.args.s start.requires.0 _
    (rw merge.ensures (merged_shaped f n _ _ (rw load.ensures (in_shaped start.args.s start.requires.0 _)) start.requires.2)) ∙ merge.ensures
    ∙ ap (λ x. merged f n x start.args.c) load.ensures

pub merge_spec : {M : Type 1} → statement M
merge_spec = tie.close (tie.spec (λ c κs. search rules) (λ c κs. search rules) (λ c κs. search rules) (λ c. search rules) returns)

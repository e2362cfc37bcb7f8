-- `stretch::slot::between` meets its contract: the sums over the parts are those over the two summaries that the slots hold.
use mathlib.Core.Path.{◌∙◌}
use borrow.Author.Rules.{rules}
use Rattle.stretch.specs.Slots.{between_parts}
use Rattle.stretch.proofs.slot.between.Statement.{statement}
use Rattle.stretch.proofs.slot.between.Tie as tie

returns : tie.Need-returns
returns c =
    let gap = c.gap-q in
    let ssd = c.ssd-u in
    let ssd2 = c.ssd-v in
    let start = c.before.before.before.before.before.before.before.before.before.before.before.before in
    c.to_summary.ensures ∙ between_parts start.args.s start.requires.0 start.args.p.now start.args.o.now start.requires.1
    start.requires.2 start.args.k _ _ _ gap.ensures ssd.ensures ssd2.ensures

pub between_spec : {M : Type 1} → statement M
between_spec =
    tie.close (tie.spec (λ c. search rules) (λ c. search rules) (λ c. search rules) (λ c. search rules) (λ c. search rules) (λ c. search rules)
    (λ c. search rules) (λ c κs. search rules) (λ c. search rules) (λ c. search rules) (λ c. search rules) (λ c. search rules) (λ c κs. search rules)
    (λ c. search rules) (λ c. search rules) (λ c. search rules) (λ c. search rules) (λ c κs. search rules) (λ c. search rules) (λ c. search rules)
    (λ c κs. search rules) returns)

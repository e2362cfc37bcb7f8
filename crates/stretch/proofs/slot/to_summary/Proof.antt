-- `stretch::slot::to_summary` meets its contract: the two sums over the parts are those over the summary that the slot holds.
use mathlib.Core.Path.{◌≡◌, ◌∙◌}
use native.Mathlib.Omega.{arith}
use borrow.Author.Rules.{rules}
use lib.ListN.{length}
use Rattle.stretch.specs.Slots.{summary_parts}
use Rattle.stretch.proofs.slot.to_summary.Statement.{statement}
use Rattle.stretch.proofs.slot.to_summary.Tie as tie

gap-requires : tie.Need-gap-q-requires
gap-requires c κs =
    let start = c.before.before.before.before.before in
    let l : length start.args.c.mean ≡ 8 = search rules in
    (search rules, search rules, omega arith)

ssd-requires-2 : tie.Need-ssd-v-requires
ssd-requires-2 c κs =
    let start = c.before.before.before.before.before.before.before.before.before in
    let l : length start.args.c.deviation ≡ 8 = search rules in
    (search rules, omega arith)

returns : tie.Need-returns
returns c =
    let gap = c.gap-q in
    let ssd = c.ssd-u in
    let start = c.before.before.before.before.before.before.before.before.before.before.before.before in
    c.to_summary.ensures ∙ rw c.ssd-v.ensures (summary_parts start.args.s start.requires.0 start.args.p.now
    start.requires.1 start.args.k start.args.c _ _ gap.ensures ssd.ensures)

pub to_summary_spec : {M : Type 1} → statement M
to_summary_spec =
    tie.close (tie.spec (λ c. search rules) (λ c. search rules) (λ c. search rules) (λ c. search rules) (λ c. search rules) gap-requires
    (λ c. search rules) (λ c. search rules) (λ c. search rules) (λ c. search rules) (λ c κs. search rules) (λ c. search rules) ssd-requires-2
    (λ c. search rules) (λ c κs. search rules) returns)

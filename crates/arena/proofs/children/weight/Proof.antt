-- `arena::children::weight` meets its contract: a child stands in its slot.
use mathlib.Core.Path.{sym, ap, ◌∙◌}
use Rattle.arena.specs.Trees.{child_small, child_slot_lem, child-at}
use Rattle.arena.specs.Numbered.{summary_at}
use Rattle.arena.proofs.children.weight.Statement.{statement}
use Rattle.arena.proofs.children.weight.Tie as tie

place-requires : tie.Need-place-at-requires
place-requires c κs =
    let start = c.before in
    (start.requires.0.sized, child_small start.args.s start.args.n _ start.args.leaf start.args.i start.requires.0 start.requires.1)

weight-requires : tie.Need-weight-requires
weight-requires c κs =
    let start = c.before.before in
    rw c.place-at.ensures (child_slot_lem start.args.s start.args.n _ start.args.leaf start.args.i start.requires.0 start.requires.1)

returns : tie.Need-returns
returns c =
    let start = c.before.before.before in
    let s = start.args.s in
    let fs = start.args.floats.now in
    λ ls. c.weight.ensures ∙ ap (λ x. x.weight) (ap (summary_at s fs) c.place-at.ensures ∙ sym
    (child-at s start.args.n fs ls start.args.leaf start.args.i start.requires.1))

pub weight_spec : {M : Type 1} → statement M
weight_spec = tie.close (tie.spec place-requires weight-requires returns)

-- `arena::nodes::weight` meets its contract: node i stands in slot i.
use mathlib.Core.Path.{sym, ap, ◌∙◌}
use Rattle.arena.specs.Trees.{node_slot, summary-at}
use Rattle.arena.proofs.nodes.weight.Statement.{statement}
use Rattle.arena.proofs.nodes.weight.Tie as tie

weight-requires : tie.Need-weight-requires
weight-requires c κs = let start = c.before in node_slot start.args.s start.args.n _ start.args.i start.requires.0 start.requires.1

returns : tie.Need-returns
returns c =
    let start = c.before.before in
    let s = start.args.s in
    λ ls. c.weight.ensures ∙ ap (λ x. x.weight) (sym
    (summary-at s start.args.n start.args.floats.now ls start.args.i start.requires.1))

pub weight_spec : {M : Type 1} → statement M
weight_spec = tie.close (tie.spec weight-requires returns)

-- `arena::nodes::to_row` meets its contract: node i stands in slot i.
use mathlib.Core.Path.{sym, ap, ◌∙◌}
use Rattle.distance.specs.Distances.{point_of}
use Rattle.arena.specs.Trees.{node_slot, summary-at}
use Rattle.arena.proofs.nodes.to_row.Statement.{statement}
use Rattle.arena.proofs.nodes.to_row.Tie as tie

to-row-requires : tie.Need-to_row-requires
to-row-requires c κs =
    let start = c.before.before in
    (node_slot start.args.s start.args.n _ start.args.i start.requires.0 start.requires.1, start.requires.2)

returns : tie.Need-returns
returns c =
    let start = c.before.before.before in
    let s = start.args.s in
    λ ls. c.to_row.ensures ∙ ap (λ x. point_of start.args.k s.feature s.dim x start.args.row.now)
    (sym (summary-at s start.args.n start.args.floats.now ls start.args.i start.requires.1))

pub to_row_spec : {M : Type 1} → statement M
to_row_spec = tie.close (tie.spec to-row-requires returns)

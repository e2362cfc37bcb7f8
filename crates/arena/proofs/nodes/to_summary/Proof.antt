-- `arena::nodes::to_summary` meets its contract: node i stands in slot i.
use mathlib.Core.Path.{sym, ap, ◌∙◌}
use Rattle.distance.specs.Distances.{between_of}
use Rattle.arena.specs.Trees.{node_slot, summary-at}
use Rattle.arena.proofs.nodes.to_summary.Statement.{statement}
use Rattle.arena.proofs.nodes.to_summary.Tie as tie

to-summary-requires : tie.Need-to_summary-requires
to-summary-requires c κs = let start = c.before in node_slot start.args.s start.args.n _ start.args.i start.requires.0 start.requires.1

returns : tie.Need-returns
returns c =
    let start = c.before.before in
    let s = start.args.s in
    λ ls. c.to_summary.ensures ∙ ap (λ x. between_of start.args.k s.feature s.dim x start.args.c)
    (sym (summary-at s start.args.n start.args.floats.now ls start.args.i start.requires.1))

pub to_summary_spec : {M : Type 1} → statement M
to_summary_spec = tie.close (tie.spec to-summary-requires returns)

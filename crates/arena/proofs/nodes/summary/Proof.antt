-- `arena::nodes::summary` meets its contract: node i stands in slot i.
use mathlib.Core.Path.{sym, ◌∙◌}
use Rattle.arena.specs.Trees.{node_slot, summary-at}
use Rattle.arena.proofs.nodes.summary.Statement.{statement}
use Rattle.arena.proofs.nodes.summary.Tie as tie

load-requires : tie.Need-load-requires
load-requires c κs = let start = c.before in node_slot start.args.s start.args.n _ start.args.i start.requires.0 start.requires.1

returns : tie.Need-returns
returns c =
    let start = c.before.before in
    let s = start.args.s in
    λ ls. c.load.ensures ∙ sym (summary-at s start.args.n start.args.floats.now ls start.args.i start.requires.1)

pub summary_spec : {M : Type 1} → statement M
summary_spec = tie.close (tie.spec load-requires returns)

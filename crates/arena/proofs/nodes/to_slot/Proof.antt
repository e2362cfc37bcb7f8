-- `arena::nodes::to_slot` meets its contract: node i stands in slot i.
use mathlib.Core.Path.{sym, ap, ◌∙◌}
use Rattle.distance.specs.Distances.{between_of}
use Rattle.rules.specs.Slices.{summary_in}
use Rattle.arena.specs.Trees.{node_slot, summary-at}
use Rattle.arena.proofs.nodes.to_slot.Statement.{statement}
use Rattle.arena.proofs.nodes.to_slot.Tie as tie

to-slot-requires : tie.Need-to_slot-requires
to-slot-requires c κs =
    let start = c.before.before in (node_slot start.args.s start.args.n _ start.args.i start.requires.0 start.requires.1, start.requires.2)

returns : tie.Need-returns
returns c =
    let start = c.before.before.before in
    let s = start.args.s in
    λ ls. c.to_slot.ensures ∙ ap (λ x. between_of start.args.k s.feature s.dim x (summary_in s start.args.o.now))
    (sym (summary-at s start.args.n start.args.floats.now ls start.args.i start.requires.1))

pub to_slot_spec : {M : Type 1} → statement M
to_slot_spec = tie.close (tie.spec to-slot-requires returns)

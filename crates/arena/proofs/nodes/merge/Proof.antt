-- `arena::nodes::merge` meets its contract: a change of slot i is one of node i.
use borrow.Author.Rules.{rules}
use Rattle.feature.specs.Steps.{merged}
use Rattle.arena.specs.Trees.{node_slot}
use Rattle.arena.specs.Writes.{node_changed}
use Rattle.arena.proofs.nodes.merge.Statement.{statement}
use Rattle.arena.proofs.nodes.merge.Tie as tie

merge-requires : tie.Need-merge-requires
merge-requires c κs =
    let start = c.before.before in
    (node_slot start.args.s start.args.n _ start.args.i start.requires.0 start.requires.1, start.requires.2)

returns : tie.Need-returns
returns c =
    let start = c.before.before.before.before.before in
    let s = start.args.s in
    λ ls. node_changed s start.args.n start.args.floats.now c.merge.new.floats ls _ start.requires.0
    (λ x. merged s.feature s.dim x start.args.c) start.args.i start.requires.1 c.merge.ensures

pub merge_spec : {M : Type 1} → statement M
merge_spec = tie.close (tie.spec merge-requires (λ c. search rules) returns)

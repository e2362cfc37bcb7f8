-- `arena::nodes::push` meets its contract: a change of slot i is one of node i.
use borrow.Author.Rules.{rules}
use Rattle.feature.specs.Steps.{pushed}
use Rattle.arena.specs.Trees.{node_slot}
use Rattle.arena.specs.Writes.{node_changed}
use Rattle.arena.proofs.nodes.push.Statement.{statement}
use Rattle.arena.proofs.nodes.push.Tie as tie

push-requires : tie.Need-push-requires
push-requires c κs =
    let start = c.before.before.before in
    (node_slot start.args.s start.args.n _ start.args.i start.requires.0 start.requires.1, start.requires.2)

returns : tie.Need-returns
returns c =
    let start = c.before.before.before.before.before.before in
    let s = start.args.s in
    λ ls. node_changed s start.args.n start.args.floats.now c.push.new.floats ls _ start.requires.0
    (λ x. pushed s.feature s.dim x start.args.row.now) start.args.i start.requires.1 c.push.ensures

pub push_spec : {M : Type 1} → statement M
push_spec = tie.close (tie.spec push-requires (λ c. search rules) returns)

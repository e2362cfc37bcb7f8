-- `arena::nodes::put` meets its contract: a change of slot i is one of node i.
use borrow.Author.Rules.{rules}
use Rattle.arena.specs.Trees.{node_slot}
use Rattle.arena.specs.Writes.{node_changed}
use Rattle.arena.proofs.nodes.put.Statement.{statement}
use Rattle.arena.proofs.nodes.put.Tie as tie

store-requires : tie.Need-store-requires
store-requires c κs =
    let start = c.before.before in
    (node_slot start.args.s start.args.n _ start.args.i start.requires.0 start.requires.1, start.requires.2)

returns : tie.Need-returns
returns c =
    let start = c.before.before.before.before.before in
    let s = start.args.s in
    λ ls. node_changed s start.args.n start.args.floats.now c.store.new.floats ls _ start.requires.0 (λ _. start.args.c)
    start.args.i start.requires.1 c.store.ensures

pub put_spec : {M : Type 1} → statement M
put_spec = tie.close (tie.spec store-requires (λ c. search rules) returns)

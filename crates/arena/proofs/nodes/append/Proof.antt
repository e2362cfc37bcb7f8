-- `arena::nodes::append` meets its contract: slot and block of the next number are written, and the count goes up.
use mathlib.Core.Path.{ap, ◌∙◌}
use native.Mathlib.Omega.{arith}
use borrow.Author.Rules.{rules}
use Rattle.rules.specs.Slices.{tree_of}
use Rattle.arena.specs.Trees.{caps_small, block_in, slot_in}
use Rattle.arena.specs.Writes.{node_more}
use Rattle.stretch.specs.Blocks.{node_of}
use Rattle.arena.proofs.nodes.append.Statement.{statement}
use Rattle.arena.proofs.nodes.append.Tie as tie

store-requires : tie.Need-store-requires
store-requires c κs =
    let start = c.before.before.before.before in
    let room = start.requires.0.2 in
    (slot_in start.args.s start.args.n _ start.args.n.nodes start.requires.0.0 (omega arith), start.requires.0.3)

link-requires : tie.Need-link-requires
link-requires c κs =
    let start = c.before.before.before.before.before.before.before.before in (
      block_in start.args.s start.args.n _ start.args.n.nodes start.requires.0.1 start.requires.0.2,
      start.requires.1.0,
      start.requires.1.1,
    )

add-with-nodes : tie.Need-overflow_add-i
add-with-nodes c =
    let start = c.before.before.before.before.before.before.before.before.before.before.before in
    let k = caps_small start.args.s start.args.n _ start.requires.0.0 in
    omega (arith, start.requires.0.2)

returns : tie.Need-returns
unfolding node_of
returns c =
    let store = c.store in
    let link = c.link in
    let start = c.before.before.before.before.before.before.before.before.before.before.before.before in
    let a = start.args in
    let fs' = store.new.floats in
    let ls' = link.new.links in
    let new = node_of a.c a.parent a.leaf a.list.now in (
      c.with_nodes.ensures,
      ap (λ m. tree_of a.s m fs' ls') c.with_nodes.ensures ∙ node_more a.s a.n a.floats.now fs' a.links.now
          ls' new start.requires.0.2 store.ensures link.ensures,
    )

pub append_spec : {M : Type 1} → statement M
append_spec = tie.close (tie.spec store-requires link-requires add-with-nodes (λ c κs. search rules) (λ c. search rules) (λ c. search rules) returns)

-- `arena::children::place` meets its contract: case by case.
use native.Mathlib.Omega.{arith}
use borrow.Author.Rules.{rules}
use Rattle.head.specs.Sizes.{nodes_small}
use Rattle.arena.specs.Trees.{child_slot}
use Rattle.arena.proofs.children.place.Statement.{statement}
use Rattle.arena.proofs.children.place.Tie as tie

add-result : tie.Need-overflow_add-result
add-result c = omega (arith, nodes_small c.args.s c.requires.0, c.node_cap.ensures)

returns : tie.Need-returns-then-leaf
unfolding child_slot
returns c = rw (c.if-leaf.true, c.node_cap.ensures)

returns-2 : tie.Need-returns-else-leaf
unfolding child_slot
returns-2 c = rw c.if-leaf.false

pub place_spec : {M : Type 1} → statement M
place_spec = tie.close (tie.spec (λ c κs. search rules) add-result returns returns-2)

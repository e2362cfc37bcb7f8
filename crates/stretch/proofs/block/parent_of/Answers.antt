-- The reserved number is none, and any other a node's.
use Rattle.rules.specs.Slices.{node_in}
use Rattle.stretch.specs.Blocks.{parent_none, parent_some}
use Rattle.stretch.proofs.block.parent_of.Goals as goal

pub returns-then-word : goal.returns-then-word
unfolding node_in
returns-then-word c = λ p. parent_none _ c.if-word.true

pub returns-else-word : goal.returns-else-word
unfolding node_in
returns-else-word c = λ p. parent_some _ c.if-word.false

-- `stretch::block::is_leaf` meets its contract: the kind is the word's last bit.
use mathlib.Core.Path.{refl}
use borrow.Author.Rules.{rules}
use Rattle.rules.specs.Slices.{node_in, leaf_in}
use Rattle.stretch.proofs.block.is_leaf.Statement.{statement}
use Rattle.stretch.proofs.block.is_leaf.Tie as tie

returns : tie.Need-returns
unfolding node_in leaf_in
returns c = λ p. refl

pub is_leaf_spec : {M : Type 1} → statement M
is_leaf_spec = tie.close (tie.spec (λ c. search rules) returns)

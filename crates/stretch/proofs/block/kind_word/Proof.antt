-- `stretch::block::kind_word` meets its contract: case by case.
use borrow.Author.Rules.{rules}
use Rattle.rules.specs.Slices.{kind_out}
use Rattle.stretch.proofs.block.kind_word.Statement.{statement}
use Rattle.stretch.proofs.block.kind_word.Tie as tie

returns : tie.Need-returns-then-leaf
unfolding kind_out
returns c = rw c.if-leaf.true

returns-2 : tie.Need-returns-else-leaf
unfolding kind_out
returns-2 c = rw c.if-leaf.false

pub kind_word_spec : {M : Type 1} → statement M
kind_word_spec = tie.close (tie.spec (λ c. search rules) (λ c. search rules) (λ c. search rules) returns returns-2)

-- `stretch::block::set_parent` meets its contract: the parent reads back, and all else stays.
use borrow.Author.Rules.{rules}
use Rattle.stretch.specs.Blocks.{under-is}
use Rattle.stretch.proofs.block.set_parent.Statement.{statement}
use Rattle.stretch.proofs.block.set_parent.Tie as tie

returns : tie.Need-returns
returns c = λ p. under-is c.args.s p c.args.i c.args.b.now c.requires.0 c.requires.1

pub set_parent_spec : {M : Type 1} → statement M
set_parent_spec = tie.close (tie.spec (λ c. search rules) (λ c. search rules) (λ c. search rules) returns)

-- `stretch::block::list_len` meets its contract: the word's length where the block has places for it, and else all of them.
use native.Mathlib.Omega.{arith}
use borrow.Author.Rules.{rules}
use Rattle.stretch.specs.Blocks.{length_said, length-all}
use Rattle.stretch.proofs.block.list_len.Statement.{statement}
use Rattle.stretch.proofs.block.list_len.Tie as tie

cast-len : tie.Need-overflow_cast-len
cast-len c = omega (arith, c.shared_slice_known-1.given 1)

returns : tie.Need-returns-then-len-places
returns c = λ p. length_said c.args.s c.args.b.now c.requires p c.if-len-places.true

returns-2 : tie.Need-returns-else-len-places
returns-2 c = λ p. length-all c.args.s c.args.b.now c.requires p c.if-len-places.false

pub list_len_spec : {M : Type 1} → statement M
list_len_spec = tie.close (tie.spec (λ c. search rules) cast-len (λ c. search rules) returns returns-2)

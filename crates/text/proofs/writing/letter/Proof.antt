-- `text::writing::letter` meets its contract: a figure below 10, a letter from there on.
use mathlib.Core.Path.{sym}
use native.Mathlib.Omega.{arith}
use borrow.Author.Rules.{rules}
use Rattle.text.specs.Written.{letter_low, letter_high}
use Rattle.text.proofs.writing.letter.Statement.{statement}
use Rattle.text.proofs.writing.letter.Tie as tie

returns : tie.Need-returns-then-d-lt10
returns c = sym (letter_low c.args.d (omega arith))

returns-2 : tie.Need-returns
returns-2 c = sym (letter_high c.args.d (omega arith))

pub letter_spec : {M : Type 1} → statement M
letter_spec = tie.close (tie.spec (λ c. search rules) (λ c. search rules) returns (λ c. search rules) (λ c. search rules) returns-2)

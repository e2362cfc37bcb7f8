-- `reports::fields::newline` meets its contract: one byte.
use native.Mathlib.Omega.{arith}
use borrow.Author.Rules.{rules}
use Rattle.reports.specs.Lines.{wrote_byte}
use Rattle.reports.proofs.fields.newline.Statement.{statement}
use Rattle.reports.proofs.fields.newline.Tie as tie

returns : tie.Need-returns
returns c = wrote_byte c.args.at c.args.out.now 10 (omega arith)

pub newline_spec : {M : Type 1} → statement M
newline_spec = tie.close (tie.spec (λ c. search rules) (λ c. search rules) (λ c. search rules) returns)

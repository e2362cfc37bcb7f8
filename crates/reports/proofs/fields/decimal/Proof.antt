-- `reports::fields::decimal` meets its contract: a tab, and the digits behind it.
use mathlib.Core.Path.{◌∙◌}
use native.Mathlib.Omega.{arith}
use borrow.Author.Rules.{rules}
use lib.ListN.{length-set}
use Rattle.reports.specs.Lines.{wrote_both, wrote_is, wrote_byte, wrote_decimal, tabbed-one, decimal_short}
use Rattle.rules.specs.Listing.{decimal_of}
use Rattle.reports.proofs.fields.decimal.Statement.{statement}
use Rattle.reports.proofs.fields.decimal.Tie as tie

write-decimal-requires : tie.Need-write_decimal-requires
write-decimal-requires c κs = simp length-set (let e = decimal_short c.args.n in omega arith)

same_length : tie.Need-shape_of-out
same_length c =
    let start = c in
    c.write_decimal.auto.out ∙ length-set start.args.out.now _ _

returns : tie.Need-returns
returns c =
    let start = c in
    wrote_is (tabbed-one (decimal_of start.args.n)) (wrote_both (wrote_byte start.args.at start.args.out.now 9 (omega arith))
    (wrote_decimal start.args.n (simp length-set (omega arith)) c.write_decimal.ensures))

pub decimal_spec : {M : Type 1} → statement M
decimal_spec = tie.close (tie.spec (λ c. search rules) (λ c. search rules) write-decimal-requires same_length returns)

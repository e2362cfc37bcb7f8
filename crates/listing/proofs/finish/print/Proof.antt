-- `listing::finish::print` meets its contract: stage by stage.
use native.Mathlib.Omega.{arith}
use borrow.Author.Rules.{rules}
use Rattle.reports.specs.Lines.{wrote_is}
use Rattle.lines.specs.Rows.{grown-total}
use Rattle.listing.specs.Finished.{reportable, rows_stand, rows_end, first_end, bad_end}
use Rattle.listing.proofs.finish.print.Statement.{statement}
use Rattle.listing.proofs.finish.print.Tie as tie

sub-write-report : tie.Need-overflow_sub-run
sub-write-report c =
    let a = c.args in
    omega (arith, grown-total (rows_stand a.run a.floats.now a.links.now c.in-Rows.is c.requires.2))

write-report-requires : tie.Need-write_report-requires
write-report-requires c κs =
    let a = c.args in (
      reportable (rows_stand a.run a.floats.now a.links.now c.in-Rows.is c.requires.2) c.requires.0,
      c.requires.1,
    )

returns : tie.Need-returns-in-First
returns c =
    let a = c.args in wrote_is (first_end a.run a.floats.now a.links.now c.in-First.is c.requires.2)
    c.write_bad.ensures

returns-2 : tie.Need-returns-in-Rows
returns-2 c =
    let a = c.args in wrote_is (rows_end a.run a.floats.now a.links.now c.in-Rows.is)
    c.write_report.ensures

returns-3 : tie.Need-returns-in-Bad
returns-3 c =
    let a = c.args in wrote_is (bad_end a.run a.floats.now a.links.now c.in-Bad.is)
    c.write_bad-in-Bad.ensures

pub print_spec : {M : Type 1} → statement M
print_spec =
    tie.close (tie.spec (λ c. search rules) (λ c κs. search rules) (λ c. search rules) sub-write-report write-report-requires (λ c. search rules)
    (λ c κs. search rules) (λ c. search rules) returns (λ c. search rules) returns-2 (λ c. search rules) returns-3)

-- `reports::entries::write_entry` meets its contract: field behind field, in the room of 314 bytes.
use mathlib.Core.Path.{ap}
use native.Mathlib.Omega.{arith}
use borrow.Author.Rules.{rules}
use Rattle.reports.specs.Lines.{wrote_decimal, wrote_long, wrote_both, wrote_is, tabbed, decimal_short, tabbed-decimal}
use mathlib.Core.List.{[], ◌∷◌}
use Rattle.rules.specs.Listing.{decimal_of}
use Rattle.reports.specs.Entries.{summary_short, entry_is}
use Rattle.reports.proofs.entries.write_entry.Statement.{statement}
use Rattle.reports.proofs.entries.write_entry.Tie as tie

rows-of-requires : tie.Need-rows_of-rows-requires
rows-of-requires c κs = c.requires.0.counts

write-decimal-requires : tie.Need-write_decimal-a-requires
write-decimal-requires c κs = omega (arith, decimal_short c.args.i)

decimal-requires : tie.Need-decimal-b-requires
decimal-requires c κs =
    let start = c in
    omega (arith, c.write_decimal-a.ensures.1, c.write_decimal-a.auto.out, decimal_short c.args.i)

write-summary-requires : tie.Need-write_summary-c-requires
write-summary-requires c κs =
    let e = c.decimal-b.ensures in (
      c.requires.0,
      omega (
        arith,
        c.write_decimal-a.ensures.1,
        c.write_decimal-a.auto.out,
        decimal_short c.args.i,
        e.end,
        wrote_long e,
        tabbed-decimal c.rows_of-rows.result,
      ),
    )

newline-requires : tie.Need-newline-requires
newline-requires c κs =
    let e = c.decimal-b.ensures in
    let f = c.write_summary-c.ensures in
    omega (
      arith,
      c.write_decimal-a.ensures.1,
      c.write_decimal-a.auto.out,
      decimal_short c.args.i,
      e.end,
      wrote_long e,
      tabbed-decimal c.rows_of-rows.result,
      f.end,
      wrote_long f,
      summary_short _ _ c.requires.0,
    )

returns : tie.Need-returns
returns c =
    let a = c.args in
    let first = wrote_decimal a.i (omega arith) c.write_decimal-a.ensures in
    let rows = wrote_is (ap (λ n. tabbed (decimal_of n ∷ [])) c.rows_of-rows.ensures) c.decimal-b.ensures in
    wrote_is (entry_is _ _ c.requires.0 a.i) (wrote_both (wrote_both (wrote_both first rows) c.write_summary-c.ensures)
    c.newline.ensures)

pub write_entry_spec : {M : Type 1} → statement M
write_entry_spec =
    tie.close (tie.spec rows-of-requires write-decimal-requires decimal-requires write-summary-requires newline-requires (λ c. search rules) returns)

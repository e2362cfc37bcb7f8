-- `reports::write_counts` meets its contract: field behind field, in the room of 80 bytes.
use native.Mathlib.Omega.{arith}
use borrow.Author.Rules.{rules}
use Rattle.reports.specs.Lines.{wrote_decimal, wrote_long, wrote_both, wrote_is, decimal_short, tabbed_decimals, tabbed_hex, counts_are}
use Rattle.reports.proofs.write_counts.Statement.{statement}
use Rattle.reports.proofs.write_counts.Tie as tie

write-decimal-requires : tie.Need-write_decimal-a-requires
write-decimal-requires c κs = omega (arith, decimal_short c.args.entries)

hex-requires : tie.Need-hex-b-requires
hex-requires c κs =
    let start = c in
    omega (
      arith,
      c.write_decimal-a.ensures.1,
      c.write_decimal-a.auto.out,
      decimal_short start.args.entries,
    )

decimals-requires : tie.Need-decimals-c-requires
decimals-requires c κs =
    let write-decimal = c.before.before.before.before.before.before.before in
    let start = write-decimal.before.before.before in
    omega (
      arith,
      write-decimal.write_decimal-a.ensures.1,
      write-decimal.write_decimal-a.auto.out,
      decimal_short start.args.entries,
      c.hex-b.ensures.end,
      wrote_long c.hex-b.ensures,
      tabbed_hex start.args.threshold,
    )

newline-requires : tie.Need-newline-requires
newline-requires c κs =
    let hex = c.before.before.before.before.before.before.before in
    let write-decimal = hex.before.before.before.before in
    let start = write-decimal.before.before.before in
    omega (
      arith,
      write-decimal.write_decimal-a.ensures.1,
      write-decimal.write_decimal-a.auto.out,
      decimal_short start.args.entries,
      hex.hex-b.ensures.end,
      wrote_long hex.hex-b.ensures,
      tabbed_hex start.args.threshold,
      c.decimals-c.ensures.end,
      wrote_long c.decimals-c.ensures,
      tabbed_decimals start.args.rebuilds start.args.total,
    )

returns : tie.Need-returns
returns c =
    let decimals = c.before.before.before.before.before.before in
    let hex = decimals.before.before.before.before in
    let write-decimal = hex.before.before.before.before in
    let start = write-decimal.before.before.before in
    let a = start.args in
    let first = wrote_decimal a.entries (omega arith) write-decimal.write_decimal-a.ensures in
    wrote_is (counts_are a.entries a.threshold a.rebuilds a.total)
    (wrote_both (wrote_both (wrote_both first hex.hex-b.ensures) decimals.decimals-c.ensures) c.newline.ensures)

pub write_counts_spec : {M : Type 1} → statement M
write_counts_spec = tie.close (tie.spec write-decimal-requires hex-requires decimals-requires newline-requires (λ c. search rules) returns)

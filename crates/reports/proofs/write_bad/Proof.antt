-- `reports::write_bad` meets its contract: three bytes, the number, a newline.
use mathlib.Core.Path.{◌∙◌}
use native.Mathlib.Omega.{arith}
use borrow.Author.Rules.{rules}
use lib.ListN.{length-set}
use Rattle.reports.specs.Lines.{wrote_long, wrote_both, wrote_is, wrote_bad, tabbed-decimal, bad_is}
use Rattle.reports.proofs.write_bad.Statement.{statement}
use Rattle.reports.proofs.write_bad.Tie as tie

slice-write-out-2 : tie.Need-bounds-out-1
slice-write-out-2 c = simp length-set (omega arith)

slice-write-out-3 : tie.Need-bounds-out-2
slice-write-out-3 c = simp length-set (omega arith)

decimal-requires : tie.Need-decimal-end-requires
decimal-requires c κs = simp length-set (omega arith)

newline-requires : tie.Need-newline-requires
newline-requires c κs =
    let start = c in
    let three = wrote_bad start.args.out.now (omega arith) in
    let e = c.decimal-end.ensures in
    omega (arith, wrote_long three, wrote_long e, e.end, tabbed-decimal start.args.n)

same_length : tie.Need-shape_of-out
same_length c =
    let decimal = c.before.before.before.before.before.before in
    let start = decimal in
    wrote_long c.newline.ensures ∙ wrote_long decimal.decimal-end.ensures ∙ wrote_long (wrote_bad start.args.out.now (omega arith))

returns : tie.Need-returns
returns c =
    let decimal = c.before.before.before.before.before.before in
    let start = decimal in
    wrote_is (bad_is start.args.n) (wrote_both (wrote_both (wrote_bad start.args.out.now (omega arith)) decimal.decimal-end.ensures)
    c.newline.ensures)

pub write_bad_spec : {M : Type 1} → statement M
write_bad_spec = tie.close (tie.spec (λ c. search rules) slice-write-out-2 slice-write-out-3 decimal-requires newline-requires same_length returns)

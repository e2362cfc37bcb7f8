-- `text::row::row_line` meets its contract: the line's length, its fields, and their floats.
use mathlib.Core.Path.{◌∙◌}
use native.Mathlib.Omega.{arith}
use borrow.Author.Rules.{rules}
use Rattle.text.specs.Rows.{none_read, floats_long, other_read, short_read}
use Rattle.text.proofs.row.row_line.Statement.{statement}
use Rattle.text.proofs.row.row_line.Tie as tie

returns : tie.Need-returns-then-line-gt200
returns c = none_read _ _ _ _ (floats_long c.args.line.now (omega arith))

returns-2 : tie.Need-returns-then-field_count-dim
returns-2 c =
    let line = c.args.line.now in
    other_read line _ _ _ (omega arith) (λ e. c.if-field_count-dim.true (c.field_count.ensures ∙ e))

returns-3 : tie.Need-returns
returns-3 c =
    let line = c.args.line.now in
    short_read line _ _ _ _ (omega arith) c.floats.ensures

pub row_line_spec : {M : Type 1} → statement M
row_line_spec =
    tie.close (tie.spec returns (λ c κs. search rules) returns-2 (λ c κs. search rules) (λ c. search rules) returns-3)

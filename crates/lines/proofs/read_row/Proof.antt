-- `lines::read_row` meets its contract: the line's floats are the row that is inserted, or the line is bad.
use mathlib.Core.Path.{◌∙◌}
use native.Mathlib.Omega.{arith}
use borrow.Author.Rules.{rules}
use lib.Seq.{length-take-le}
use native.Mathlib.Nat.{sub-zero}
use Rattle.head.specs.Heads.{settings_of}
use Rattle.laws.specs.Resting.Serving.{sizes_of}
use Rattle.lines.specs.Runs.{Stands}
use Rattle.lines.specs.Rows.{row_says, malformed_read}
use Rattle.lines.proofs.read_row.Statement.{statement}
use Rattle.lines.proofs.read_row.Tie as tie

row-line-requires : tie.Need-row_line-requires
unfolding Stands settings_of
row-line-requires c κs =
    let few = (sizes_of c.requires.1.serving).dim_few in omega arith

returns : tie.Need-returns-in_default
returns c =
    let a = c.args in
    malformed_read a.run a.bytes.now a.floats.now a.links.now _ _ c.row_line.ensures c.in_default.is
    _ c.bad.ensures

part-insert-end : tie.Need-slice_bounds-insert-end
unfolding Stands settings_of
part-insert-end c =
    let few = (sizes_of c.requires.1.serving).dim_few in omega (arith, c.row_line.auto.row)

insert-requires : tie.Need-insert-requires
unfolding Stands settings_of
insert-requires c κs =
    let few = (sizes_of c.requires.1.serving).dim_few in
    (c.requires.0, (c.requires.1, length-take-le _ _ (omega (arith, few, c.row_line.auto.row)) ∙ sub-zero _))

returns-2 : tie.Need-returns
returns-2 c =
    let a = c.args in
    c.insert.ensures.reads a.bytes.now
    (row_says a.run a.bytes.now a.floats.now a.links.now _ _ c.row_line.ensures c.in-Row.is)

pub read_row_spec : {M : Type 1} → statement M
read_row_spec =
    tie.close (tie.spec (λ c. search rules) row-line-requires (λ c. search rules) (λ c. search rules) (λ c κs. search rules) (λ c κs. search rules) returns
    (λ c. search rules) (λ c. search rules) part-insert-end insert-requires (λ c. search rules) (λ c. search rules) (λ c. search rules)
    (λ c. search rules) returns-2)

-- `lines::byte` meets its contract: a newline ends the line, and any other byte is one more of it.
use borrow.Author.Rules.{rules}
use Rattle.lines.specs.Runs.{line_reading}
use Rattle.lines.specs.Lines.{newline_read}
use Rattle.lines.proofs.byte.Statement.{statement}
use Rattle.lines.proofs.byte.Tie as tie

returns : tie.Need-returns-then-b-eq10
returns c =
    let a = c.args in
    let w = c.end_line.ensures in
    (line_reading w, newline_read a.run a.line.now a.floats.now a.links.now _ _ _ w a.line.now a.b c.if-b-eq10.true)

returns-2 : tie.Need-returns
returns-2 c =
    let a = c.args in
    let w = c.push.ensures in
    (w.reading a.floats.now a.links.now c.requires.1, w.reads a.floats.now a.links.now c.requires.1 c.if-b-eq10.false)

pub byte_spec : {M : Type 1} → statement M
byte_spec =
    tie.close (tie.spec (λ c κs. search rules) (λ c. search rules) (λ c. search rules) (λ c. search rules) (λ c. search rules) (λ c. search rules) returns
    (λ c κs. search rules) (λ c. search rules) returns-2)

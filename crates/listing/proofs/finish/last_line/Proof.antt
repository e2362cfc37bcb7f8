-- `listing::finish::last_line` meets its contract: an empty piece is no line, and any other is one.
use native.Mathlib.Omega.{arith}
use borrow.Author.Rules.{rules}
use Rattle.lines.specs.Lines.{end_read, no_end}
use Rattle.listing.proofs.finish.last_line.Statement.{statement}
use Rattle.listing.proofs.finish.last_line.Tie as tie

returns : tie.Need-returns-then-run-eq0
returns c =
    let start = c in
    let a = start.args in (start.requires.1.stands, no_end a.run a.line.now a.floats.now a.links.now c.if-run-eq0.true)

returns-2 : tie.Need-returns
returns-2 c =
    let end_line = c.before.before.before.before.before.before.before.before in
    let else1 = end_line.before.before.before.before.before in
    let start = else1 in
    let a = start.args in
    let w = end_line.end_line.ensures in
    let short = start.requires.1.short in
    let room = start.requires.0.line_room in
    let some = else1.if-run-eq0.false in
    (w.stands, end_read a.run a.line.now a.floats.now a.links.now _ _ _ (omega arith) (omega arith) w)

pub last_line_spec : {M : Type 1} → statement M
last_line_spec = tie.close (tie.spec returns (λ c κs. search rules) (λ c. search rules) (λ c. search rules) (λ c. search rules) (λ c. search rules) returns-2)

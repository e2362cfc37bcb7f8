-- `lines::piece` meets its contract: the bytes that are copied, and the one behind them.
use Prim.Native.Nat.{◌-◌, ◌<◌}
use native.Mathlib.Omega.{arith}
use borrow.Author.Rules.{rules}
use lib.ListN.{length}
use Rattle.lines.specs.Runs.{reads_more}
use Rattle.lines.proofs.piece.Statement.{statement}
use Rattle.lines.proofs.piece.Tie as tie

copy-requires : tie.Need-copy-next-requires
copy-requires c κs =
    let start = c in
    (start.requires.0.line_room, start.requires.1.0.short)

sub-n : tie.Need-overflow_sub-n
sub-n c =
    let copy = c in
    omega (arith, copy.copy-next.ensures.0.0)

returns : tie.Need-returns-then-n-bytes
returns c =
    let copy = c.before.before.before.before.before in
    let start = copy in
    let a = start.args in
    let w = copy.copy-next.ensures in
    let all = c.if-n-bytes.true in
    let some = start.requires.1.1 in (
      (omega arith, omega arith, w.1.reading a.floats.now a.links.now start.requires.1.0),
      w.1.reads a.floats.now a.links.now start.requires.1.0,
    )

shared-slice-read-byte : tie.Need-bounds-bytes-n
shared-slice-read-byte c =
    let copy = c in
    omega (arith, copy.copy-next.ensures.0.0, copy.copy-next.ensures.0.1, c.if-n-bytes.false)

byte-requires : tie.Need-byte-end-requires
byte-requires c κs =
    let copy = c.before.before.before.before.before.before.before.before.before.before.before in
    let start = copy in
    let a = start.args in
    let new = copy.copy-next in
    (rw new.auto.line start.requires.0, new.ensures.1.reading a.floats.now a.links.now start.requires.1.0)

add-t13 : tie.Need-overflow_add-result
add-t13 c =
    let else1 = c.before.before.before.before.before.before.before.before.before.before.before.before.before.before.before.before.before in
    let copy = else1.before.before.before.before.before in
    let start = copy in
    let good = start.well_formed in omega (arith, copy.copy-next.ensures.0.0, copy.copy-next.ensures.0.1, else1.if-n-bytes.false)

returns-2 : tie.Need-returns
returns-2 c =
    let byte = c.before.before.before.before.before.before.before.before.before.before in
    let else1 = byte.before.before.before.before.before.before.before in
    let copy = else1.before.before.before.before.before in
    let start = copy in
    let a = start.args in
    let w = copy.copy-next.ensures in
    let n = copy.copy-next.result.long - a.run.long in
    let more : n < length a.bytes.now = omega (arith, w.0.0, w.0.1, else1.if-n-bytes.false) in (
      (omega arith, omega (arith, more), byte.byte-end.ensures.0),
      reads_more a.bytes.now n more (w.1.reads a.floats.now a.links.now start.requires.1.0) byte.byte-end.ensures.1,
    )

pub piece_spec : {M : Type 1} → statement M
piece_spec =
    tie.close (tie.spec copy-requires sub-n (λ c. search rules) returns shared-slice-read-byte byte-requires add-t13 (λ c. search rules)
    (λ c. search rules) (λ c. search rules) (λ c. search rules) (λ c. search rules) returns-2)

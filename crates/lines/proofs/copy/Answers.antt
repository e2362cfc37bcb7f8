-- A byte more that is no newline, where there is room.
use Rattle.std.proofs.Common.{◌≡◌, ◌-◌, arith, take, subst}
use Rattle.lines.specs.Lines.{Copied, long_to, copied_none, copied_more}
use Rattle.lines.proofs.copy.Goals as goal

pub loop-b-init : goal.loop-b-init
loop-b-init c = record { place = omega arith; short = omega arith; copied = copied_none c.args.run c.args.line.now }

pub loop-b-preserved : goal.loop-b-preserved
loop-b-preserved c =
    let a = c.args in
    let loop = c.loop-b in
    let room = loop.auto.line in
    record {
      place = omega arith;
      short = omega arith;
      copied = copied_more a.run a.line.now loop.line a.bytes.now loop.b-index loop.long (omega arith) loop.invariant.copied (omega arith)
          c.if-b-eq10.false (omega arith);
    }

pub returns-clause-copied : goal.returns-clause-copied
unfolding long_to
returns-clause-copied c =
    let a = c.args in
    let loop = c.loop-b in
    let n : loop.b-index ≡ loop.long - a.run.long = omega arith in
    subst (λ n. Copied a.run a.line.now (take n a.bytes.now) (long_to a.run loop.long) loop.line) n loop.invariant.copied

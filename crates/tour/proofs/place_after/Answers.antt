use Rattle.std.proofs.Common.{◌≡◌, ◌∙◌, length, arith}
use Rattle.tour.specs.Loops.{place_found, place_turn, place_end}
use Rattle.tour.proofs.place_after.Goals as goal

pub returns-then-i-c : goal.returns-then-i-c
returns-then-i-c c = place_found c.args.list.now c.args.c c.loop-k.k c.loop-k-test.true c.loop-k.invariant c.if-i-c.true

pub loop-k-preserved : goal.loop-k-preserved
loop-k-preserved c = place_turn c.args.list.now c.args.c c.loop-k.k c.loop-k-test.true c.loop-k.invariant c.if-i-c.false

pub returns : goal.returns
returns c =
    let all : length c.args.list.now ≡ c.loop-k.k = omega arith in
    all ∙ place_end c.args.list.now c.args.c c.loop-k.k c.loop-k-test.false c.loop-k.invariant

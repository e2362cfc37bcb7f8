-- Each entry is numbered in its turn.
use Rattle.std.proofs.Common.{arith}
use Rattle.merging.specs.Numbering.{numbering_start, numbering_few, numbering_turn, numbering_end}
use Rattle.merging.proofs.dropping.number.Goals as goal

pub loop-i-init : goal.loop-i-init
loop-i-init c = numbering_start _ _

pub number_one-kept-requires : goal.number_one-kept-requires
number_one-kept-requires c = let few = numbering_few _ _ _ _ _ c.loop-i.invariant in (omega arith, omega (arith, few))

pub loop-i-preserved : goal.loop-i-preserved
loop-i-preserved c = numbering_turn _ _ _ _ _ c.loop-i.invariant _ _ c.loop-i-test.true c.number_one-kept.ensures

pub returns : goal.returns
returns c =
    let all = numbering_end _ _ _ _ _ c.loop-i.invariant c.loop-i-test.false (omega arith) in
    record { value = all.0; numbered = all.1 }

-- One flag more goes up in each turn.
use Rattle.std.proofs.Common.{arith, refl}
use Rattle.rules.specs.Lists.{table}
use Rattle.scratch.specs.Flags.{alive_in, alive_more, same_none, same_flag}
use Rattle.merging.proofs.merges.revive.Goals as goal

pub loop-i-init : goal.loop-i-init
unfolding alive_in table
loop-i-init c = (refl, same_none c.args.numbers.now)

pub loop-i-preserved : goal.loop-i-preserved
loop-i-preserved c =
    let l = c.loop-i in
    (alive_more l.numbers l.i (omega arith) l.invariant.0, same_flag c.args.numbers.now l.numbers l.i 1 l.invariant.1)

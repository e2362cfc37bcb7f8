use Rattle.std.proofs.Common.{◌≤◌, ◌<◌, refl, arith}
use Rattle.reinsert.specs.Waiting.{stack_start, stack_turn, stack_end}
use Rattle.reinsert.proofs.collect.stack_list.Goals as goal

pub loop-k-init : goal.loop-k-init
loop-k-init c = stack_start c.args.list.now _ c.args.high c.args.stack.now refl

pub loop-k-preserved : goal.loop-k-preserved
loop-k-preserved c =
    stack_turn c.args.list.now _ c.args.high c.loop-k.k c.loop-k.stack c.loop-k-test.true
    (omega (arith, c.requires, c.loop-k.auto.stack, c.loop-k-test.true)) c.loop-k.invariant

pub returns : goal.returns
returns c = stack_end c.args.list.now _ c.args.high c.loop-k.k c.loop-k.stack (omega arith) (omega arith) c.loop-k.invariant

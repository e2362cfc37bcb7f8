use Rattle.std.proofs.Common.{sym, refl, false, true, arith}
use Rattle.lists.specs.Loops.{fails_at, passed_all}
use Rattle.lists.proofs.every_below.Goals as goal

pub returns-then-not-test : goal.returns-then-not-test
returns-then-not-test g c = λ f h. fails_at f c.args.n c.loop-k.k c.loop-k-test.true (h c.loop-k.k false c.loop-k-test.true c.if-not-test.ensures) refl

pub returns : goal.returns
returns g c = λ f h. passed_all f c.args.n c.args.n (λ k l. sym (h k true l (c.loop-k.invariant k (omega arith)))) (omega arith)

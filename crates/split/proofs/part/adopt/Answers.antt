use Rattle.std.proofs.Common.{◌∙◌, sym, arith}
use Rattle.split.specs.Parts.{adopt_turn, adopt_end}
use Rattle.split.proofs.part.adopt.Goals as goal

pub loop-c-preserved : goal.loop-c-preserved
loop-c-preserved c = (
  c.set_parent.auto.links ∙ c.loop-c.invariant.0,
  λ fs. adopt_turn c.args.p _ _ _ c.loop-c-test.true (c.set_parent.ensures fs) ∙ c.loop-c.invariant.1 fs,
)

pub returns : goal.returns
returns c = λ fs. sym (adopt_end c.args.p _ c.loop-c.c-index _ (omega arith)) ∙ c.loop-c.invariant.1 fs

-- A cheaper pair comes forward; before one that is not, or behind all, the pair goes in.
use Rattle.std.proofs.Common.{◌∙◌, ◌≡◌, ◌-◌, arith}
use Rattle.pairs.specs.Sorting.{moved, stopped, ended}
use Rattle.pairs.proofs.sorting.sort_in.Goals as goal

pub loop-at-preserved : goal.loop-at-preserved
loop-at-preserved c =
    let l = c.loop-at in
    (l.invariant.0, moved _ _ c.args.count l.at c.pair-p.result c.pair-q.result (omega arith) c.pair-q.ensures.0 c.if-q-p.true c.put.ensures ∙ l.invariant.1)

pub returns-else-q-p : goal.returns-else-q-p
returns-else-q-p c =
    let l = c.loop-at in
    stopped _ _ c.args.count l.at c.pair-p.result c.pair-q.result (omega arith) c.pair-q.ensures.0 c.if-q-p.false c.put-else-q-p.ensures ∙ l.invariant.1

pub returns : goal.returns
returns c =
    let last : c.loop-at.at ≡ c.args.count - 1 = omega arith in
    ended _ _ c.args.count (c.args.count - 1) c.pair-p.result (omega arith) (omega arith) c.put-2.ensures ∙ (rw last at c.loop-at.invariant.1)

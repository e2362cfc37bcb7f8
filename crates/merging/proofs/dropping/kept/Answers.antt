-- A number goes behind the others, or none.
use Rattle.std.proofs.Common.{◌∙◌, arith, sym}
use Rattle.scratch.specs.Flags.{word_at}
use Rattle.merging.specs.Numbering.{number_in}
use Rattle.merging.specs.Pruning.{plus_none, plus_some, kept_turn, kept_end}
use Rattle.merging.proofs.dropping.kept.Goals.{then-word-ne0, else-word-ne0}
use Rattle.merging.proofs.dropping.kept.Goals as goal

pub loop-i-preserved : goal.loop-i-preserved
unfolding number_in word_at
loop-i-preserved c =
    let l = c.loop-i in
    let turn = kept_turn (number_in c.args.numbers.now) c.args.list.now l.i-index l.new.items c.if-word-ne0.new.items c.loop-i-test.true in
    elim c.if-word-ne0.branch [
      | then-word-ne0 w ↦ (
        rw w.new-is (omega (arith, w.push.ensures.len)),
        turn (rw w.new-is (w.push.ensures.items ∙ plus_some l.new.items _ w.if-word-ne0.true)) ∙ l.invariant.1,
      )
      | else-word-ne0 w ↦ (
        rw w.new-is (omega arith),
        turn (rw w.new-is (plus_none l.new.items _ w.if-word-ne0.false)) ∙ l.invariant.1,
      )
    ]

pub returns-clause-list_value : goal.returns-clause-list_value
returns-clause-list_value c = sym (kept_end _ c.args.list.now c.loop-i.i-index _ c.loop-i-test.false) ∙ c.loop-i.invariant.1

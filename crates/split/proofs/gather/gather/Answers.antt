-- A turn merges what one number names.
use Rattle.std.proofs.Common.{◌≡◌, [], get_or, sym, ◌∙◌}
use Rattle.feature.specs.Shape.{Shaped, blank_shaped, merged_shaped}
use Rattle.rules.specs.Slices.{tree_of}
use Rattle.arena.specs.Trees.{ChildrenIn, child_shaped}
use Rattle.split.specs.Gather.{gather_start, gather_turn, gather_end}
use Rattle.split.proofs.gather.gather.Goals as goal

pub loop-c-init : goal.loop-c-init
loop-c-init c =
    let a = c.args in
    record {
      left = λ ls. rw c.empty-sum.ensures (gather_start a.s (tree_of a.s a.n a.floats.now ls) a.leaf a.list.now);
      shaped = rw c.empty-sum.ensures (blank_shaped a.s.feature a.s.dim);
    }

pub summary-summary-requires : goal.summary-summary-requires
unfolding ChildrenIn
summary-summary-requires c = (c.requires.0, c.requires.1 c.loop-c.c-index c.loop-c-test.true)

pub loop-c-preserved : goal.loop-c-preserved
unfolding ChildrenIn
loop-c-preserved c =
    let a = c.args in
    let loop = c.loop-c in
    let more = c.loop-c-test.true in
    let shaped : Shaped a.s.feature a.s.dim c.summary-summary.result =
    rw (c.summary-summary.ensures [])
    (child_shaped a.s c.requires.0.sized a.n a.floats.now [] (get_or a.list.now loop.c-index 0) a.leaf (c.requires.1 loop.c-index more)) in
    record {
      left = λ ls. gather_turn a.s _ a.list.now loop.sum loop.c-index more (c.summary-summary.ensures ls) c.merge-sum.ensures
          ∙ loop.invariant.left ls;
      shaped = rw c.merge-sum.ensures (merged_shaped a.s.feature a.s.dim loop.sum c.summary-summary.result loop.invariant.shaped shaped);
    }

pub returns-clause-any_links : goal.returns-clause-any_links
returns-clause-any_links c =
    let loop = c.loop-c in
    λ ls. sym (gather_end c.args.s _ c.args.list.now loop.sum loop.c-index c.loop-c-test.false) ∙ loop.invariant.left ls

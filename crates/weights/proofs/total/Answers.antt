use Rattle.std.proofs.Common.{[], sym, ap, ◌∙◌, arith}
use lib.Ieee.{to_unsigned}
use Rattle.binary64.specs.Counts.{is_count}
use Rattle.head.specs.Sizes.{entries_small}
use Rattle.rules.specs.Tree.{row_count}
use Rattle.lists.specs.Loops.{sum-none, sum_more, sum_end}
use Rattle.weights.specs.Weighable.{entry_counts, total-placed}
use Rattle.weights.proofs.total.Goals as goal

pub loop-e-init : goal.loop-e-init
loop-e-init c = record { few = omega arith; summed = λ ls. sum-none _ }

pub rows_of-rows-requires : goal.rows_of-rows-requires
rows_of-rows-requires c =
    ap is_count (c.weight.ensures []) ∙ entry_counts c.args.s c.args.n c.args.floats.now [] c.requires.1 c.loop-e.e c.loop-e-test.true

pub overflow_add-rows : goal.overflow_add-rows
overflow_add-rows c =
    let few = entries_small c.args.s c.requires.0.sized in let in_cap = c.requires.0.entries_in in let q = c.rows_of-rows.ensures.1 in omega arith

pub loop-e-preserved : goal.loop-e-preserved
unfolding row_count
loop-e-preserved c =
    let q = c.rows_of-rows.ensures.1 in
    record {
      few = omega arith;
      summed = λ ls. sum_more _ c.loop-e.e (c.loop-e.invariant.summed ls) (c.rows_of-rows.ensures.0 ∙ ap (to_unsigned 64) (c.weight.ensures ls));
    }

pub returns : goal.returns
returns c = λ ls.
    sum_end _ _ c.loop-e.e (c.loop-e.invariant.summed ls) c.loop-e.auto.e-end c.loop-e-test.false
    ∙ sym (total-placed c.args.s c.args.n c.args.floats.now ls)

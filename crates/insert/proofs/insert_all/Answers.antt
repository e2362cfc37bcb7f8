-- A turn takes one row more into the tree.
use Rattle.std.proofs.Common.{ap, ◌∙◌, ◌<◌, arith}
use Rattle.rules.specs.Slices.{tree_of}
use Rattle.rules.specs.Rows.{inserted}
use Rattle.rows.specs.Rows.{row_of, row_there, row_wide}
use Rattle.insert.specs.Batch.{batch_start, batch-one, batch-next, batch_end}
use Rattle.insert.specs.Resting.{rest-one}
use Rattle.insert.proofs.insert_all.Goals as goal

pub loop-k-init : goal.loop-k-init
loop-k-init c =
    let a = c.args in
    record {
      floats_fit = c.requires.floats.0;
      links_fit = c.requires.floats.1;
      batch = batch_start a.s a.rows.now a.count (tree_of a.s a.n a.floats.now a.links.now) c.requires.dim_in_bounds.1;
    }

pub insert-m-requires-clause-dim_in_bounds : goal.insert-m-requires-clause-dim_in_bounds
insert-m-requires-clause-dim_in_bounds c =
    let a = c.args in
    let k = c.loop-k.k in
    let more : k < a.count = omega arith in
    let wide = row_wide a.s a.rows.now k (row_there a.s a.count k _ more c.requires.dim_in_bounds.0) in (
      rw c.row.ensures (omega arith),
      rest-one a.s (row_of a.s a.rows.now k) _ (batch-one a.s a.rows.now a.count _ c.loop-k.invariant.batch more),
    )

pub loop-k-preserved : goal.loop-k-preserved
loop-k-preserved c =
    let a = c.args in
    let l = c.loop-k in
    let new = c.insert-m in
    let more : l.k < a.count = omega arith in
    record {
      floats_fit = rw new.auto.floats new.ensures.floats_2.0;
      links_fit = rw new.auto.links new.ensures.floats_2.1;
      batch = batch-next a.s a.rows.now a.count _ l.invariant.batch c.requires.floats.0.sized more
          (new.ensures.links_after ∙ ap (λ x. inserted a.s x (tree_of a.s l.m l.floats l.links)) c.row.ensures);
    }

pub returns-clause-links_after : goal.returns-clause-links_after
returns-clause-links_after c = batch_end c.args.s c.args.rows.now c.args.count _ c.loop-k.invariant.batch c.loop-k-test.false

-- A turn pours one row.
use Rattle.std.proofs.Common.{length, ap, ◌∙◌, arith}
use Rattle.rules.specs.Slices.{tree_of}
use Rattle.rows.specs.Rows.{row_there, row_wide}
use Rattle.scratch.specs.Slots.{slot_there}
use Rattle.pouring.specs.Pouring.{pour_start, pour_turn, pour_end}
use Rattle.pouring.proofs.pour_rows.Goals as goal

pub loop-k-init : goal.loop-k-init
loop-k-init c =
    let a = c.args in
    pour_start a.s a.n (tree_of a.s a.n a.floats.now a.links.now) a.rows.now a.count a.scratch.now

-- the row is as wide as a row
pub route-e-requires-clause-floats : goal.route-e-requires-clause-floats
route-e-requires-clause-floats c =
    let a = c.args in
    let there = row_there a.s a.count c.loop-k.k (length a.rows.now) c.loop-k-test.true c.requires.dim_in_bounds.0 in
    let wide = ap length c.row-x.ensures ∙ row_wide a.s a.rows.now c.loop-k.k there in
    (c.requires.floats.0, c.requires.floats.1, omega (arith, wide))

pub push-requires : goal.push-requires
push-requires c =
    let a = c.args in
    let there = row_there a.s a.count c.loop-k.k (length a.rows.now) c.loop-k-test.true c.requires.dim_in_bounds.0 in
    let wide = ap length c.row-x.ensures ∙ row_wide a.s a.rows.now c.loop-k.k there in
    let few = c.requires.floats.0.entries_in in
    let here = c.route-e.ensures.upper_bound in (
      rw c.loop-k.auto.scratch (slot_there a.s _ _ c.requires.floats.0.sized c.requires.floats.2 (omega arith)),
      omega (arith, wide),
    )

pub loop-k-preserved : goal.loop-k-preserved
loop-k-preserved c =
    let a = c.args in
    let loop = c.loop-k in
    pour_turn a.s a.n (tree_of a.s a.n a.floats.now a.links.now) a.rows.now a.count loop.k _ _ loop.scratch _ c.loop-k-test.true
    c.route-e.ensures.upper_bound c.row-x.ensures c.route-e.ensures.value c.push.ensures
    ∙ loop.invariant

pub returns : goal.returns
returns c =
    let a = c.args in
    let loop = c.loop-k in
    pour_end a.s a.n (tree_of a.s a.n a.floats.now a.links.now) a.rows.now a.count loop.k loop.scratch c.loop-k-test.false ∙ loop.invariant

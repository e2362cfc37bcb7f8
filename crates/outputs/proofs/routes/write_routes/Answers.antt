-- A turn writes the entry of one row.
use Rattle.std.proofs.Common.{◌≡◌, map, get_or, set, sym, refl, ap, ap₂, ◌∙◌, arith}
use Rattle.rules.specs.Lists.{rows_of}
use Rattle.rules.specs.Slices.{tree_of}
use Rattle.rules.specs.Route.{greedy}
use Rattle.arena.specs.Trees.{caps_small}
use Rattle.stretch.specs.Stretches.{copied_to, copied_turn}
use Rattle.rows.specs.Rows.{row_there, row_wide}
use Rattle.outputs.specs.Written.{front_copied, told_at, told_count}
use Rattle.outputs.proofs.routes.write_routes.Goals as goal

pub loop-k-init : goal.loop-k-init
unfolding copied_to
loop-k-init c = refl

pub route-requires-clause-floats : goal.route-requires-clause-floats
route-requires-clause-floats c =
    let a = c.args in
    let there = row_there a.s a.count c.loop-k.k _ c.loop-k-test.true c.requires.floats.2 in
    let wide = row_wide a.s a.rows.now c.loop-k.k there in
    (c.requires.floats.0, c.requires.floats.1, rw c.row.ensures (omega arith))

pub overflow_cast-out : goal.overflow_cast-out
overflow_cast-out c =
    let few = c.requires.floats.0.entries_in in
    let small = (caps_small _ _ _ c.requires.floats.0).1 in
    let in-it = c.route.ensures.upper_bound in
    omega arith

pub loop-k-preserved : goal.loop-k-preserved
loop-k-preserved c =
    let a = c.args in
    let loop = c.loop-k in
    let more = c.loop-k-test.true in
    let few = c.requires.floats.3 in
    let told = greedy a.s (tree_of a.s a.n a.floats.now a.links.now) in
    let new = map told (rows_of a.count a.s.dim a.rows.now) in
    let many = told_count a.s told a.count a.rows.now in
    let here : c.route.result ≡ get_or new loop.k 0 =
    c.route.ensures.value ∙ ap told c.row.ensures ∙ sym (told_at a.s told a.count loop.k a.rows.now more) in
    ap₂ (λ l v. set l loop.k v) loop.invariant here ∙ copied_turn new a.out.now loop.k 0 (omega arith) (omega arith)

pub returns : goal.returns
returns c =
    let a = c.args in
    let loop = c.loop-k in
    let told = greedy a.s (tree_of a.s a.n a.floats.now a.links.now) in
    let many = told_count a.s told a.count a.rows.now in
    loop.invariant ∙ front_copied (map told (rows_of a.count a.s.dim a.rows.now)) a.out.now loop.k (omega arith)

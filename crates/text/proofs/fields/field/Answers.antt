-- Behind a field that is not the last stands a tab, and then the next field.
use Rattle.std.proofs.Common.{◌≡◌, arith, ◌∙◌}
use Rattle.text.specs.Fields.{begins_first, begins_next, begins_is, end_in}
use Rattle.text.proofs.fields.field.Goals as goal

pub loop-init : goal.loop-init
loop-init c = record { inside = omega arith; begins = begins_first _ }

pub overflow_add-from : goal.overflow_add-from
overflow_add-from c =
    omega (arith, (begins_next _ _ _ _ c.loop.invariant.begins c.end_of-from.ensures (omega arith)).0)

pub loop-preserved : goal.loop-preserved
loop-preserved c =
    let next = begins_next _ _ _ _ c.loop.invariant.begins c.end_of-from.ensures (omega arith) in
    record { inside = omega (arith, next.0); begins = next.1 }

pub slice_bounds-result-end : goal.slice_bounds-result-end
slice_bounds-result-end c = omega (arith, c.end_of-end.ensures, end_in c.args.line.now c.loop.from (omega arith))

pub returns : goal.returns
returns c =
    let e : c.loop.counter ≡ c.args.k = omega arith in
    begins_is _ _ _ _ c.loop.invariant.begins c.end_of-end.ensures ∙ rw e

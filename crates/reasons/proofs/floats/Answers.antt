-- A field more is as asked, or the first that is not.
use Rattle.std.proofs.Common.{◌≡◌, arith, sym, ap, ◌∙◌, get_or, []}
use Rattle.rules.specs.Listing.{fields_of, hex_float}
use Rattle.reasons.specs.Reasons.{is_some, float_at, wrong_stop, wrong_more, wrong_end}
use Rattle.reasons.proofs.floats.Goals as goal
use Rattle.reasons.proofs.floats.Goals.{Then-not-is_float, Else-not-is_float}

-- whether field k is as asked
told : (c : Then-not-is_float) → float_at c.loop-k.k (get_or (fields_of c.args.line.now) c.loop-k.k []) ≡ c.is_float.result
unfolding float_at
told c = sym (c.is_float.ensures ∙ ap (λ f. is_some (hex_float f)) c.field.ensures)

told-2 : (c : Else-not-is_float) → float_at c.loop-k.k (get_or (fields_of c.args.line.now) c.loop-k.k []) ≡ c.is_float.result
unfolding float_at
told-2 c = sym (c.is_float.ensures ∙ ap (λ f. is_some (hex_float f)) c.field.ensures)

pub returns-then-not-is_float : goal.returns-then-not-is_float
returns-then-not-is_float c = sym (wrong_stop float_at _ c.loop-k.k (omega arith) (told c ∙ c.if-not-is_float.true)) ∙ c.loop-k.invariant

pub loop-k-preserved : goal.loop-k-preserved
loop-k-preserved c = wrong_more float_at _ c.loop-k.k (omega arith) (told-2 c ∙ c.if-not-is_float.false) ∙ c.loop-k.invariant

pub returns : goal.returns
returns c =
    let e : c.args.n ≡ c.loop-k.k = omega arith in
    e ∙ sym (wrong_end float_at _ c.loop-k.k (omega arith)) ∙ c.loop-k.invariant

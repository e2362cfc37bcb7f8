-- A float more at the front, or a field that is none.
use Rattle.std.proofs.Common.{arith, sym, ap, ◌∙◌}
use Rattle.rules.specs.Listing.{hex_float}
use Rattle.text.specs.Rows.{front_none, front_more, front_all, floats_stop, none_read}
use Rattle.text.proofs.row.floats.Goals as goal

pub loop-k-init : goal.loop-k-init
loop-k-init c = front_none _ _

pub returns-in_default : goal.returns-in_default
returns-in_default c =
    let float = c.hex_float.ensures ∙ ap hex_float c.field.ensures in
    none_read _ _ _ _ (floats_stop _ c.loop-k.k (omega arith) (sym float ∙ c.in_default.is))

pub loop-k-preserved : goal.loop-k-preserved
loop-k-preserved c =
    let float = c.hex_float.ensures ∙ ap hex_float c.field.ensures in
    front_more _ _ _ c.loop-k.k _ c.loop-k.invariant (omega arith) (omega arith) (sym float ∙ c.in-Some.is)

pub returns : goal.returns
returns c = front_all _ _ _ c.loop-k.k _ c.loop-k.invariant (omega arith) c.requires.0

-- A field more is as asked, or the first that is not.
use Rattle.std.proofs.Common.{◌≡◌, arith, sym, ap, ◌∙◌, get_or, []}
use Rattle.rules.specs.Listing.{fields_of}
use Rattle.reasons.specs.Reasons.{setting_at, wrong_stop, wrong_more, wrong_end}
use Rattle.reasons.proofs.settings.settings.Goals as goal
use Rattle.reasons.proofs.settings.settings.Goals.{Then-not-is_setting, Else-not-is_setting}

-- whether field k is as asked
told : (c : Then-not-is_setting) → setting_at c.loop-k.k (get_or (fields_of c.args.line.now) c.loop-k.k []) ≡ c.is_setting.result
told c = sym (c.is_setting.ensures ∙ ap (setting_at c.loop-k.k) c.field.ensures)

told-2 : (c : Else-not-is_setting) → setting_at c.loop-k.k (get_or (fields_of c.args.line.now) c.loop-k.k []) ≡ c.is_setting.result
told-2 c = sym (c.is_setting.ensures ∙ ap (setting_at c.loop-k.k) c.field.ensures)

pub returns-then-not-is_setting : goal.returns-then-not-is_setting
returns-then-not-is_setting c = sym (wrong_stop setting_at _ c.loop-k.k (omega arith) (told c ∙ c.if-not-is_setting.true)) ∙ c.loop-k.invariant

pub loop-k-preserved : goal.loop-k-preserved
loop-k-preserved c = wrong_more setting_at _ c.loop-k.k (omega arith) (told-2 c ∙ c.if-not-is_setting.false) ∙ c.loop-k.invariant

pub returns : goal.returns
returns c =
    let e : 8 ≡ c.loop-k.k = omega arith in
    e ∙ sym (wrong_end setting_at _ c.loop-k.k (omega arith)) ∙ c.loop-k.invariant

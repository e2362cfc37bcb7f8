-- `reasons::settings::is_setting` meets its contract: by the place, and from 7 on a float.
use Prim.Native.Nat.{ℕ, zero, suc}
use mathlib.Core.List.{List}
use mathlib.Core.Path.{◌≡◌, refl, sym, ap, ◌∙◌}
use borrow.Author.Rules.{rules}
use Rattle.rules.specs.Listing.{hex_float}
use Rattle.reasons.specs.Reasons.{is_some, setting_at}
use Rattle.reasons.proofs.settings.is_setting.Statement.{statement}
use Rattle.reasons.proofs.settings.is_setting.Tie as tie

-- any place from 7 on
other : (k : ℕ) (f : List ℕ) → (k ≡ 0 → ⊥) → (k ≡ 1 → ⊥) → (k ≡ 2 → ⊥) → (k ≡ 3 → ⊥) → (k ≡ 4 → ⊥) → (k ≡ 5 → ⊥) → (k ≡ 6 → ⊥)
    → is_some (hex_float f) ≡ setting_at k f
unfolding setting_at
other zero f n₀ n₁ n₂ n₃ n₄ n₅ n₆ = absurd (n₀ refl)
other (suc zero) f n₀ n₁ n₂ n₃ n₄ n₅ n₆ = absurd (n₁ refl)
other (suc (suc zero)) f n₀ n₁ n₂ n₃ n₄ n₅ n₆ = absurd (n₂ refl)
other (suc (suc (suc zero))) f n₀ n₁ n₂ n₃ n₄ n₅ n₆ = absurd (n₃ refl)
other (suc (suc (suc (suc zero)))) f n₀ n₁ n₂ n₃ n₄ n₅ n₆ = absurd (n₄ refl)
other (suc (suc (suc (suc (suc zero))))) f n₀ n₁ n₂ n₃ n₄ n₅ n₆ = absurd (n₅ refl)
other (suc (suc (suc (suc (suc (suc zero)))))) f n₀ n₁ n₂ n₃ n₄ n₅ n₆ = absurd (n₆ refl)
other (suc (suc (suc (suc (suc (suc (suc k))))))) f n₀ n₁ n₂ n₃ n₄ n₅ n₆ = refl

returns : tie.Need-returns-in-0
unfolding setting_at
returns c = c.is_size.ensures ∙ ap (λ k. setting_at k c.args.field.now) (sym c.in-0.is)

returns-2 : tie.Need-returns-in-1
unfolding setting_at
returns-2 c = c.is_size-in-1.ensures ∙ ap (λ k. setting_at k c.args.field.now) (sym c.in-1.is)

returns-3 : tie.Need-returns-in-2
unfolding setting_at
returns-3 c = c.is_size-in-2.ensures ∙ ap (λ k. setting_at k c.args.field.now) (sym c.in-2.is)

returns-4 : tie.Need-returns-in-3
unfolding setting_at
returns-4 c = c.is_size-in-3.ensures ∙ ap (λ k. setting_at k c.args.field.now) (sym c.in-3.is)

returns-5 : tie.Need-returns-in-4
unfolding setting_at
returns-5 c = c.is_feature.ensures ∙ ap (λ k. setting_at k c.args.field.now) (sym c.in-4.is)

returns-6 : tie.Need-returns-in-5
unfolding setting_at
returns-6 c = c.is_distance.ensures ∙ ap (λ k. setting_at k c.args.field.now) (sym c.in-5.is)

returns-7 : tie.Need-returns-in-6
unfolding setting_at
returns-7 c = c.is_distance-in-6.ensures ∙ ap (λ k. setting_at k c.args.field.now) (sym c.in-6.is)

returns-8 : tie.Need-returns-in_default
returns-8 c =
    let a = c.args in
    let r = c.in_default.in_default-own.rest in
    c.is_float.ensures
    ∙ other a.k a.field.now r.0.0.0.0.0.0.1 r.0.0.0.0.0.1 r.0.0.0.0.1 r.0.0.0.1 r.0.0.1 r.0.1 r.1

pub is_setting_spec : {M : Type 1} → statement M
is_setting_spec =
    tie.close (tie.spec (λ c κs. search rules) (λ c κs. search rules) (λ c κs. search rules) (λ c κs. search rules) (λ c κs. search rules)
    (λ c κs. search rules) (λ c κs. search rules) (λ c κs. search rules) returns returns-2 returns-3 returns-4 returns-5 returns-6 returns-7 returns-8)

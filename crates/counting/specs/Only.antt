-- A number at one place, and 0 elsewhere.
use Rattle.std.specs.Prelude.{ℕ, ◌≡◌, refl, ◌≢◌, Bool, true, false, cond, eqb}
use Rattle.counting.specs.Count.{eq_test}

-- ---- d at one place

unfoldable pub only : ℕ → ℕ → ℕ → ℕ
only d m k = cond (eqb k m) d 0

pub only_at : (d m k : ℕ) → k ≡ m → only d m k ≡ d
unfolding only
only_at d m k e = go (eqb k m) refl
  where
    go : (b : Bool) → eqb k m ≡ b → cond b d 0 ≡ d
    go true q = refl
    go false q = absurd ((eq_test k m false q).1 refl e)

pub only_off : (d m k : ℕ) → k ≢ m → only d m k ≡ 0
unfolding only
only_off d m k e = go (eqb k m) refl
  where
    go : (b : Bool) → eqb k m ≡ b → cond b d 0 ≡ 0
    go true q = absurd (e ((eq_test k m true q).0 refl))
    go false q = refl

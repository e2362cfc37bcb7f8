-- A list with one element changed, or one more at its end: what stands at each number.
use Prim.Native.Nat.{ℕ, zero, suc, ◌≤◌, ◌<◌}
use Rattle.std.specs.Prelude.{◌≡◌, ◌≢◌, length, get_or}
use Rattle.std.proofs.Math.Path.{refl, ap}
use mathlib.Core.List.{List, [], ◌∷◌}
use Rattle.std.proofs.Common.{le_of_suc-le-suc, not-suc-le-zero}
use Rattle.std.proofs.Math.ListN.{get_or-eq_default}
use Rattle.rules.specs.Lists.{change_at, snoc}

module _ {A : Type 0} where
  pub change-at : (f : A → A) (i : ℕ) (d : A) (ns : List A) → i < length ns → get_or (change_at f i ns) i d ≡ f (get_or ns i d)
  unfolding change_at
  change-at f i d [] h = absurd (not-suc-le-zero h)
  change-at f zero d (m ∷ ns) h = refl
  change-at f (suc i) d (m ∷ ns) h = change-at f i d ns (le_of_suc-le-suc h)

  pub change_off : (f : A → A) (i k : ℕ) (d : A) (ns : List A) → k ≢ i → get_or (change_at f i ns) k d ≡ get_or ns k d
  unfolding change_at
  change_off f i k d [] h = refl
  change_off f zero zero d (m ∷ ns) h = absurd (h refl)
  change_off f zero (suc k) d (m ∷ ns) h = refl
  change_off f (suc i) zero d (m ∷ ns) h = refl
  change_off f (suc i) (suc k) d (m ∷ ns) h = change_off f i k d ns (λ e. h (ap suc e))

  -- what f leaves alone stays at every place
  pub change_keeps : {B : Type 0} (g : A → B) (f : A → A) (i k : ℕ) (d : A) (ns : List A) → ((m : A) → g (f m) ≡ g m)
      → g (get_or (change_at f i ns) k d) ≡ g (get_or ns k d)
  unfolding change_at
  change_keeps g f i k d [] h = refl
  change_keeps g f zero zero d (m ∷ ns) h = h m
  change_keeps g f zero (suc k) d (m ∷ ns) h = refl
  change_keeps g f (suc i) zero d (m ∷ ns) h = refl
  change_keeps g f (suc i) (suc k) d (m ∷ ns) h = change_keeps g f i k d ns h

  pub length-change : (f : A → A) (i : ℕ) (ns : List A) → length (change_at f i ns) ≡ length ns
  unfolding change_at
  length-change f i [] = refl
  length-change f zero (m ∷ ns) = refl
  length-change f (suc i) (m ∷ ns) = ap suc (length-change f i ns)

  pub snoc-at : (ns : List A) (x d : A) → get_or (snoc ns x) (length ns) d ≡ x
  unfolding snoc
  snoc-at [] x d = refl
  snoc-at (m ∷ ns) x d = snoc-at ns x d

  pub snoc_off : (ns : List A) (x d : A) (k : ℕ) → k ≢ length ns → get_or (snoc ns x) k d ≡ get_or ns k d
  unfolding snoc
  snoc_off [] x d zero h = absurd (h refl)
  snoc_off [] x d (suc k) h = refl
  snoc_off (m ∷ ns) x d zero h = refl
  snoc_off (m ∷ ns) x d (suc k) h = snoc_off ns x d k (λ e. h (ap suc e))

  pub snoc-length : (ns : List A) (x : A) → length (snoc ns x) ≡ suc (length ns)
  unfolding snoc
  snoc-length [] x = refl
  snoc-length (m ∷ ns) x = ap suc (snoc-length ns x)

  pub past_end : (ns : List A) (d : A) (k : ℕ) → length ns ≤ k → get_or ns k d ≡ d
  past_end ns d k h = get_or-eq_default ns d h

-- Digits and the numbers that they spell.
use Rattle.std.specs.Prelude.{ℕ, zero, suc, ◌+◌, ◌-◌, ◌*◌, ◌≤◌, ◌<◌, Bool, true, false, cond, ◌&&◌, List, [], ◌∷◌, ◌≡◌, refl, leb, length, get_or, drop, Option, None, Some}
use Rattle.std.proofs.lemmas.Option.{none-some, same_Some}
use Rattle.std.proofs.Math.Bool.{and-false}
use Rattle.std.proofs.Math.Path.{sym, ap}
use Rattle.std.proofs.Common.{◌∙◌, arith, add-one, le-leb, leb-true, eq-eqb, ne_eqb}
use Rattle.std.proofs.lemmas.Bool.{lt-leb}
use Rattle.std.specs.Float.{binary64}
use Rattle.std.specs.Float.Ieee.{of_bits}
use Rattle.head.specs.Limits.{both}
use Rattle.rules.specs.Listing.{and_then, digit, hex_digit, number_from, decimal, hex_float}
use Rattle.text.specs.Places.{from_here, from_end}
use Rattle.text.specs.Told.{few}

-- ---- one digit

pub digit_low : (b : ℕ) → b < 48 → digit b ≡ None
unfolding digit
digit_low b h = rw (lt-leb 48 b h)

pub digit_high : (b : ℕ) → 57 < b → digit b ≡ None
unfolding digit
digit_high b h = rw (lt-leb b 57 h, and-false (leb 48 b))

pub digit-is : (b : ℕ) → 48 ≤ b → b ≤ 57 → digit b ≡ Some (b - 48)
unfolding digit
digit-is b h l = rw (le-leb 48 b h, le-leb b 57 l)

pub hex_low : (b : ℕ) → b < 97 → hex_digit b ≡ digit b
unfolding hex_digit
hex_low b h = rw (lt-leb 97 b h)

pub hex_high : (b : ℕ) → 102 < b → hex_digit b ≡ digit b
unfolding hex_digit
hex_high b h = rw (lt-leb b 102 h, and-false (leb 97 b))

pub hex_is : (b : ℕ) → 97 ≤ b → b ≤ 102 → hex_digit b ≡ Some (b - 97 + 10)
unfolding hex_digit
hex_is b h l = let e : b - 87 ≡ b - 97 + 10 = omega arith in rw (le-leb 97 b h, le-leb b 102 l) (ap Some e)

-- ---- how great a digit is

cond-some : (t : Bool) (n d : ℕ) → cond t (Some n) None ≡ Some d → (t ≡ true) × (n ≡ d)
cond-some true n d e = (refl, same_Some n d e)
cond-some false n d e = absurd (none-some d e)

pub digit_small : (b d : ℕ) → digit b ≡ Some d → d ≤ 9
unfolding digit
digit_small b d e =
    let (t, q) = cond-some (leb 48 b && leb b 57) (b - 48) d e in
    let (_, h) = both (leb 48 b) (leb b 57) t in
    let l = leb-true b 57 h in
    omega arith

hex_cases : (t : Bool) (b d : ℕ) → t ≡ (leb 97 b && leb b 102) → cond t (Some (b - 87)) (digit b) ≡ Some d → d ≤ 15
hex_cases true b d q e =
    let (_, h) = both (leb 97 b) (leb b 102) (sym q) in
    let l = leb-true b 102 h in
    let s : b - 87 ≡ d = same_Some (b - 87) d e in
    omega arith
hex_cases false b d q e = let l = digit_small b d e in omega arith

pub hex_small : (b d : ℕ) → hex_digit b ≡ Some d → d ≤ 15
unfolding hex_digit
hex_small b d e = hex_cases (leb 97 b && leb b 102) b d refl e

-- ---- the digits of a field from place i on, behind n

module _ (f : ℕ → Option ℕ) (r : ℕ) (l : List ℕ) (i n : ℕ) where
  pub read_stop : i < length l → f (get_or l i 0) ≡ None → number_from f r n (drop i l) ≡ None
  unfolding number_from and_then
  read_stop h e = ap (number_from f r n) (from_here l i h) ∙ ap (λ o. and_then o λ d. number_from f r (n * r + d) (drop (i + 1) l)) e

  pub read_more : (d : ℕ) → i < length l → f (get_or l i 0) ≡ Some d → number_from f r (n * r + d) (drop (i + 1) l) ≡ number_from f r n (drop i l)
  unfolding number_from and_then
  read_more d h e = sym (ap (number_from f r n) (from_here l i h) ∙ ap (λ o. and_then o λ d. number_from f r (n * r + d) (drop (i + 1) l)) e)

  pub read_end : i ≡ length l → number_from f r n (drop i l) ≡ Some n
  unfolding number_from
  read_end e = ap (number_from f r n) (from_end l i e)

-- ---- decimals

-- a number only grows as its digits are read
over_then : (o : Option ℕ) (n : ℕ) (bs : List ℕ) → ((m : ℕ) → 1_000_000_000 < m → few (number_from digit 10 m bs) ≡ None)
    → 1_000_000_000 < n → few (and_then o λ d. number_from digit 10 (n * 10 + d) bs) ≡ None
unfolding few and_then
over_then None n bs k h = refl
over_then (Some d) n bs k h = k (n * 10 + d) (omega arith)

pub few-over : (n : ℕ) (bs : List ℕ) → 1_000_000_000 < n → few (number_from digit 10 n bs) ≡ None
unfolding few number_from
few-over n [] h = rw (lt-leb n 1_000_000_000 h)
few-over n (b ∷ bs) h = over_then (digit b) n bs (λ m g. few-over m bs g) h

pub few-is : (n : ℕ) → n ≤ 1_000_000_000 → few (Some n) ≡ Some n
unfolding few
few-is n h = rw (le-leb n 1_000_000_000 h)

one-digit : (o : Option ℕ) → (and_then o λ d. number_from digit 10 (0 * 10 + d) []) ≡ o
unfolding and_then number_from
one-digit None = refl
one-digit (Some d) = ap Some (omega arith)

pub decimal-none : (l : List ℕ) → length l ≡ 0 → decimal l ≡ None
unfolding decimal
decimal-none [] h = refl
decimal-none (b ∷ l) h = absurd (omega arith)

pub decimal-one : (l : List ℕ) → length l ≡ 1 → decimal l ≡ number_from digit 10 0 l
unfolding decimal number_from
decimal-one [] h = absurd (omega arith)
decimal-one (b ∷ []) h = sym (one-digit (digit b))
decimal-one (b ∷ c ∷ l) h = absurd (omega arith)

pub decimal_padded : (l : List ℕ) → (length l ≡ 0 → ⊥) → (length l ≡ 1 → ⊥) → get_or l 0 0 ≡ 48 → decimal l ≡ None
unfolding decimal
decimal_padded [] h k e = absurd (h refl)
decimal_padded (b ∷ []) h k e = absurd (k refl)
decimal_padded (b ∷ c ∷ l) h k e = rw (eq-eqb b 48 e)

pub decimal_more : (l : List ℕ) → (length l ≡ 0 → ⊥) → (length l ≡ 1 → ⊥) → (get_or l 0 0 ≡ 48 → ⊥) → decimal l ≡ number_from digit 10 0 l
unfolding decimal
decimal_more [] h k e = absurd (h refl)
decimal_more (b ∷ []) h k e = absurd (k refl)
decimal_more (b ∷ c ∷ l) h k e = rw (ne_eqb b 48 e)

-- ---- hex

-- what i hex digits stay below
unfoldable pub sixteens : ℕ → ℕ
sixteens zero = 1
sixteens (suc i) = 16 * sixteens i

sixteens-some : (i : ℕ) → 1 ≤ sixteens i
unfolding sixteens
sixteens-some zero = omega arith
sixteens-some (suc i) = let h = sixteens-some i in omega arith

sixteens_up : (i j : ℕ) → sixteens i ≤ sixteens (j + i)
unfolding sixteens
sixteens_up i zero = let z : 0 + i ≡ i = omega arith in let e = ap sixteens z in omega arith
sixteens_up i (suc j) =
    let h = sixteens_up i j in
    let z : suc j + i ≡ suc (j + i) = omega arith in
    let e : sixteens (suc j + i) ≡ 16 * sixteens (j + i) = ap sixteens z in
    omega arith

pub sixteens_more : (i n d : ℕ) → n < sixteens i → d ≤ 15 → n * 16 + d < sixteens (i + 1)
unfolding sixteens
sixteens_more i n d h l = rw (add-one i) (omega arith)

pub sixteens_fit : (i : ℕ) → i < 16 → 16 * sixteens i ≤ 18446744073709551616
unfolding sixteens
sixteens_fit i h =
    let e : 15 - i + i ≡ 15 = omega arith in
    let u = sixteens_up i (15 - i) in
    let s : sixteens (15 - i + i) ≡ sixteens 15 = ap sixteens e in
    omega arith

pub real_short : (l : List ℕ) → (length l ≡ 16 → ⊥) → hex_float l ≡ None
unfolding hex_float and_then
real_short l h = rw (ne_eqb (length l) 16 h)

pub real_none : (l : List ℕ) → number_from hex_digit 16 0 l ≡ None → length l ≡ 16 → hex_float l ≡ None
unfolding hex_float and_then
real_none l e h = rw (eq-eqb (length l) 16 h, e)

pub real_is : (l : List ℕ) (n : ℕ) → number_from hex_digit 16 0 l ≡ Some n → length l ≡ 16 → hex_float l ≡ Some (of_bits binary64 n)
unfolding hex_float and_then
real_is l n e h = rw (eq-eqb (length l) 16 h, e)

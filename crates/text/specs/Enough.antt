-- The digits printed are enough: read back, they give the number.
use Prim.Native.Nat.{ℕ, zero, suc, ◌+◌, ◌*◌, ◌/◌, ◌%◌, ◌<◌}
use Rattle.std.specs.Prelude.{Bool, true, false, cond, ◌≡◌, refl, T, ltb, length, Float, Option, None, Some}
use mathlib.Core.List.{List, [], ◌∷◌}
use Rattle.std.proofs.Math.Path.{sym, ap}
use Rattle.std.proofs.Common.{◌∙◌, div-lt_iff_lt-mul, div-add-mod', add-mul, mul_assoc, mod-lt, lt-ltb, ltb-true, ltb-false, le-leb, eq-eqb}
use Rattle.std.proofs.Math.Nat.{add_assoc}
use native.Mathlib.Omega.{arith}
use Rattle.std.proofs.lemmas.Bool.{lt-leb}
use Rattle.std.specs.Float.Ieee.{binary64, fits, to_bits, of_bits}
use Rattle.std.specs.Float.Ieee.Bits.{to_bits-lt, of_bits-to_bits}
use Rattle.rules.specs.Listing.{and_then, digit, hex_digit, number_from, hex_float, digits_of, places_of, decimal_of, hex_of}
use Rattle.text.specs.Written.{letter_of, letter_low, letter_high, hex_length}

-- r to the power k
unfoldable pub power : ℕ → ℕ → ℕ
power r zero = 1
power r (suc k) = power r k * r

less : (n p r : ℕ) → 0 < r → n < p * r → n / r < p
less n p r h l = (div-lt_iff_lt-mul {k = r} {x = n} {y = p} h).1 l

-- digits to base r, read by f
module _ (f : ℕ → Option ℕ) (r : ℕ) (some-base : 0 < r) (reads : (c : ℕ) → c < r → f (letter_of c) ≡ Some c) where
  next : (c m : ℕ) (l : List ℕ) → c < r → number_from f r m (letter_of c ∷ l) ≡ number_from f r (m * r + c) l
  unfolding number_from and_then
  next c m l h = ap (λ o. and_then o (λ d. number_from f r (m * r + d) l)) (reads c h)

  -- k digits of a number below the k-th power are read back as this number, behind m and before l
  pub digits_read : (k n m : ℕ) (l : List ℕ) → n < power r k → number_from f r m (digits_of k r n l) ≡ number_from f r (m * power r k + n) l
  unfolding power digits_of
  digits_read zero n m l h = ap (λ v. number_from f r v l) (let z : m * 1 + n ≡ m = omega arith in sym z)
  digits_read (suc k) n m l h =
      let p = power r k in
      let c = n % r in
      let e : (m * p + n / r) * r + c ≡ m * (p * r) + n =
      ap (λ v. v + c) (add-mul (m * p) (n / r) r ∙ ap (λ v. v + n / r * r) (mul_assoc m p r)) ∙ add_assoc (m * (p * r)) (n / r * r) c
      ∙ ap (λ v. m * (p * r) + v) (div-add-mod' n r) in
      digits_read k (n / r) m (letter_of c ∷ l) (less n p r some-base h)
      ∙ next c (m * p + n / r) l (mod-lt n some-base) ∙ ap (λ v. number_from f r v l) e

digit_back : (c : ℕ) → c < 10 → digit (letter_of c) ≡ Some c
unfolding digit
digit_back c h = rw (lt-ltb c 10 h, le-leb 48 (48 + c) (omega arith), le-leb (48 + c) 57 (omega arith)) (ap Some (omega arith))

-- a number of up to k + 1 digits has as many as `places_of` says
pub places_hold : (k n : ℕ) → n < power 10 (suc k) → n < power 10 (places_of k n)
unfolding power places_of
places_hold zero n h = h
places_hold (suc k) n h = go (ltb n 10) refl (places_hold k (n / 10) (less n (power 10 (suc k)) 10 (omega arith) h))
  where
    go : (b : Bool) → ltb n 10 ≡ b → n / 10 < power 10 (places_of k (n / 10)) → n < power 10 (elim b [ true ↦ 1 | false ↦ suc (places_of k (n / 10)) ])
    go true e q = ltb-true n 10 e
    go false e q = (div-lt_iff_lt-mul {k = 10} {x = n} {y = power 10 (places_of k (n / 10))} (omega arith)).0 q

-- so a number of up to 20 digits is read back
pub decimal_read : (n : ℕ) → n < 100_000_000_000_000_000_000 → number_from digit 10 0 (decimal_of n) ≡ Some n
unfolding decimal_of power number_from
decimal_read n h =
    digits_read digit 10 (omega arith) digit_back (places_of 19 n) n 0 [] (places_hold 19 n h) ∙ ap Some (omega arith)

hex_back : (c : ℕ) → c < 16 → hex_digit (letter_of c) ≡ Some c
unfolding hex_digit digit
hex_back c h = go (ltb c 10) refl
  where
    go : (b : Bool) → ltb c 10 ≡ b → hex_digit (letter_of c) ≡ Some c
    go true e =
        let l = ltb-true c 10 e in
        ap hex_digit (letter_low c l)
        ∙ rw (lt-leb 97 (48 + c) (omega arith), le-leb 48 (48 + c) (omega arith), le-leb (48 + c) 57 (omega arith)) (ap Some (omega arith))
    go false e =
        let l = ltb-false c 10 e in
        ap hex_digit (letter_high c l) ∙ rw (le-leb 97 (87 + c) (omega arith), le-leb (87 + c) 102 (omega arith)) (ap Some (omega arith))

-- and every float from its 16 digits
pub hex_read : (x : Float) → T (fits binary64 x) → hex_float (hex_of x) ≡ Some x
unfolding hex_float
hex_read x f =
    ap (λ b. and_then (cond b (number_from hex_digit 16 0 (hex_of x)) None) (λ n. Some (of_bits binary64 n))) (eq-eqb (length (hex_of x)) 16 (hex_length x))
    ∙ (unfold and_then in ap (λ o. and_then o (λ n. Some (of_bits binary64 n))) bits ∙ ap Some (of_bits-to_bits binary64 x f))
  where
    bits : number_from hex_digit 16 0 (hex_of x) ≡ Some (to_bits binary64 x)
    bits = unfold hex_of power number_from in
        digits_read hex_digit 16 (omega arith) hex_back 16 (to_bits binary64 x) 0 [] (to_bits-lt binary64 x f) ∙ ap Some (omega arith)

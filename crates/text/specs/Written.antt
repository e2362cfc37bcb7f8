-- Bytes written over those of a slice, and digits written from the last to the first.
use Rattle.std.specs.Prelude.{ℕ, zero, suc, ◌+◌, ◌-◌, ◌/◌, ◌%◌, ◌≤◌, ◌<◌, Bool, true, false, cond, ◌≡◌, refl, ltb, get_or, set, Float}
use mathlib.Core.List.{List, [], ◌∷◌, ◌++◌, append_assoc}
use Rattle.std.proofs.Math.Path.{sym, ap}
use Rattle.std.proofs.Common.{◌∙◌, lt-ltb, le-ltb, take-append-drop, length-drop, take_all, take-suc, take-take, length-take-le}
use native.Mathlib.Omega.{arith}
use Rattle.std.proofs.Math.ListN.{length, take, drop, length-append}
use Rattle.std.proofs.lemmas.List.{set_at}
use Rattle.std.proofs.Math.Seq.{take_at, drop_at, drop-drop}
use Rattle.std.specs.Float.{binary64}
use Rattle.std.specs.Float.Ieee.{to_bits}
use Rattle.rules.specs.Listing.{digits_of, places_of, decimal_of, hex_of}

-- the bytes bs over those from a place on
unfoldable pub written : ℕ → List ℕ → List ℕ → List ℕ
written at bs out = take at out ++ (bs ++ drop (at + length bs) out)

-- the byte of a digit
abbrev pub letter_of : ℕ → ℕ
letter_of c = cond (ltb c 10) (48 + c) (87 + c)

pub letter_low : (d : ℕ) → d < 10 → letter_of d ≡ 48 + d
letter_low d h = ap (λ t. cond t (48 + d) (87 + d)) (lt-ltb d 10 h)

pub letter_high : (d : ℕ) → 10 ≤ d → letter_of d ≡ 87 + d
letter_high d h = ap (λ t. cond t (48 + d) (87 + d)) (le-ltb d 10 h)

-- ---- how many digits

places_short : (j n : ℕ) → n < 10 → places_of j n ≡ 1
unfolding places_of
places_short zero n h = refl
places_short (suc j) n h = let f : Bool → ℕ = λ t. elim t [ true ↦ 1 | false ↦ suc (places_of j (n / 10)) ] in ap f (lt-ltb n 10 h)

places_long : (j n : ℕ) → 10 ≤ n → places_of (suc j) n ≡ suc (places_of j (n / 10))
unfolding places_of
places_long j n h = let f : Bool → ℕ = λ t. elim t [ true ↦ 1 | false ↦ suc (places_of j (n / 10)) ] in ap f (le-ltb n 10 h)

module _ (k n : ℕ) where
  pub places_last : n < 10 → places_of (20 - k) n ≡ 1
  places_last h = places_short (20 - k) n h

  pub places_more : k < 20 → 10 ≤ n → places_of (20 - k) n ≡ suc (places_of (20 - (k + 1)) (n / 10))
  places_more l h = let e : 20 - k ≡ suc (20 - (k + 1)) = omega arith in ap (λ j. places_of j n) e ∙ places_long (20 - (k + 1)) n h

  pub places_end : k ≡ 20 → places_of (20 - k) n ≡ 1
  unfolding places_of
  places_end l = let e : 20 - k ≡ 0 = omega arith in ap (λ j. places_of j n) e

-- ---- the stores of the last k digits

unfoldable pub stored : ℕ → ℕ → ℕ → ℕ → List ℕ → List ℕ
stored zero r n at o = o
stored (suc k) r n at o = stored k r (n / r) at (set o (at + k) (letter_of (n % r)))

pub stored_turn : (i r n at : ℕ) (o : List ℕ) → 0 < i → stored (i - 1) r (n / r) at (set o (at + (i - 1)) (letter_of (n % r))) ≡ stored i r n at o
unfolding stored
stored_turn zero r n at o h = absurd (omega arith)
stored_turn (suc i) r n at o h = let e : suc i - 1 ≡ i = omega arith in ap (λ j. stored j r (n / r) at (set o (at + j) (letter_of (n % r)))) e

pub stored_end : (i r n at : ℕ) (o : List ℕ) → i ≡ 0 → stored i r n at o ≡ o
unfolding stored
stored_end i r n at o e = ap (λ j. stored j r n at o) e

-- the last of a front, as a store leaves it
last_set : (p l : List ℕ) (n a : ℕ) → length p ≡ suc n → set (p ++ l) n a ≡ take n p ++ (a ∷ l)
last_set p l n a h =
    let cut : p ≡ take n p ++ (get_or p n 0 ∷ []) = sym (take_all (suc n) p (omega arith)) ∙ take-suc p n 0 (omega arith) in
    let long : length (take n p) ≡ n = length-take-le n p (omega arith) in
    ap (λ q. set (q ++ l) n a) cut ∙ ap (λ q. set q n a) (append_assoc (take n p) (get_or p n 0 ∷ []) l) ∙ set_at (take n p) (get_or p n 0) l a n long

stored_is : (k r n at : ℕ) (p l : List ℕ) → length p ≡ at + k → stored k r n at (p ++ l) ≡ take at p ++ digits_of k r n l
unfolding stored digits_of
stored_is zero r n at p l h = ap (λ q. q ++ l) (sym (take_all at p (omega arith)))
stored_is (suc k) r n at p l h =
    let c = letter_of (n % r) in
    let front = take (at + k) p in
    ap (stored k r (n / r) at) (last_set p l (at + k) c (omega arith))
    ∙ stored_is k r (n / r) at front (c ∷ l) (length-take-le (at + k) p (omega arith))
    ∙ ap (λ q. q ++ digits_of k r (n / r) (c ∷ l)) (take-take at (at + k) p (omega arith))

digits_before : (k r n : ℕ) (l : List ℕ) → digits_of k r n l ≡ digits_of k r n [] ++ l
unfolding digits_of
digits_before zero r n l = refl
digits_before (suc k) r n l =
    let c = letter_of (n % r) in
    digits_before k r (n / r) (c ∷ l) ∙ sym (append_assoc (digits_of k r (n / r) []) (c ∷ []) l) ∙ ap (λ q. q ++ l) (sym (digits_before k r (n / r) (c ∷ [])))

length_from : (k r n : ℕ) (l : List ℕ) → length (digits_of k r n l) ≡ k + length l
unfolding digits_of
length_from zero r n l = omega arith
length_from (suc k) r n l = let e = length_from k r (n / r) (letter_of (n % r) ∷ l) in omega arith

pub length_digits : (k r n : ℕ) → length (digits_of k r n []) ≡ k
length_digits k r n = let e = length_from k r n [] in omega arith

-- k stores write k digits
pub stored-written : (k r n at : ℕ) (o : List ℕ) → at + k ≤ length o → stored k r n at o ≡ written at (digits_of k r n []) o
unfolding written
stored-written k r n at o h =
    let ds = digits_of k r n [] in
    let end : at + k ≡ at + length ds = let e = length_digits k r n in omega arith in
    ap (stored k r n at) (sym (take-append-drop (at + k) o))
    ∙ stored_is k r n at (take (at + k) o) (drop (at + k) o) (length-take-le (at + k) o h)
    ∙ ap (λ q. q ++ digits_of k r n (drop (at + k) o)) (take-take at (at + k) o (omega arith))
    ∙ ap (λ q. take at o ++ q) (digits_before k r n (drop (at + k) o) ∙ ap (λ m. ds ++ drop m o) end)

-- ---- the two numbers

pub decimal-length : (n : ℕ) → length (decimal_of n) ≡ places_of 19 n
unfolding decimal_of
decimal-length n = length_digits (places_of 19 n) 10 n

pub hex_length : (x : Float) → length (hex_of x) ≡ 16
unfolding hex_of
hex_length x = length_digits 16 16 (to_bits binary64 x)

-- ---- one after the other

module _ (at : ℕ) (a o : List ℕ) where
  front_long : at + length a ≤ length o → length (take at o ++ a) ≡ at + length a
  front_long h = let e = length-take-le at o (omega arith) in length-append (take at o) a ∙ ap (λ n. n + length a) e

  parts : written at a o ≡ (take at o ++ a) ++ drop (at + length a) o
  unfolding written
  parts = sym (append_assoc (take at o) a (drop (at + length a) o))

  pub written-length : at + length a ≤ length o → length (written at a o) ≡ length o
  written-length h =
      let e = ap length parts ∙ length-append (take at o ++ a) (drop (at + length a) o) in
      omega (arith, e, front_long h, length-drop (at + length a) o)

  -- b behind a is a and b together
  pub written_both : (b : List ℕ) → at + length a ≤ length o → written (at + length a) b (written at a o) ≡ written at (a ++ b) o
  unfolding written
  written_both b h =
      let end = at + length a in
      let front : take end (written at a o) ≡ take at o ++ a = ap (take end) parts ∙ take_at (take at o ++ a) (drop end o) end (front_long h) in
      let back : drop end (written at a o) ≡ drop end o = ap (drop end) parts ∙ drop_at (take at o ++ a) (drop end o) end (front_long h) in
      let rest : drop (end + length b) (written at a o) ≡ drop (at + length (a ++ b)) o =
      sym (drop-drop (length b) end (written at a o)) ∙ ap (drop (length b)) back ∙ drop-drop (length b) end o
      ∙ ap (λ n. drop n o) (let e = length-append a b in let z : end + length b ≡ at + length (a ++ b) = omega arith in z) in
      ap (λ q. q ++ (b ++ drop (end + length b) (written at a o))) front ∙ ap (λ q. (take at o ++ a) ++ (b ++ q)) rest
      ∙ append_assoc (take at o) a (b ++ drop (at + length (a ++ b)) o)
      ∙ ap (λ q. take at o ++ q) (sym (append_assoc a b (drop (at + length (a ++ b)) o)))

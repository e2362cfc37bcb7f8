-- A count of rows as a float: `whole n` is the float of n, and up to 2 ^ 53 it is exactly n, so sums of counts are those of the numbers.
use Rattle.std.specs.Prelude.{◌≡◌, ℕ, ◌+◌, ◌*◌, ◌^◌, ◌≤◌, true, false, T, pos, refl, Float}
use Rattle.std.proofs.Common.{sym, ap, ◌∙◌, subst, true≢false, lt_of_le_of_lt, mul-one, mul_comm, mul_assoc, add-mul, mul-pos, zero-lt-suc, le→leb, leb→le, lit≤, lit<}
use Rattle.std.specs.Float.{nan, inf, fin, binary64}
use Rattle.std.specs.Float.Ieee.{up, down, add, of_int, of_bits, to_unsigned, in_unsigned, in_float, fits}
use Rattle.std.specs.Float.Ieee.Fits.{down_pos}
use Rattle.std.specs.Float.Ieee.Exact.{HasValue}
use Rattle.std.specs.Float.Ieee.Scale.{round_same}
use Rattle.std.specs.Float.Ieee.Back.{round_whole, unsigned_back, Float-back_unsigned}
use Rattle.binary64.specs.Operators.{◌⊕◌, f0, f1, f2^53}

-- the most rows that a tree counts: up to here every whole number is a float
abbrev pub most : ℕ
most = 2 ^ 53

abbrev pub whole : ℕ → Float
whole n = of_int binary64 (pos n)

pub whole_value : (n : ℕ) → n ≤ most → HasValue (whole n) false n 1
unfolding of_int
whole_value n h = round_whole binary64 false n h

-- ---- the literals

pub whole_0 : whole 0 ≡ f0
unfolding of_int of_bits
whole_0 = refl

pub whole_1 : whole 1 ≡ f1
unfolding of_int of_bits
whole_1 = refl

pub whole-most : whole most ≡ f2^53
unfolding of_int of_bits
whole-most = refl

-- ---- sums

cross : (x y a b d e : ℕ) → x * 1 ≡ a * d → y * 1 ≡ b * e → (x * e + y * d) * 1 ≡ (a + b) * (d * e)
cross x y a b d e p q =
    mul-one (x * e + y * d)
    ∙ ap (λ (z : ℕ). z * e + y * d) (sym (mul-one x) ∙ p)
    ∙ ap (λ (z : ℕ). a * d * e + z * d) (sym (mul-one y) ∙ q)
    ∙ simp (add-mul, mul_assoc, mul_comm)

sum_values : (x y : Float) (a b : ℕ) → HasValue x false a 1 → HasValue y false b 1 → x ⊕ y ≡ whole (a + b)
unfolding add of_int
sum_values nan y a b p q = elim p [ ]
sum_values (inf _) y a b p q = elim p [ ]
sum_values (fin false m e) nan a b p q = elim q [ ]
sum_values (fin false m e) (inf _) a b p q = elim q [ ]
sum_values (fin true m e) y a b p q = absurd (true≢false p.0)
sum_values (fin false m e) (fin true n d) a b p q = absurd (true≢false q.0)
sum_values (fin false m e) (fin false n d) a b p q =
    round_same binary64 false (m * up e * down d + n * up d * down e) (down e * down d) (a + b) 1 (mul-pos (down_pos e) (down_pos d)) (zero-lt-suc 0)
    (cross (m * up e) (n * up d) a b (down e) (down d) p.1 q.1)

pub add-whole : (a b : ℕ) → a ≤ most → b ≤ most → whole a ⊕ whole b ≡ whole (a + b)
add-whole a b h k = sum_values (whole a) (whole b) a b (whole_value a h) (whole_value b k)

-- one more row
pub add_row : (n : ℕ) → n ≤ most → whole n ⊕ f1 ≡ whole (n + 1)
add_row n h = subst (λ (z : Float). whole n ⊕ z ≡ whole (n + 1)) whole_1 (add-whole n 1 h (lit≤ tt))

-- ---- there and back

pub whole_back : (n : ℕ) → n ≤ most → to_unsigned 64 (whole n) ≡ n
unfolding in_float
whole_back n h = (unsigned_back binary64 64 n (le→leb n most h) (lt_of_le_of_lt h (lit< tt))).1

pub whole_injective : (a b : ℕ) → a ≤ most → b ≤ most → whole a ≡ whole b → a ≡ b
whole_injective a b h k e = sym (whole_back a h) ∙ ap (to_unsigned 64) e ∙ whole_back b k

-- `as u64` is defined at a count, and a float at which it is defined is a count
pub whole_as : (n : ℕ) → n ≤ most → T (in_unsigned binary64 64 (whole n))
unfolding in_float
whole_as n h = (unsigned_back binary64 64 n (le→leb n most h) (lt_of_le_of_lt h (lit< tt))).0

pub is_whole : (x : Float) → T (fits binary64 x) → T (in_unsigned binary64 64 x) → (x ≡ whole (to_unsigned 64 x)) × (to_unsigned 64 x ≤ most)
unfolding in_float
is_whole x f t =
    let (small, back) = Float-back_unsigned binary64 64 x f t in
    (sym back, leb→le (to_unsigned 64 x) most small)

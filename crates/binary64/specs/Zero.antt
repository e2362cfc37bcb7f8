-- −0.0: equal to 0.0 by `==`, another value, and added to a count it changes nothing.
use Rattle.std.specs.Prelude.{◌≡◌, ℕ, ◌-◌, ◌*◌, ◌<◌, ◌≤◌, Bool, true, false, cond, not, ◌||◌, T, ◌⊎◌, ℤ, pos, ◌==◌, ◌≢◌, nat_lt, refl, Float}
use Rattle.std.proofs.Common.{sym, ap, ◌∙◌, subst, true≢false, inl, inr, zero-mul, one-mul, mul-pos, zero-lt-suc, arith, ltb→lt, eqb→eq, nltb→le}
use Rattle.std.specs.Bool.{beq}
use Rattle.std.specs.Float.{nan, inf, fin, binary64}
use Rattle.std.specs.Float.Ieee.{up, down, round, neg, add, le, eq, of_int, fits}
use Rattle.std.specs.Float.Ieee.Fits.{down_pos, and_l}
use Rattle.std.specs.Float.Ieee.Exact.{HasValue}
use Rattle.std.specs.Float.Ieee.Scale.{round_same}
use Rattle.std.specs.Float.Ieee.Back.{whole_unique}
use Rattle.binary64.specs.Operators.{◌⊕◌}
use Rattle.binary64.specs.Whole.{whole, most, whole_value}

pub minus_zero-eq : eq (neg (whole 0)) (whole 0) ≡ true
unfolding of_int neg eq
minus_zero-eq = refl

pub minus_zero-le : le (neg (whole 0)) (whole 0) ≡ true
unfolding of_int neg le
minus_zero-le = refl

sign : Float → Bool
sign nan = false
sign (inf s) = s
sign (fin s m e) = s

pub minus_zero_differs : neg (whole 0) ≡ whole 0 → ⊥
unfolding of_int neg sign
minus_zero_differs e = true≢false (ap sign e)

zero-sum : (A B c b : ℕ) → A ≡ 0 → 0 < c → B ≡ b * c
    → cond (nat_lt A B) (round binary64 false (B - A) c) (round binary64 (nat_lt B A) (A - B) c) ≡ round binary64 false b 1
zero-sum A B c b z p e = go (nat_lt A B) (nat_lt B A) (ltb→lt B A) (nltb→le A B)
  where
    no : (x y : ℕ) → x < y → y ≢ 0
    no x y h k = omega arith

    go : (t u : Bool) → (T u → B < A) → (T (not t) → B ≤ A) → cond t (round binary64 false (B - A) c) (round binary64 u (A - B) c) ≡ round binary64 false b 1
    go true u h k = round_same binary64 false (B - A) c b 1 p (zero-lt-suc 0) (omega arith)
    go false true h k = absurd (no B A (h tt) z)
    go false false h k = let l : B ≤ A = k tt in round_same binary64 false (A - B) c b 1 p (zero-lt-suc 0) (omega arith)

past_zero : (y : Float) (b : ℕ) → HasValue y false b 1 → fin true 0 (pos 0) ⊕ y ≡ whole b
unfolding add of_int
past_zero nan b q = elim q [ ]
past_zero (inf _) b q = elim q [ ]
past_zero (fin true n d) b q = absurd (true≢false q.0)
past_zero (fin false n d) b q =
    zero-sum (0 * down d) (n * up d * 1) (1 * down d) b (zero-mul (down d)) (mul-pos (zero-lt-suc 0) (down_pos d))
    (q.1 ∙ ap (λ (z : ℕ). b * z) (sym (one-mul (down d))))

pub minus_zero : neg (whole 0) ≡ fin true 0 (pos 0)
unfolding of_int neg
minus_zero = refl

pub minus_zero-add : (n : ℕ) → n ≤ most → neg (whole 0) ⊕ whole n ≡ whole n
minus_zero-add n h = subst (λ (z : Float). z ⊕ whole n ≡ whole n) (sym minus_zero) (past_zero (whole n) n (whole_value n h))

-- what `==` takes for 0.0
eq-zero_value : (t : Bool) (m : ℕ) (e : ℤ) → T (eq (fin false 0 (pos 0)) (fin t m e)) → HasValue (fin t m e) t 0 1
unfolding eq
eq-zero_value t m e h = (refl, sym (eqb→eq (0 * down e) (m * up e * 1) (and_l (0 * down e == m * up e * 1) (beq false t || 0 * down e == 0) h)))

pub eq-zero : (x : Float) → T (fits binary64 x) → T (eq (whole 0) x) → (x ≡ whole 0) ⊎ (x ≡ neg (whole 0))
unfolding of_int eq neg
eq-zero nan f t = absurd t
eq-zero (inf s) f t = absurd t
eq-zero (fin false m e) f t =
    inl (whole_unique binary64 (fin false m e) (fin false 0 (pos 0)) false 0 f (unfold fits in tt) (eq-zero_value false m e t) (refl, refl))
eq-zero (fin true m e) f t =
    inr (whole_unique binary64 (fin true m e) (fin true 0 (pos 0)) true 0 f (unfold fits in tt) (eq-zero_value true m e t) (refl, refl))

-- `count_of` tells n exactly where the weight is the float of n, from 1 to 2 ^ 53.
use Rattle.std.specs.Prelude.{◌≡◌, ℕ, Bool, true, false, ◌&&◌, T, refl, Float, Some}
use Rattle.std.proofs.Common.{sym, ap, ◌∙◌, subst, le_refl, le-leb, eq-eqb, lit≤}
use Rattle.std.proofs.lemmas.Bool.{false≢true}
use Rattle.std.specs.Float.{binary64}
use Rattle.std.specs.Float.Ieee.{le, eq, to_unsigned, fits}
use Rattle.binary64.specs.Operators.{f1, f2^53}
use Rattle.binary64.specs.Whole.{whole, most, whole_1, whole-most, whole_back, whole_injective}
use Rattle.binary64.specs.Order.{le-whole, eq-whole, eq_is}
use Rattle.binary64.specs.Range.{ranged}
use Rattle.binary64.specs.Counts.{is_count, told, count_of, Counts}

holds : {b : Bool} → b ≡ true → T b
holds e = subst T (sym e) tt

-- ---- a float that passes the test is the whole of its number

pub counted : (w : Float) → T (fits binary64 w) → is_count w ≡ true → Counts w (to_unsigned 64 w)
unfolding is_count
counted w f h = go (le f1 w) (le w f2^53) (eq (whole (to_unsigned 64 w)) w) refl refl refl h
  where
    go : (a b c : Bool) → le f1 w ≡ a → le w f2^53 ≡ b → eq (whole (to_unsigned 64 w)) w ≡ c → (a && (b && c)) ≡ true → Counts w (to_unsigned 64 w)
    go true true true p q r h =
        let s = ranged w p q in
        record { some = s.some; few = s.few; is = eq_is (to_unsigned 64 w) w s.some s.few f (holds r) }
    go true true false p q r h = absurd (false≢true h)
    go true false c p q r h = absurd (false≢true h)
    go false b c p q r h = absurd (false≢true h)

pub told_rows : (w : Float) (n : ℕ) → T (fits binary64 w) → count_of w ≡ Some n → Counts w n
unfolding count_of told
told_rows w n f h = go (is_count w) refl h
  where
    go : (b : Bool) → is_count w ≡ b → told b (to_unsigned 64 w) ≡ Some n → Counts w n
    go true p h = let e : to_unsigned 64 w ≡ n = cc in subst (Counts w) e (counted w f p)
    go false p h = absurd cc

-- ---- and a count passes it

pub counts_test : (w : Float) (n : ℕ) → Counts w n → is_count w ≡ true
unfolding is_count
counts_test w n h = rw (h.is, low, high, back)
  where
    low : le f1 (whole n) ≡ true
    low = subst (λ (x : Float). le x (whole n) ≡ true) whole_1 (le-whole 1 n (lit≤ tt) h.few ∙ le-leb 1 n h.some)

    high : le (whole n) f2^53 ≡ true
    high = subst (λ (x : Float). le (whole n) x ≡ true) whole-most (le-whole n most h.few (le_refl most) ∙ le-leb n most h.few)

    back : eq (whole (to_unsigned 64 (whole n))) (whole n) ≡ true
    back = rw (whole_back n h.few) (eq-whole n n h.few h.few ∙ eq-eqb n n refl)

pub counts_told : (w : Float) (n : ℕ) → Counts w n → count_of w ≡ Some n
unfolding count_of told
counts_told w n h = rw (counts_test w n h) (ap Some (ap (to_unsigned 64) h.is ∙ whole_back n h.few))

pub counts_unique : (w : Float) (j k : ℕ) → Counts w j → Counts w k → j ≡ k
counts_unique w j k p q = whole_injective j k p.few q.few (sym p.is ∙ q.is)

-- Counts compare as their numbers do, and a float that equals a count above 0 is that count.
use Rattle.std.specs.Prelude.{◌≡◌, ℕ, ◌*◌, ◌<◌, ◌≤◌, Bool, true, false, ◌&&◌, ◌||◌, T, ltb, ◌⊎◌, pos, ◌==◌, ◌≢◌, nat_eq, nat_le, nat_lt, refl, Float}
use Rattle.std.proofs.Common.{sym, ap, ap₂, ◌∙◌, subst, true≢false, inl, inr, zero-le, le_antisymm, mul-one, mul_comm, mul_assoc, mul_right_comm, mul-pos, le_of_lt, le_of_eq, eq-or-lt_of_le, lt_of_mul-lt-mul_right, mul-lt-mul_of_pos_right, arith, le→leb, leb→le, lt→ltb, ltb→lt, eqb→eq}
use Rattle.std.proofs.Math.Nat.{eq_of_mul-eq-mul_right}
use Rattle.std.specs.Float.{nan, inf, fin, binary64}
use Rattle.std.specs.Float.Ieee.{up, down, lt, le, eq, fits}
use Rattle.std.specs.Float.Ieee.Fits.{of_int-fits, down_pos, eq→eqb, and_l, and_r}
use Rattle.std.specs.Float.Ieee.Exact.{HasValue}
use Rattle.std.specs.Float.Ieee.Back.{whole_unique}
use Rattle.binary64.specs.Operators.{f0}
use Rattle.binary64.specs.Whole.{whole, most, whole_0, whole_value}

-- two tests that follow from each other are one
pub same_test : (p q : Bool) → (T p → T q) → (T q → T p) → p ≡ q
same_test true true f g = refl
same_test true false f g = absurd (f tt)
same_test false true f g = absurd (g tt)
same_test false false f g = refl

ltb_scale : (a b k : ℕ) → 0 < k → nat_lt (a * k) (b * k) ≡ nat_lt a b
ltb_scale a b k h =
    same_test (nat_lt (a * k) (b * k)) (nat_lt a b)
    (λ t. lt→ltb a b (lt_of_mul-lt-mul_right k (ltb→lt (a * k) (b * k) t)))
    (λ t. lt→ltb (a * k) (b * k) (mul-lt-mul_of_pos_right (ltb→lt a b t) h))

eqb_scale : (a b k : ℕ) → 0 < k → (a * k == b * k) ≡ (a == b)
eqb_scale a b k h =
    same_test (a * k == b * k) (a == b)
    (λ t. eq→eqb (eq_of_mul-eq-mul_right k h a b (eqb→eq (a * k) (b * k) t)))
    (λ t. eq→eqb (ap (λ (z : ℕ). z * k) (eqb→eq a b t)))

left : (x a d e : ℕ) → x * 1 ≡ a * d → x * e ≡ a * (d * e)
left x a d e p = ap (λ (z : ℕ). z * e) (sym (mul-one x) ∙ p) ∙ mul_assoc a d e

right : (y b d e : ℕ) → y * 1 ≡ b * e → y * d ≡ b * (d * e)
right y b d e q = ap (λ (z : ℕ). z * d) (sym (mul-one y) ∙ q) ∙ mul_assoc b e d ∙ ap (λ (z : ℕ). b * z) (mul_comm e d)

lt_values : (x y : Float) (a b : ℕ) → HasValue x false a 1 → HasValue y false b 1 → lt x y ≡ nat_lt a b
unfolding lt
lt_values nan y a b p q = elim p [ ]
lt_values (inf _) y a b p q = elim p [ ]
lt_values (fin false m e) nan a b p q = elim q [ ]
lt_values (fin false m e) (inf _) a b p q = elim q [ ]
lt_values (fin true m e) y a b p q = absurd (true≢false p.0)
lt_values (fin false m e) (fin true n d) a b p q = absurd (true≢false q.0)
lt_values (fin false m e) (fin false n d) a b p q =
    ap₂ ltb (left (m * up e) a (down e) (down d) p.1) (right (n * up d) b (down e) (down d) q.1)
    ∙ ltb_scale a b (down e * down d) (mul-pos (down_pos e) (down_pos d))

and_true : (b : Bool) → (b && true) ≡ b
and_true true = refl
and_true false = refl

eq_values : (x y : Float) (a b : ℕ) → HasValue x false a 1 → HasValue y false b 1 → eq x y ≡ (a == b)
unfolding eq
eq_values nan y a b p q = elim p [ ]
eq_values (inf _) y a b p q = elim p [ ]
eq_values (fin false m e) nan a b p q = elim q [ ]
eq_values (fin false m e) (inf _) a b p q = elim q [ ]
eq_values (fin true m e) y a b p q = absurd (true≢false p.0)
eq_values (fin false m e) (fin true n d) a b p q = absurd (true≢false q.0)
eq_values (fin false m e) (fin false n d) a b p q =
    and_true (m * up e * down d == n * up d * down e)
    ∙ ap₂ nat_eq (left (m * up e) a (down e) (down d) p.1) (right (n * up d) b (down e) (down d) q.1)
    ∙ eqb_scale a b (down e * down d) (mul-pos (down_pos e) (down_pos d))

pub lt-whole : (a b : ℕ) → a ≤ most → b ≤ most → lt (whole a) (whole b) ≡ nat_lt a b
lt-whole a b h k = lt_values (whole a) (whole b) a b (whole_value a h) (whole_value b k)

pub eq-whole : (a b : ℕ) → a ≤ most → b ≤ most → eq (whole a) (whole b) ≡ (a == b)
eq-whole a b h k = eq_values (whole a) (whole b) a b (whole_value a h) (whole_value b k)

lt-or-eq : (a b : ℕ) → (nat_lt a b || a == b) ≡ nat_le a b
lt-or-eq a b =
    same_test (nat_lt a b || a == b) (nat_le a b)
    (λ t. le→leb a b (first (nat_lt a b) (a == b) t (ltb→lt a b) (eqb→eq a b)))
    (λ t. second (eq-or-lt_of_le (leb→le a b t)))
  where
    first : (p q : Bool) → T (p || q) → (T p → a < b) → (T q → a ≡ b) → a ≤ b
    first true q t f g = le_of_lt (f tt)
    first false q t f g = le_of_eq (g t)

    or_l : (p q : Bool) → T p → T (p || q)
    or_l true q t = tt
    or_l false q t = absurd t

    or_r : (p q : Bool) → T q → T (p || q)
    or_r true q t = tt
    or_r false q t = t

    second : (a ≡ b) ⊎ (a < b) → T (nat_lt a b || a == b)
    second (inl e) = or_r (nat_lt a b) (a == b) (eq→eqb e)
    second (inr l) = or_l (nat_lt a b) (a == b) (lt→ltb a b l)

pub le-whole : (a b : ℕ) → a ≤ most → b ≤ most → le (whole a) (whole b) ≡ nat_le a b
unfolding le
le-whole a b h k = ap₂ ◌||◌ (lt-whole a b h k) (eq-whole a b h k) ∙ lt-or-eq a b

pub le-zero : (n : ℕ) → n ≤ most → le (whole n) f0 ≡ (n == 0)
le-zero n h =
    subst (λ (z : Float). le (whole n) z ≡ (n == 0)) whole_0
    (le-whole n 0 h zero-le ∙ same_test (nat_le n 0) (n == 0) (λ t. eq→eqb (le_antisymm (leb→le n 0 t) zero-le)) (λ t. le→leb n 0 (le_of_eq (eqb→eq n 0 t))))

-- ---- a float that `==` says equals a count above 0 is that count

cancel : (x y n d e : ℕ) → 0 < d → x * 1 ≡ n * d → x * e ≡ y * d → y * 1 ≡ n * e
cancel x y n d e h p q =
    mul-one y
    ∙ eq_of_mul-eq-mul_right d h y (n * e)
    (sym q ∙ ap (λ (z : ℕ). z * e) (sym (mul-one x) ∙ p) ∙ mul_right_comm n d e)

eq_value : (x y : Float) (n : ℕ) → 0 < n → HasValue x false n 1 → T (eq x y) → HasValue y false n 1
unfolding eq
eq_value nan y n h p t = elim p [ ]
eq_value (inf _) y n h p t = elim p [ ]
eq_value (fin false m e) nan n h p t = elim t [ ]
eq_value (fin false m e) (inf _) n h p t = elim t [ ]
eq_value (fin true m e) y n h p t = absurd (true≢false p.0)
eq_value (fin false m e) (fin true k d) n h p t =
    absurd (not_both (m * up e * down d) above
    (eqb→eq (m * up e * down d) 0 (and_r (m * up e * down d == k * up d * down e) (m * up e * down d == 0) t)))
  where
    above : 0 < m * up e * down d
    above = subst (λ (z : ℕ). 0 < z) (sym (left (m * up e) n (down e) (down d) p.1)) (mul-pos h (mul-pos (down_pos e) (down_pos d)))

    not_both : (a : ℕ) → 0 < a → a ≢ 0
    not_both a h e = omega arith
eq_value (fin false m e) (fin false k d) n h p t = (
  refl,
  cancel (m * up e) (k * up d) n (down e) (down d) (down_pos e) p.1
      (eqb→eq (m * up e * down d) (k * up d * down e) (and_l (m * up e * down d == k * up d * down e) true t)),
)

pub eq_is : (n : ℕ) (x : Float) → 0 < n → n ≤ most → T (fits binary64 x) → T (eq (whole n) x) → x ≡ whole n
eq_is n x h k f t = whole_unique binary64 x (whole n) false n f (of_int-fits binary64 (pos n)) (eq_value (whole n) x n h (whole_value n k) t) (whole_value n k)

-- A set of numbers below 256, a bit each in four words: what it holds after one more.
use Rattle.std.specs.Prelude.{ℕ, zero, suc, ◌+◌, ◌*◌, ◌/◌, ◌%◌, ◌^◌, ◌≤◌, ◌<◌, max, ◌≡◌, refl, ◌⊎◌, ◌≢◌, cond, eqb, Option, Some, None, [], ◌∷◌, map, replicate, get_or, take}
use Rattle.std.proofs.Common.{sym, ap, ap₂, ◌∙◌, subst, inl, inr, one-mul, arith, eq-eqb, ne_eqb, lit<, shr-shr, shl_exact, length-take}
use Rattle.std.proofs.Math.Arith.{digits_div, digits_mod}
use Rattle.std.specs.Int.Bits.{bit_and, bit_or, or_step, or_zero_l, or_zero_r, shifted_half, shifted_even}
use Rattle.std.proofs.lemmas.Nat.{and_mask}
use Rattle.std.proofs.lemmas.List.{get_or_past, get_or-take}
use Rattle.counting.specs.Count.{is, is_same, is_other, same?}
use Rattle.seen.specs.declared.Seen.{Seen}

-- no number
unfoldable pub none : Seen
none = record { words = replicate 4 0 }

-- word q, of four
unfoldable pub word_of : Seen → ℕ → ℕ
word_of z q = get_or (take 4 z.words) q 0

-- digit k of a word
unfoldable pub digit : ℕ → ℕ → ℕ
digit w k = w / 2 ^ k % 2

-- what e adds to word q
unfoldable pub bit_of : ℕ → ℕ → ℕ
bit_of e q = cond (eqb (e / 64) q) (2 ^ (e % 64)) 0

-- e in the set
unfoldable pub with : Seen → ℕ → Seen
with z e = record { words = map (λ q. bit_or (word_of z q) (bit_of e q)) (0 ∷ 1 ∷ 2 ∷ 3 ∷ []) }

-- how often c is in the set: once or not at all
unfoldable pub times : Seen → ℕ → ℕ
times z c = digit (word_of z (c / 64)) (c % 64)

-- the set holds what f counts, and f counts nothing twice
abbrev pub Holds : Seen → (ℕ → ℕ) → Type 0
Holds z f = (c : ℕ) → times z c ≡ f c

-- a set that holds what f counts, or that f counts some number twice
unfoldable pub Marked : Option Seen → (ℕ → ℕ) → Type 0
Marked (Some z) f = Holds z f
Marked None f = (c : ℕ) × (2 ≤ f c)

-- ---- digits

digit-next : (w k : ℕ) → digit w (suc k) ≡ digit (w / 2) k
unfolding digit
digit-next w k = let e : suc k ≡ 1 + k = omega arith in ap (λ j. w / 2 ^ j % 2) e ∙ ap (λ x. x % 2) (sym (shr-shr w 1 k))

digit_first : (w : ℕ) → digit w 0 ≡ w % 2
unfolding digit
digit_first w = omega arith

digit-few : (w k : ℕ) → digit w k ≤ 1
unfolding digit
digit-few w k = omega arith

digit-zero : (k : ℕ) → digit 0 k ≡ 0
digit-zero zero = digit_first 0
digit-zero (suc k) = digit-next 0 k ∙ digit-zero k

digit_or : (k a b : ℕ) → digit (bit_or a b) k ≡ max (digit a k) (digit b k)
digit_or zero a b =
    digit_first (bit_or a b) ∙ ap (λ x. x % 2) (or_step a b) ∙ digits_mod (bit_or (a / 2) (b / 2)) (omega arith)
    ∙ ap₂ max (sym (digit_first a)) (sym (digit_first b))
digit_or (suc k) a b =
    let h : bit_or a b / 2 ≡ bit_or (a / 2) (b / 2) = ap (λ x. x / 2) (or_step a b) ∙ digits_div (bit_or (a / 2) (b / 2)) (omega arith) in
    digit-next (bit_or a b) k ∙ ap (λ x. digit x k) h ∙ digit_or k (a / 2) (b / 2) ∙ ap₂ max (sym (digit-next a k)) (sym (digit-next b k))

power-half : (k : ℕ) → 2 ^ suc k / 2 ≡ 2 ^ k
power-half k = ap (λ x. x / 2) (sym (one-mul (2 ^ suc k))) ∙ shifted_half 1 k ∙ one-mul (2 ^ k)

power-even : (k : ℕ) → 2 ^ suc k % 2 ≡ 0
power-even k = ap (λ x. x % 2) (sym (one-mul (2 ^ suc k))) ∙ shifted_even 1 k

is-next : (j k : ℕ) → is j k ≡ is (suc j) (suc k)
is-next j k = go (same? j k)
  where
    go : (j ≡ k) ⊎ (j ≢ k) → is j k ≡ is (suc j) (suc k)
    go (inl e) = is_same j k e ∙ sym (is_same (suc j) (suc k) (ap suc e))
    go (inr e) = is_other j k e ∙ sym (is_other (suc j) (suc k) (λ w. e (omega arith)))

digit-power : (j k : ℕ) → digit (2 ^ k) j ≡ is j k
digit-power zero zero = digit_first 1 ∙ sym (is_same 0 0 refl)
digit-power zero (suc k) = digit_first (2 ^ suc k) ∙ power-even k ∙ sym (is_other 0 (suc k) (λ w. omega arith))
digit-power (suc j) zero = digit-next 1 j ∙ digit-zero j ∙ sym (is_other (suc j) 0 (λ w. omega arith))
digit-power (suc j) (suc k) = digit-next (2 ^ suc k) j ∙ ap (λ x. digit x j) (power-half k) ∙ digit-power j k ∙ is-next j k

-- ---- words

word_none : (q : ℕ) → word_of none q ≡ 0
unfolding word_of none
word_none zero = refl
word_none (suc zero) = refl
word_none (suc (suc zero)) = refl
word_none (suc (suc (suc zero))) = refl
word_none (suc (suc (suc (suc q)))) = refl

bit_here : (e q : ℕ) → e / 64 ≡ q → 2 ^ (e % 64) ≡ bit_of e q
unfolding bit_of
bit_here e q h = sym (ap (λ b. cond b (2 ^ (e % 64)) 0) (eq-eqb (e / 64) q h))

bit_away : (e q : ℕ) → e / 64 ≢ q → 0 ≡ bit_of e q
unfolding bit_of
bit_away e q h = sym (ap (λ b. cond b (2 ^ (e % 64)) 0) (ne_eqb (e / 64) q h))

word_low : (z : Seen) (e q : ℕ) → q < 4 → word_of (with z e) q ≡ bit_or (word_of z q) (bit_of e q)
unfolding word_of with
word_low z e zero h = refl
word_low z e (suc zero) h = refl
word_low z e (suc (suc zero)) h = refl
word_low z e (suc (suc (suc zero))) h = refl
word_low z e (suc (suc (suc (suc q)))) h = absurd (omega arith)

word_with : (z : Seen) (e q : ℕ) → e < 256 → word_of (with z e) q ≡ bit_or (word_of z q) (bit_of e q)
unfolding word_of with
word_with z e zero h = refl
word_with z e (suc zero) h = refl
word_with z e (suc (suc zero)) h = refl
word_with z e (suc (suc (suc zero))) h = refl
word_with z e (suc (suc (suc (suc q)))) h =
    let far = get_or_past (take 4 z.words) (suc (suc (suc (suc q)))) 0 (omega (arith, length-take 4 z.words)) in
    rw (far, or_zero_l (bit_of e (suc (suc (suc (suc q)))))) (bit_away e (suc (suc (suc (suc q)))) (λ w. omega arith))

digit-bit : (e c : ℕ) → digit (bit_of e (c / 64)) (c % 64) ≡ is c e
digit-bit e c = go (same? (e / 64) (c / 64)) (same? (c % 64) (e % 64))
  where
    go : (e / 64 ≡ c / 64) ⊎ (e / 64 ≢ c / 64) → (c % 64 ≡ e % 64) ⊎ (c % 64 ≢ e % 64) → digit (bit_of e (c / 64)) (c % 64) ≡ is c e
    go (inl h) (inl k) =
        ap (λ w. digit w (c % 64)) (sym (bit_here e (c / 64) h)) ∙ digit-power (c % 64) (e % 64)
        ∙ is_same (c % 64) (e % 64) k ∙ sym (is_same c e (omega arith))
    go (inl h) (inr k) =
        ap (λ w. digit w (c % 64)) (sym (bit_here e (c / 64) h)) ∙ digit-power (c % 64) (e % 64) ∙ is_other (c % 64) (e % 64) k
        ∙ sym (is_other c e (λ w. k (ap (λ x. x % 64) w)))
    go (inr h) k =
        ap (λ w. digit w (c % 64)) (sym (bit_away e (c / 64) h)) ∙ digit-zero (c % 64) ∙ sym (is_other c e (λ w. h (ap (λ x. x / 64) (sym w))))

-- ---- what the code computes

pub word_at : (z : Seen) (e k : ℕ) → e / 64 ≡ k → k < 4 → get_or z.words k 0 ≡ word_of z (e / 64)
unfolding word_of
word_at z e k h l = rw h (sym (get_or-take 4 z.words k 0 l))

pub has_is : (z : Seen) (e : ℕ) {w : ℕ} → w ≡ word_of z (e / 64) → eqb (bit_and (w / 2 ^ (e % 64)) 1) 1 ≡ eqb (times z e) 1
unfolding times digit
has_is z e {w} h = ap (λ x. eqb x 1) (and_mask (w / 2 ^ (e % 64)) 1 ∙ ap (λ x. x / 2 ^ (e % 64) % 2) h)

bit_is : (e q : ℕ) → e / 64 ≡ q → (1 * 2 ^ (e % 64)) % 2 ^ 64 ≡ bit_of e q
bit_is e q h = shl_exact {a = 1} 1 (e % 64) 64 (lit< tt) (omega arith) ∙ one-mul (2 ^ (e % 64)) ∙ bit_here e q h

-- e's word has its bit
pub word_gains : (z : Seen) (e q : ℕ) → q < 4 → e / 64 ≡ q → bit_or (get_or z.words q 0) (1 * 2 ^ (e % 64) % 2 ^ 64) ≡ bit_or (word_of z q) (bit_of e q)
unfolding word_of
word_gains z e q l h = rw (bit_is e q h, get_or-take 4 z.words q 0 l)

-- a word that e is not in stays
pub word_stays : (z : Seen) (e q : ℕ) → q < 4 → e / 64 ≢ q → get_or z.words q 0 ≡ bit_or (word_of z q) (bit_of e q)
unfolding word_of
word_stays z e q l h = rw (← bit_away e q h, or_zero_r (word_of z q)) (sym (get_or-take 4 z.words q 0 l))

-- ---- the set

pub times_none : Holds none (λ _. 0)
unfolding times
times_none c = ap (λ w. digit w (c % 64)) (word_none (c / 64)) ∙ digit-zero (c % 64)

pub times-few : (z : Seen) (c : ℕ) → times z c ≤ 1
unfolding times
times-few z c = digit-few (word_of z (c / 64)) (c % 64)

times-with : (z : Seen) (e c : ℕ) → e < 256 → times (with z e) c ≡ max (times z c) (is c e)
unfolding times
times-with z e c h =
    ap (λ w. digit w (c % 64)) (word_with z e (c / 64) h) ∙ digit_or (c % 64) (word_of z (c / 64)) (bit_of e (c / 64))
    ∙ ap (max (times z c)) (digit-bit e c)

-- a number below 256 is in the set with e where it was in it, or is e; larger ones are not kept
pub with_low : (z : Seen) (e c : ℕ) → c < 256 → times (with z e) c ≡ max (times z c) (is c e)
unfolding times
with_low z e c h =
    ap (λ w. digit w (c % 64)) (word_low z e (c / 64) (omega arith)) ∙ digit_or (c % 64) (word_of z (c / 64)) (bit_of e (c / 64))
    ∙ ap (max (times z c)) (digit-bit e c)

-- a number that was not there is there once more
pub with-new : (z : Seen) (e : ℕ) → e < 256 → times z e ≢ 1 → Holds (with z e) (λ c. times z c + is c e)
with-new z e h new c = go (same? c e)
  where
    go : (c ≡ e) ⊎ (c ≢ e) → times (with z e) c ≡ times z c + is c e
    go (inl w) =
        let a = times-with z e c h in
        let b = is_same c e w in
        let d : times z c ≡ times z e = ap (times z) w in
        let f = times-few z e in
        omega arith
    go (inr w) = let a = times-with z e c h in let b = is_other c e w in omega arith

pub marked_apart : (f : ℕ → ℕ) {r : Option Seen} {z : Seen} → Marked r f → r ≡ Some z → Holds z f
unfolding Marked
marked_apart f {r} {z} m e = let a : Marked (Some z) f = subst (λ r. Marked r f) e m in a

pub marked_twice : (f : ℕ → ℕ) {r : Option Seen} → Marked r f → r ≡ None → (c : ℕ) × (2 ≤ f c)
unfolding Marked
marked_twice f m e = let a : Marked None f = subst (λ r. Marked r f) e m in a

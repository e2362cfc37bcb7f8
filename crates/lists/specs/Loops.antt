-- Loops over the numbers below n: tests that leave at the first that fails, and sums. A list is tested and summed place by place.
use Prim.Native.Nat.{ℕ, zero, suc, ◌+◌, ◌≤◌, ◌<◌}
use Rattle.std.specs.Prelude.{◌≡◌, ◌⊎◌, ◌≢◌, Bool, ◌&&◌, T, length, get_or, drop}
use Rattle.std.proofs.Math.Path.{refl, sym, ap}
use Rattle.std.proofs.Common.{◌∙◌, subst, inl, inr, add-one, arith}
use Rattle.std.proofs.Math.Bool.{true, false}
use mathlib.Core.List.{List, [], ◌∷◌}
use Rattle.std.specs.List.{list_all}
use Rattle.std.specs.Float.Ieee.Bits.{is_true}
use Rattle.rules.specs.Lists.{every, up_from, occurs}
use Rattle.counting.specs.Count.{same?, is}
use Rattle.counting.specs.Sums.{over, occurs-over, sum_to}
use Rattle.laws.specs.Invariant.Height.{sum_first}
use Rattle.laws.specs.Check.Passing.{every_up}

-- ---- tests

-- the tests of the numbers below i have passed
abbrev pub Passed : (ℕ → Bool) → ℕ → Type 0
Passed f i = (k : ℕ) → k < i → f k ≡ true

module _ (f : ℕ → Bool) where
  pub passed_all : (n i : ℕ) → Passed f i → n ≤ i → true ≡ every f (up_from n 0)
  passed_all n i h q = sym (is_true (every f (up_from n 0)) (every_up f n 0 (λ c l. subst T (sym (h c (omega arith))) tt)))

  fails_from : (n j i : ℕ) → j ≤ i → i < j + n → f i ≡ false → every f (up_from n j) ≡ false
  unfolding every up_from
  fails_from zero j i a b e = absurd (omega arith)
  fails_from (suc n) j i a b e = go (same? i j) (λ q. fails_from n (suc j) i q (omega arith) e)
    where
      last : (x : Bool) → every f (up_from n (suc j)) ≡ false → x && every f (up_from n (suc j)) ≡ false
      last true q = q
      last false q = refl

      go : (i ≡ j) ⊎ (i ≢ j) → (suc j ≤ i → every f (up_from n (suc j)) ≡ false) → f j && every f (up_from n (suc j)) ≡ false
      go (inl w) ih = rw (ap f (sym w) ∙ e)
      go (inr w) ih = last (f j) (ih (omega arith))

  pub fails_at : (n i : ℕ) {b : Bool} → i < n → b ≡ f i → b ≡ false → false ≡ every f (up_from n 0)
  fails_at n i l e t = sym (fails_from n 0 i (omega arith) (omega arith) (sym e ∙ t))

module _ {A : Type 0} (f : A → Bool) (d : A) where
  shifted : (x : A) (xs : List A) (n j : ℕ) → every (λ k. f (get_or (x ∷ xs) k d)) (up_from n (suc j)) ≡ every (λ k. f (get_or xs k d)) (up_from n j)
  unfolding every up_from
  shifted x xs zero j = refl
  shifted x xs (suc n) j = ap (λ b. f (get_or xs j d) && b) (shifted x xs n (suc j))

  -- a list's tests, place by place
  pub every-places : (xs : List A) → every f xs ≡ every (λ k. f (get_or xs k d)) (up_from (length xs) 0)
  unfolding every up_from
  every-places [] = refl
  every-places (x ∷ xs) = ap (λ b. f x && b) (every-places xs ∙ sym (shifted x xs (length xs) 0))

  pub placed : (xs : List A) {n : ℕ} → n ≡ length xs → every (λ k. f (get_or xs k d)) (up_from n 0) ≡ every f xs
  placed xs e = rw e (sym (every-places xs))

-- ---- what `all` answers

pub every_all : {A : Type 0} (f : A → Bool) (l : List A) → list_all f l ≡ every f l
unfolding every
every_all f [] = refl
every_all f (x ∷ l) = ap (λ b. f x && b) (every_all f l)

-- ---- places

pub drop_at : (l : List ℕ) (k : ℕ) → k < length l → drop k l ≡ get_or l k 0 ∷ drop (suc k) l
drop_at [] k h = absurd (omega arith)
drop_at (x ∷ l) zero h = refl
drop_at (x ∷ l) (suc k) h = drop_at l k (omega arith)

-- ---- sums

pub sum-none : (g : ℕ → ℕ) → 0 ≡ sum_to g 0
unfolding sum_to
sum-none g = refl

pub sum_more : (g : ℕ → ℕ) (i : ℕ) {a b : ℕ} → a ≡ sum_to g i → b ≡ g i → a + b ≡ sum_to g (i + 1)
unfolding sum_to
sum_more g i e h = rw (add-one i, e, h)

pub sum_end : (g : ℕ → ℕ) (n i : ℕ) {a : ℕ} → a ≡ sum_to g i → i ≤ n → n ≤ i → a ≡ sum_to g n
sum_end g n i e p q = let w : i ≡ n = omega arith in e ∙ ap (sum_to g) w

pub sum_grows : (g : ℕ → ℕ) (n i : ℕ) → i ≤ n → sum_to g i ≤ sum_to g n
unfolding sum_to
sum_grows g zero i h = let e : i ≡ 0 = omega arith in subst (λ j. sum_to g j ≤ 0) (sym e) (omega arith)
sum_grows g (suc n) i h = go (same? i (suc n)) (sum_grows g n i)
  where
    go : (i ≡ suc n) ⊎ (i ≢ suc n) → (i ≤ n → sum_to g i ≤ sum_to g n) → sum_to g i ≤ sum_to g n + g n
    go (inl e) ih = subst (λ j. sum_to g j ≤ sum_to g n + g n) (sym e) (omega arith)
    go (inr e) ih = let a = ih (omega arith) in omega arith

-- a list's numbers, place by place
pub over-places : (w : ℕ → ℕ) (l : List ℕ) → over w l ≡ sum_to (λ k. w (get_or l k 0)) (length l)
unfolding over sum_to
over-places w [] = refl
over-places w (x ∷ l) = let a = over-places w l in let b = sum_first (λ k. w (get_or (x ∷ l) k 0)) (length l) in omega arith

pub occurs-places : (c : ℕ) (l : List ℕ) → occurs c l ≡ sum_to (λ k. is c (get_or l k 0)) (length l)
occurs-places c l = occurs-over c l ∙ over-places (is c) l

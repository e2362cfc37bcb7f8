-- A sum over a list, number by number.
use Rattle.std.specs.Prelude.{ℕ, zero, suc, ◌+◌, ◌*◌, ◌<◌, ◌≡◌, refl, ◌⊎◌, ◌≢◌, List, [], ◌∷◌}
use Rattle.std.proofs.Common.{sym, ap, ◌∙◌, inl, inr, zero-mul, one-mul, add-mul, arith}
use Rattle.rules.specs.Lists.{occurs}
use Rattle.counting.specs.Count.{is, is_same, is_other, same?}
use Rattle.counting.specs.Sums.{over, occurs-cons, sum_to, sum_same, sum-none, sum-change, occurs_later, occurs_here}
use Rattle.counting.specs.Only.{only, only_at, only_off}

-- ---- a sum over a list, number by number

pub sum_plus : (f g : ℕ → ℕ) (n : ℕ) → sum_to (λ k. f k + g k) n ≡ sum_to f n + sum_to g n
unfolding sum_to
sum_plus f g zero = refl
sum_plus f g (suc n) = let h = sum_plus f g n in omega arith

pub sum-only : (v x n : ℕ) → x < n → sum_to (λ c. only v x c) n ≡ v
sum-only v x n h =
    let a = sum-change (λ _. 0) (λ c. only v x c) x n h (λ k q d. only_off v x k d) in
    let b = sum-none (λ _. 0) n (λ k q. refl) in
    let c = only_at v x x refl in
    omega arith

pub over-sum : (g : ℕ → ℕ) (n : ℕ) (l : List ℕ) → ((c : ℕ) → 0 < occurs c l → c < n) → over g l ≡ sum_to (λ c. occurs c l * g c) n
unfolding over occurs
over-sum g n [] h = sym (sum-none (λ c. 0 * g c) n (λ k q. omega arith))
over-sum g n (x ∷ l) h =
    let a : over g l ≡ sum_to (λ c. occurs c l * g c) n = over-sum g n l (λ c o. h c (occurs_later c x l o)) in
    let b : sum_to (λ c. only (g x) x c) n ≡ g x = sum-only (g x) x n (h x (occurs_here x l)) in
    let d : sum_to (λ c. occurs c (x ∷ l) * g c) n ≡ sum_to (λ c. only (g x) x c + occurs c l * g c) n =
    sum_same (λ c. only (g x) x c + occurs c l * g c) (λ c. occurs c (x ∷ l) * g c) n (λ c q. step c) in
    let e = sum_plus (λ c. only (g x) x c) (λ c. occurs c l * g c) n in
    let r : g x + over g l ≡ sum_to (λ c. occurs c (x ∷ l) * g c) n = omega arith in
    r
  where
    step : (c : ℕ) → occurs c (x ∷ l) * g c ≡ only (g x) x c + occurs c l * g c
    step c = ap (λ z. z * g c) (occurs-cons c x l) ∙ add-mul (is c x) (occurs c l) (g c) ∙ ap (λ z. z + occurs c l * g c) (go (same? c x))
      where
        go : (c ≡ x) ⊎ (c ≢ x) → is c x * g c ≡ only (g x) x c
        go (inl e) = ap (λ z. z * g c) (is_same c x e) ∙ one-mul (g c) ∙ ap g e ∙ sym (only_at (g x) x c e)
        go (inr e) = ap (λ z. z * g c) (is_other c x e) ∙ zero-mul (g c) ∙ sym (only_off (g x) x c e)

pub sum-times : (f : ℕ → ℕ) (v n : ℕ) → sum_to (λ k. f k * v) n ≡ sum_to f n * v
unfolding sum_to
sum-times f v zero = sym (zero-mul v)
sum-times f v (suc n) = let h = sum-times f v n in let p = add-mul (sum_to f n) (f n) v in omega arith

-- The rows of a batch, and those of it that are left.
use Prim.Native.Nat.{ℕ, suc, ◌+◌, ◌-◌, ◌*◌, ◌≤◌, ◌<◌}
use Rattle.std.specs.Prelude.{◌≡◌, List, [], ◌∷◌, length, Float}
use Rattle.std.proofs.Math.Path.{refl, ap}
use Rattle.std.proofs.Common.{sym, ◌∙◌, add-mul, one-mul, zero-mul, mul-le-mul_right, length-drop, length-take-le}
use native.Mathlib.Omega.{arith}
use Rattle.std.proofs.Math.Numerals.{unary_clauses}
use Rattle.std.proofs.Math.ListN.{take, drop}
use Rattle.std.proofs.Math.Seq.{drop-drop}
use Rattle.head.specs.declared.Settings.{Settings}
use Rattle.rules.specs.Lists.{rows_of}

unfoldable pub row_of : Settings → List Float → ℕ → List Float
row_of s xs k = take s.dim (drop (k * s.dim) xs)

-- it is there, if so many rows are
pub row_there : (s : Settings) (count k n : ℕ) → k < count → count * s.dim ≤ n → (k + 1) * s.dim ≤ n
row_there s count k n h l = let below = mul-le-mul_right s.dim (let one : k + 1 ≤ count = omega arith in one) in omega arith

pub row_wide : (s : Settings) (xs : List Float) (k : ℕ) → (k + 1) * s.dim ≤ length xs → length (row_of s xs k) ≡ s.dim
unfolding row_of
row_wide s xs k h =
    let end = add-mul k 1 s.dim ∙ ap (λ n. k * s.dim + n) (one-mul s.dim) in
    let left = length-drop (k * s.dim) xs in
    length-take-le s.dim (drop (k * s.dim) xs) (let l : s.dim ≤ length (drop (k * s.dim) xs) = omega arith in l)

-- as the code cuts it out
pub row_cut : (s : Settings) (xs : List Float) (k : ℕ) → take (k * s.dim + s.dim - k * s.dim) (drop (k * s.dim) xs) ≡ row_of s xs k
unfolding row_of
row_cut s xs k = let long : k * s.dim + s.dim - k * s.dim ≡ s.dim = omega arith in ap (λ n. take n (drop (k * s.dim) xs)) long

-- of so many rows, those from row k on
unfoldable pub rows_from : Settings → List Float → ℕ → ℕ → List (List Float)
rows_from s xs count k = rows_of (count - k) s.dim (drop (k * s.dim) xs)

module _ (s : Settings) (xs : List Float) (count : ℕ) where
  pub rows_all : rows_from s xs count 0 ≡ rows_of count s.dim xs
  unfolding rows_from
  rows_all = simp (unary_clauses, zero-mul) refl

  pub rows_next : (k : ℕ) → k < count → rows_from s xs count k ≡ row_of s xs k ∷ rows_from s xs count (k + 1)
  unfolding rows_from rows_of row_of
  rows_next k h =
      let left : count - k ≡ suc (count - (k + 1)) = omega arith in
      let next : drop s.dim (drop (k * s.dim) xs) ≡ drop ((k + 1) * s.dim) xs =
      drop-drop s.dim (k * s.dim) xs ∙ ap (λ n. drop n xs) (sym (add-mul k 1 s.dim ∙ ap (λ n. k * s.dim + n) (one-mul s.dim))) in
      ap (λ n. rows_of n s.dim (drop (k * s.dim) xs)) left ∙ ap (λ l. take s.dim (drop (k * s.dim) xs) ∷ rows_of (count - (k + 1)) s.dim l) next

  pub rows_none : (k : ℕ) → count ≤ k → rows_from s xs count k ≡ []
  unfolding rows_from rows_of
  rows_none k h = let none : count - k ≡ 0 = omega arith in ap (λ n. rows_of n s.dim (drop (k * s.dim) xs)) none

-- Small functions on lists.
use Rattle.std.specs.Prelude.{ℕ, zero, suc, Bool, true, false, cond, ◌&&◌, List, [], ◌∷◌, ◌++◌, eqb, take, drop}

module _ {A : Type 0} where
  -- the element at i changed by f; a list that ends before stays
  unfoldable pub change_at : (A → A) → ℕ → List A → List A
  change_at f i [] = []
  change_at f zero (x ∷ xs) = f x ∷ xs
  change_at f (suc i) (x ∷ xs) = x ∷ change_at f i xs

  -- one more at the end
  unfoldable pub snoc : List A → A → List A
  snoc xs a = xs ++ (a ∷ [])

  -- the elements whose flag is up
  unfoldable pub keep : List Bool → List A → List A
  keep bs [] = []
  keep [] (x ∷ xs) = []
  keep (true ∷ bs) (x ∷ xs) = x ∷ keep bs xs
  keep (false ∷ bs) (x ∷ xs) = keep bs xs

  unfoldable pub every : (A → Bool) → List A → Bool
  every f [] = true
  every f (x ∷ xs) = f x && every f xs

  unfoldable pub concat : List (List A) → List A
  concat [] = []
  concat (l ∷ ls) = l ++ concat ls

  -- f 0, f 1 .. f (n − 1)
  unfoldable pub table : (ℕ → A) → ℕ → List A
  table f zero = []
  table f (suc n) = snoc (table f n) (f n)

  -- k rows of n
  unfoldable pub rows_of : ℕ → ℕ → List A → List (List A)
  rows_of zero n l = []
  rows_of (suc k) n l = take n l ∷ rows_of k n (drop n l)

-- the flags turned over
unfoldable pub flip : List Bool → List Bool
flip [] = []
flip (true ∷ bs) = false ∷ flip bs
flip (false ∷ bs) = true ∷ flip bs

-- how many flags are up
unfoldable pub count_up : List Bool → ℕ
count_up [] = 0
count_up (true ∷ bs) = suc (count_up bs)
count_up (false ∷ bs) = count_up bs

-- i, i + 1 .. n of them
unfoldable pub up_from : ℕ → ℕ → List ℕ
up_from zero i = []
up_from (suc n) i = i ∷ up_from n (suc i)

-- how often i stands in a list
unfoldable pub occurs : ℕ → List ℕ → ℕ
occurs i [] = 0
occurs i (j ∷ js) = cond (eqb i j) (suc (occurs i js)) (occurs i js)

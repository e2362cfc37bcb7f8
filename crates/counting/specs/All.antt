-- What holds of every member of a list.
use Prim.Native.Nat.{ℕ, zero, suc}
use Rattle.std.specs.Prelude.{Bool, true, false, get_or, set, take, drop}
use mathlib.Core.List.{List, [], ◌∷◌, ◌++◌, map, reverse_aux}
use Rattle.rules.specs.Lists.{change_at, keep}

module _ {A : Type 0} where
  abbrev pub All : (A → Type 0) → List A → Type 0
  All Q [] = Unit
  All Q (x ∷ xs) = Q x × All Q xs

module _ {A : Type 0} (Q : A → Type 0) where
  pub all-at : (xs : List A) (i : ℕ) (d : A) → All Q xs → Q d → Q (get_or xs i d)
  all-at [] i d h q = q
  all-at (x ∷ xs) zero d h q = h.0
  all-at (x ∷ xs) (suc i) d h q = all-at xs i d h.1 q

  pub all_append : (xs ys : List A) → All Q xs → All Q ys → All Q (xs ++ ys)
  all_append [] ys h k = k
  all_append (x ∷ xs) ys h k = (h.0, all_append xs ys h.1 k)

  pub all-change : (f : A → A) → ((x : A) → Q x → Q (f x)) → (i : ℕ) (xs : List A) → All Q xs → All Q (change_at f i xs)
  unfolding change_at
  all-change f p i [] h = tt
  all-change f p zero (x ∷ xs) h = (p x h.0, h.1)
  all-change f p (suc i) (x ∷ xs) h = (h.0, all-change f p i xs h.1)

  pub all_set : (xs : List A) (i : ℕ) (v : A) → Q v → All Q xs → All Q (set xs i v)
  all_set [] i v q h = tt
  all_set (x ∷ xs) zero v q h = (q, h.1)
  all_set (x ∷ xs) (suc i) v q h = (h.0, all_set xs i v q h.1)

  pub all_keep : (bs : List Bool) (xs : List A) → All Q xs → All Q (keep bs xs)
  unfolding keep
  all_keep bs [] h = tt
  all_keep [] (x ∷ xs) h = tt
  all_keep (true ∷ bs) (x ∷ xs) h = (h.0, all_keep bs xs h.1)
  all_keep (false ∷ bs) (x ∷ xs) h = all_keep bs xs h.1

  pub all_back : (xs ys : List A) → All Q xs → All Q ys → All Q (reverse_aux xs ys)
  all_back [] ys h k = k
  all_back (x ∷ xs) ys h k = all_back xs (x ∷ ys) h.1 (h.0, k)

  pub all_take : (n : ℕ) (xs : List A) → All Q xs → All Q (take n xs)
  all_take zero xs h = tt
  all_take (suc n) [] h = tt
  all_take (suc n) (x ∷ xs) h = (h.0, all_take n xs h.1)

  pub all_drop : (n : ℕ) (xs : List A) → All Q xs → All Q (drop n xs)
  all_drop zero xs h = h
  all_drop (suc n) [] h = tt
  all_drop (suc n) (x ∷ xs) h = all_drop n xs h.1

pub all_map : {A B : Type 0} (Q : B → Type 0) (f : A → B) → ((x : A) → Q (f x)) → (xs : List A) → All Q (map f xs)
all_map Q f p [] = tt
all_map Q f p (x ∷ xs) = (p x, all_map Q f p xs)

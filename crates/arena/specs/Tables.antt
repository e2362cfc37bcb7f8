-- Tables by their elements: the same, one changed, one more.
use Prim.Native.Nat.{ℕ, zero, suc, ◌+◌, ◌<◌}
use Rattle.std.specs.Prelude.{◌≡◌, length}
use Rattle.std.proofs.Math.Path.{refl, sym, ap, ap₂}
use Rattle.std.proofs.Common.{◌∙◌, eq-or-lt_of_le, arith}
use mathlib.Core.List.{List, [], ◌∷◌, ◌++◌, map, append_assoc}
use Rattle.std.proofs.Math.Logic.{⊎_elim}
use Rattle.std.proofs.Math.Numerals.{add-one}
use Rattle.rules.specs.Lists.{change_at, snoc, concat, table}
use Rattle.rules.specs.ListLaws.{length-table}
use Rattle.stretch.specs.Stretches.{append-none}

module _ {A : Type 0} where
  pub table_same : (f g : ℕ → A) (n : ℕ) → ((i : ℕ) → i < n → f i ≡ g i) → table f n ≡ table g n
  unfolding table
  table_same f g zero h = refl
  table_same f g (suc n) h = ap₂ snoc (table_same f g n (λ i l. h i (omega arith))) (h n (omega arith))

  pub table_more : (f : ℕ → A) (n : ℕ) → table f (n + 1) ≡ snoc (table f n) (f n)
  unfolding table
  table_more f n = rw add-one

  -- the change of an element of the first list of two
  change_front : (k : A → A) (i : ℕ) (xs ys : List A) → i < length xs → change_at k i (xs ++ ys) ≡ change_at k i xs ++ ys
  unfolding change_at
  change_front k i [] ys h = absurd (omega arith)
  change_front k zero (x ∷ xs) ys h = refl
  change_front k (suc i) (x ∷ xs) ys h = ap (λ (l : List A). x ∷ l) (change_front k i xs ys (omega arith))

  change_last : (k : A → A) (xs : List A) (a : A) → change_at k (length xs) (xs ++ (a ∷ [])) ≡ xs ++ (k a ∷ [])
  unfolding change_at
  change_last k [] a = refl
  change_last k (x ∷ xs) a = ap (λ (l : List A). x ∷ l) (change_last k xs a)

  pub table-change : (k : A → A) (f g : ℕ → A) (n i : ℕ) → i < n → g i ≡ k (f i) → ((j : ℕ) → j < n → ¬ (j ≡ i) → g j ≡ f j)
      → table g n ≡ change_at k i (table f n)
  unfolding table snoc
  table-change k f g zero i h e o = elim h [ ]
  table-change k f g (suc n) i h e o =
      ⊎_elim (λ (z : i ≡ n).
      let front : table g n ≡ table f n = table_same g f n (λ j l. o j (omega arith) (λ y. omega arith)) in
      let last : g n ≡ k (f n) = rw (sym z) e in
      ap₂ (λ xs a. xs ++ (a ∷ [])) front last
      ∙ sym (ap (λ m. change_at k m (table f n ++ (f n ∷ []))) (z ∙ sym (length-table f n)) ∙ change_last k (table f n) (f n)))
      (λ (l : i < n).
      ap₂ (λ xs a. xs ++ (a ∷ [])) (table-change k f g n i l e (λ j q d. o j (omega arith) d)) (o n (omega arith) (λ y. omega arith))
      ∙ sym (change_front k i (table f n) (f n ∷ []) (rw (length-table f n) l)))
      (eq-or-lt_of_le (omega arith))

  -- pieces one after the other: one more
  pub concat-snoc : (ls : List (List A)) (l : List A) → concat (snoc ls l) ≡ concat ls ++ l
  unfolding concat snoc
  concat-snoc [] l = append-none l
  concat-snoc (m ∷ ls) l = ap (λ k. m ++ k) (concat-snoc ls l) ∙ sym (append_assoc m (concat ls) l)

pub map-table : {A B : Type 0} (h : A → B) (f : ℕ → A) (n : ℕ) → map h (table f n) ≡ table (λ i. h (f i)) n
unfolding table snoc
map-table h f zero = refl
map-table h f (suc n) = map_snoc (table f n) ∙ ap (λ l. l ++ (h (f n) ∷ [])) (map-table h f n)
  where
    map_snoc : (l : List _) → map h (l ++ (f n ∷ [])) ≡ map h l ++ (h (f n) ∷ [])
    map_snoc [] = refl
    map_snoc (x ∷ l) = ap (λ m. h x ∷ m) (map_snoc l)

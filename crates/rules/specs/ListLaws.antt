-- Laws of the small functions on lists: tables, lists of equally long pieces, and rows cut from a list.
use Prim.Native.Nat.{ℕ, zero, suc, ◌+◌, ◌-◌, ◌*◌, ◌≤◌, ◌<◌}
use Rattle.std.specs.Prelude.{◌≡◌, Bool, true, false, ◌⊎◌, ltb, replicate}
use Rattle.std.proofs.Math.Path.{refl, sym, ap}
use Rattle.std.proofs.Common.{◌∙◌, inl, inr, ltb-true, ltb-false, eq-or-lt_of_le, zero-mul, take_at, ext_get_or}
use mathlib.Core.List.{List, [], ◌∷◌, ◌++◌, map, append_assoc}
use Rattle.std.proofs.Math.Logic.{⊎_elim}
use Rattle.std.proofs.Math.Nat.{suc-mul, add_comm}
use native.Mathlib.Omega.{arith}
use Rattle.std.proofs.Math.ListN.{length, get_or, take, drop, length-append, get_or-append}
use Rattle.std.proofs.lemmas.List.{length-replicate}
use Rattle.std.proofs.Math.Seq.{drop_at, drop-drop, get_or-append_seam}
use Rattle.rules.specs.Lists.{snoc, concat, table, rows_of}
use Rattle.rules.specs.Slices.{stretch, filled_to}

pub below? : (i n : ℕ) → (i < n) ⊎ (n ≤ i)
below? i n = go (ltb i n) refl
  where
    go : (b : Bool) → ltb i n ≡ b → (i < n) ⊎ (n ≤ i)
    go true e = inl (ltb-true i n e)
    go false e = inr (ltb-false i n e)

module _ {A : Type 0} where
  -- ---- tables

  pub length-table : (f : ℕ → A) (n : ℕ) → length (table f n) ≡ n
  unfolding table snoc
  length-table f zero = refl
  length-table f (suc n) = length-append (table f n) (f n ∷ []) ∙ ap (λ k. k + 1) (length-table f n) ∙ omega arith

  pub table_at : (f : ℕ → A) (n i : ℕ) (d : A) → i < n → get_or (table f n) i d ≡ f i
  unfolding table snoc
  table_at f zero i d h = elim h [ ]
  table_at f (suc n) i d h =
      ⊎_elim (λ (e : i ≡ n). rw e (ap (λ k. get_or (table f n ++ (f n ∷ [])) k d) (sym (length-table f n)) ∙ get_or-append_seam (table f n) (f n) [] d))
      (λ (l : i < n). get_or-append (table f n) (f n ∷ []) d i (rw (length-table f n) l) ∙ table_at f n i d l)
      (eq-or-lt_of_le (omega arith))

  -- a list is the table of its elements
  pub table_is : (f : ℕ → A) (l : List A) (d : A) → ((i : ℕ) → i < length l → f i ≡ get_or l i d) → table f (length l) ≡ l
  table_is f l d h =
      ext_get_or d (table f (length l)) l (length-table f (length l))
      (λ i p. let q : i < length l = rw (length-table f (length l)) at p in table_at f (length l) i d q ∙ h i q)

  -- ---- pieces of one length

  abbrev pub EachLong : ℕ → List (List A) → Type 0
  EachLong w [] = Unit
  EachLong w (l ∷ ls) = (length l ≡ w) × EachLong w ls

  pub length-concat : (w : ℕ) (ls : List (List A)) → EachLong w ls → length (concat ls) ≡ length ls * w
  unfolding concat
  length-concat w [] e = sym (zero-mul w)
  length-concat w (l ∷ ls) e = length-append l (concat ls) ∙ rw (e.0, length-concat w ls e.1) (sym (suc-mul (length ls) w ∙ omega arith))

  -- piece i of the pieces, whatever follows them
  pub piece_at : (w : ℕ) (ls : List (List A)) (rest : List A) (i : ℕ) → EachLong w ls → i < length ls → stretch (concat ls ++ rest) (i * w) w ≡ get_or ls i []
  unfolding concat stretch
  piece_at w [] rest i e h = elim h [ ]
  piece_at w (l ∷ ls) rest zero e h = rw (zero-mul w, append_assoc l (concat ls) rest) (take_at l (concat ls ++ rest) w e.0)
  piece_at w (l ∷ ls) rest (suc i) e h =
      let past : drop (suc i * w) ((l ++ concat ls) ++ rest) ≡ drop (i * w) (concat ls ++ rest) =
      rw (append_assoc l (concat ls) rest, suc-mul i w, add_comm (i * w) w, ← drop-drop (i * w) w (l ++ (concat ls ++ rest)), drop_at l (concat ls ++ rest) w e.0) in
      ap (take w) past ∙ piece_at w ls rest i e.1 (omega arith)

  -- past a list of a elements
  pub stretch_past : (xs ys : List A) (a b k : ℕ) → length xs ≡ a → stretch (xs ++ ys) (a + b) k ≡ stretch ys b k
  unfolding stretch
  stretch_past xs ys a b k e = rw (← drop-drop b a (xs ++ ys), drop_at xs ys a e)

  -- ---- filled up

  pub length-filled : (n : ℕ) (d : A) (l : List A) → length l ≤ n → length (filled_to n d l) ≡ n
  unfolding filled_to
  length-filled n d l h = length-append l (replicate (n - length l) d) ∙ rw (length-replicate (n - length l) d) (omega arith)

module _ {A : Type 0} where
  -- ---- rows

  pub rows_count : (k n : ℕ) (l : List A) → length (rows_of k n l) ≡ k
  unfolding rows_of
  rows_count zero n l = refl
  rows_count (suc k) n l = ap suc (rows_count k n (drop n l))

  pub rows_at : (k n i : ℕ) (l : List A) → i < k → get_or (rows_of k n l) i [] ≡ take n (drop (i * n) l)
  unfolding rows_of
  rows_at zero n i l h = elim h [ ]
  rows_at (suc k) n zero l h = ap (λ j. take n (drop j l)) (sym (zero-mul n))
  rows_at (suc k) n (suc i) l h =
      let next : n + i * n ≡ suc i * n = sym (suc-mul i n ∙ omega arith) in
      rows_at k n i (drop n l) (omega arith) ∙ ap (take n) (drop-drop (i * n) n l ∙ ap (λ j. drop j l) next)

pub map_at : {A B : Type 0} (f : A → B) (l : List A) (i : ℕ) (d : A) (e : B) → i < length l → get_or (map f l) i e ≡ f (get_or l i d)
map_at {A = A} {B = B} f [] i d e h = elim h [ ]
map_at f (x ∷ l) zero d e h = refl
map_at f (x ∷ l) (suc i) d e h = map_at f l i d e (omega arith)

-- Entries kept by flags: their new numbers, and sums over lists and numbers.
use Prim.Native.Nat.{ℕ, zero, suc, ◌+◌, ◌≤◌, ◌<◌}
use Rattle.std.specs.Prelude.{◌≡◌, ◌⊎◌, Bool, true, false, length, get_or, take, set}
use Rattle.std.proofs.Math.Path.{refl, ap}
use Rattle.std.proofs.Common.{sym, ◌∙◌, inl, inr, not-suc-le-zero, le_of_suc-le-suc}
use Rattle.std.proofs.Math.Bool.{cond}
use Rattle.std.proofs.lemmas.Bool.{false≢true}
use mathlib.Core.List.{List, [], ◌∷◌, filter_map, filter_map-cons-none, filter_map-cons-some}
use Rattle.std.proofs.Math.Option.{none, some}
use native.Mathlib.Omega.{arith}
use Rattle.std.proofs.Math.Seq.{take-length}
use Rattle.rules.specs.Lists.{keep, count_up}
use Rattle.rules.specs.Rebuild.{renumber, number_if, keep_numbers}
use Rattle.counting.specs.Count.{is, is_eq, bit, below, below_out, below_in, below_suc}
use Rattle.counting.specs.Sums.{over, sum_to, sum-some}

-- v where flag c is up
unfoldable pub alive : List Bool → (ℕ → ℕ) → ℕ → ℕ
alive bs v c = cond (get_or bs c false) (v c) 0

pub alive_up : (bs : List Bool) (v : ℕ → ℕ) (c : ℕ) → get_or bs c false ≡ true → alive bs v c ≡ v c
unfolding alive
alive_up bs v c e = ap (λ b. cond b (v c) 0) e

pub alive_down : (bs : List Bool) (v : ℕ → ℕ) (c : ℕ) → get_or bs c false ≡ false → alive bs v c ≡ 0
unfolding alive
alive_down bs v c e = ap (λ b. cond b (v c) 0) e

pub flag? : (bs : List Bool) (c : ℕ) → (get_or bs c false ≡ true) ⊎ (get_or bs c false ≡ false)
flag? bs c = go (get_or bs c false) refl
  where
    go : (b : Bool) → get_or bs c false ≡ b → (get_or bs c false ≡ true) ⊎ (get_or bs c false ≡ false)
    go true e = inl e
    go false e = inr e

pub over-kept : (bs : List Bool) (v : ℕ → ℕ) (l : List ℕ) → over v (keep_numbers bs l) ≡ over (alive bs (λ c. v (renumber bs c))) l
unfolding keep_numbers over filter_map
over-kept bs v [] = refl
over-kept bs v (c ∷ l) = go (flag? bs c) (over-kept bs v l)
  where
    go : (get_or bs c false ≡ true) ⊎ (get_or bs c false ≡ false) → over v (filter_map (number_if bs) l) ≡ over (alive bs (λ c. v (renumber bs c))) l
        → over v (filter_map (number_if bs) (c ∷ l)) ≡ alive bs (λ c. v (renumber bs c)) c + over (alive bs (λ c. v (renumber bs c))) l
    go (inl e) ih =
        let a : filter_map (number_if bs) (c ∷ l) ≡ renumber bs c ∷ filter_map (number_if bs) l =
        filter_map-cons-some (number_if bs) c l (unfold number_if in ap (λ b. cond b (some (renumber bs c)) none) e) in
        let b : over v (filter_map (number_if bs) (c ∷ l)) ≡ v (renumber bs c) + over v (filter_map (number_if bs) l) = ap (λ z. over v z) a in
        let d = alive_up bs (λ c. v (renumber bs c)) c e in
        omega arith
    go (inr e) ih =
        let a : filter_map (number_if bs) (c ∷ l) ≡ filter_map (number_if bs) l =
        filter_map-cons-none (number_if bs) c l (unfold number_if in ap (λ b. cond b (some (renumber bs c)) none) e) in
        let b : over v (filter_map (number_if bs) (c ∷ l)) ≡ over v (filter_map (number_if bs) l) = ap (λ z. over v z) a in
        let d = alive_down bs (λ c. v (renumber bs c)) c e in
        omega arith

count_suc : (bs : List Bool) (m : ℕ) → m < length bs → count_up (take (suc m) bs) ≡ count_up (take m bs) + bit (get_or bs m false)
unfolding count_up
count_suc [] m h = absurd (not-suc-le-zero h)
count_suc (true ∷ bs) zero h = refl
count_suc (false ∷ bs) zero h = refl
count_suc (true ∷ bs) (suc m) h = let q = count_suc bs m (le_of_suc-le-suc h) in omega arith
count_suc (false ∷ bs) (suc m) h = count_suc bs m (le_of_suc-le-suc h)

renumbered : (bs : List Bool) (v : ℕ → ℕ) (m : ℕ) → m ≤ length bs → sum_to (alive bs (λ c. v (renumber bs c))) m ≡ sum_to v (count_up (take m bs))
unfolding sum_to renumber count_up
renumbered bs v zero h = refl
renumbered bs v (suc m) h = go (flag? bs m) (renumbered bs v m (omega arith)) (count_suc bs m h)
  where
    go : (get_or bs m false ≡ true) ⊎ (get_or bs m false ≡ false) → sum_to (alive bs (λ c. v (renumber bs c))) m ≡ sum_to v (count_up (take m bs))
        → count_up (take (suc m) bs) ≡ count_up (take m bs) + bit (get_or bs m false)
        → sum_to (alive bs (λ c. v (renumber bs c))) m + alive bs (λ c. v (renumber bs c)) m ≡ sum_to v (count_up (take (suc m) bs))
    go (inl e) ih k =
        let a = alive_up bs (λ c. v (renumber bs c)) m e in
        let b : bit (get_or bs m false) ≡ 1 = ap bit e in
        let d : count_up (take (suc m) bs) ≡ suc (count_up (take m bs)) = omega arith in
        let f : sum_to v (count_up (take (suc m) bs)) ≡ sum_to v (count_up (take m bs)) + v (count_up (take m bs)) = ap (λ z. sum_to v z) d in
        omega arith
    go (inr e) ih k =
        let a = alive_down bs (λ c. v (renumber bs c)) m e in
        let b : bit (get_or bs m false) ≡ 0 = ap bit e in
        let d : count_up (take (suc m) bs) ≡ count_up (take m bs) = omega arith in
        let f : sum_to v (count_up (take (suc m) bs)) ≡ sum_to v (count_up (take m bs)) = ap (λ z. sum_to v z) d in
        omega arith

-- a sum over the new numbers is that over the flags that are up
pub renumber-sum : (bs : List Bool) (v : ℕ → ℕ) → sum_to (alive bs (λ c. v (renumber bs c))) (length bs) ≡ sum_to v (count_up bs)
renumber-sum bs v = renumbered bs v (length bs) (omega arith) ∙ ap (λ l. sum_to v (count_up l)) (take-length bs)

pub is_sum : (c m : ℕ) → sum_to (is c) m ≡ below c m
unfolding sum_to
is_sum c zero = sym (below_out c 0 (omega arith))
is_sum c (suc m) = let a = is_sum c m in let b = below_suc c m in omega arith

-- each new number has an old one
pub old_number : (bs : List Bool) (k : ℕ) → k < count_up bs → (c : ℕ) × (c < length bs) × (get_or bs c false ≡ true) × (renumber bs c ≡ k)
old_number bs k h =
    let a = renumber-sum bs (is k) in
    let b = is_sum k (count_up bs) in
    let d = below_in k (count_up bs) h in
    let r = sum-some (alive bs (λ c. is k (renumber bs c))) (length bs) (omega arith) in
    let q = go r.0 r.2 (flag? bs r.0) in
    (r.0, r.1, q.0, q.1)
  where
    go : (c : ℕ) → 0 < alive bs (λ c. is k (renumber bs c)) c → (get_or bs c false ≡ true) ⊎ (get_or bs c false ≡ false)
        → (get_or bs c false ≡ true) × (renumber bs c ≡ k)
    go c o (inl e) = let q = alive_up bs (λ c. is k (renumber bs c)) c e in (e, sym (is_eq k (renumber bs c) (omega arith)))
    go c o (inr e) = let q = alive_down bs (λ c. is k (renumber bs c)) c e in absurd (omega arith)

-- and no two old ones have the same
pub renumber_apart : (bs : List Bool) (c d : ℕ) → get_or bs c false ≡ true → get_or bs d false ≡ true → renumber bs c ≡ renumber bs d → c ≡ d
unfolding renumber count_up
renumber_apart [] c d e f h = absurd (false≢true e)
renumber_apart (b ∷ bs) zero zero e f h = refl
renumber_apart (true ∷ bs) zero (suc d) e f h = absurd (omega arith)
renumber_apart (true ∷ bs) (suc c) zero e f h = absurd (omega arith)
renumber_apart (true ∷ bs) (suc c) (suc d) e f h = ap suc (renumber_apart bs c d e f (omega arith))
renumber_apart (false ∷ bs) zero (suc d) e f h = absurd (false≢true e)
renumber_apart (false ∷ bs) (suc c) zero e f h = absurd (false≢true f)
renumber_apart (false ∷ bs) (suc c) (suc d) e f h = ap suc (renumber_apart bs c d e f h)

module _ {A : Type 0} where
  pub keep_at : (bs : List Bool) (l : List A) (c : ℕ) (d : A) → length bs ≡ length l → get_or bs c false ≡ true → get_or (keep bs l) (renumber bs c) d ≡ get_or l c d
  unfolding keep renumber count_up
  keep_at [] [] c d h e = absurd (false≢true e)
  keep_at [] (x ∷ l) c d h e = absurd (false≢true e)
  keep_at (b ∷ bs) [] c d h e = absurd (omega arith)
  keep_at (true ∷ bs) (x ∷ l) zero d h e = refl
  keep_at (false ∷ bs) (x ∷ l) zero d h e = absurd (false≢true e)
  keep_at (true ∷ bs) (x ∷ l) (suc c) d h e = keep_at bs l c d (let q : suc (length bs) ≡ suc (length l) = h in omega arith) e
  keep_at (false ∷ bs) (x ∷ l) (suc c) d h e = keep_at bs l c d (let q : suc (length bs) ≡ suc (length l) = h in omega arith) e

  pub keep-length : (bs : List Bool) (l : List A) → length bs ≡ length l → length (keep bs l) ≡ count_up bs
  unfolding keep count_up
  keep-length [] [] h = refl
  keep-length [] (x ∷ l) h = absurd (omega arith)
  keep-length (b ∷ bs) [] h = absurd (omega arith)
  keep-length (true ∷ bs) (x ∷ l) h = ap suc (keep-length bs l (let q : suc (length bs) ≡ suc (length l) = h in omega arith))
  keep-length (false ∷ bs) (x ∷ l) h = keep-length bs l (let q : suc (length bs) ≡ suc (length l) = h in omega arith)

  pub keep-few : (bs : List Bool) (l : List A) → length (keep bs l) ≤ length l
  unfolding keep
  keep-few bs [] = omega arith
  keep-few [] (x ∷ l) = omega arith
  keep-few (true ∷ bs) (x ∷ l) = let q = keep-few bs l in omega arith
  keep-few (false ∷ bs) (x ∷ l) = let q = keep-few bs l in omega arith

-- one flag taken down
pub count_down : (bs : List Bool) (c : ℕ) → get_or bs c false ≡ true → suc (count_up (set bs c false)) ≡ count_up bs
unfolding count_up
count_down [] c e = absurd (false≢true e)
count_down (true ∷ bs) zero e = refl
count_down (false ∷ bs) zero e = absurd (false≢true e)
count_down (true ∷ bs) (suc c) e = ap suc (count_down bs c e)
count_down (false ∷ bs) (suc c) e = count_down bs c e

pub up_in : (bs : List Bool) (c : ℕ) → get_or bs c false ≡ true → c < length bs
up_in [] c e = absurd (false≢true e)
up_in (b ∷ bs) zero e = omega arith
up_in (b ∷ bs) (suc c) e = let q = up_in bs c e in omega arith

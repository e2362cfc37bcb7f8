-- The fields of a line by the places of its tabs.
use Rattle.std.specs.Prelude.{ℕ, zero, suc, ◌+◌, ◌-◌, ◌≤◌, ◌<◌, Bool, false, cond, ◌≡◌, refl, eqb, Option, count_by}
use Rattle.std.specs.List.{position, position_or_len}
use Rattle.std.specs.Option.{unwrap_or}
use Rattle.std.proofs.lemmas.List.Recursion.{is_position_or_len}
use Rattle.std.proofs.lemmas.List.Sums.{sum_by-cons}
use Rattle.std.proofs.lemmas.Grind.{common_steps}
use Rattle.std.proofs.Math.Bool.{true}
use mathlib.Core.List.{List, [], ◌∷◌, ◌++◌, reverse, append-nil, reverse_aux-eq}
use Rattle.std.proofs.Math.Path.{sym, ap}
use Rattle.std.proofs.Common.{◌∙◌, eq-eqb, ne_eqb, drop-drop, get_or-drop}
use native.Mathlib.Omega.{arith}
use Rattle.std.proofs.Math.ListN.{length, get_or, take, drop, length-drop}
use Rattle.rules.specs.Listing.{cut, fields_of}
use Rattle.text.specs.Places.{from_here, from_end}

-- how many bytes stand before the first tab
unfoldable pub tab_at : List ℕ → ℕ
tab_at [] = 0
tab_at (b ∷ bs) = elim (eqb b 9) [ true ↦ 0 | false ↦ suc (tab_at bs) ]

-- the fields behind a field's end: none, or those past the tab
unfoldable after : List ℕ → List (List ℕ)
after [] = []
after (b ∷ bs) = cut 9 true [] bs

tab_yes : (b : ℕ) (bs : List ℕ) → eqb b 9 ≡ true → tab_at (b ∷ bs) ≡ 0
unfolding tab_at
tab_yes b bs e = let f : Bool → ℕ = λ t. elim t [ true ↦ 0 | false ↦ suc (tab_at bs) ] in ap f e

tab_no : (b : ℕ) (bs : List ℕ) → eqb b 9 ≡ false → tab_at (b ∷ bs) ≡ suc (tab_at bs)
unfolding tab_at
tab_no b bs e = let f : Bool → ℕ = λ t. elim t [ true ↦ 0 | false ↦ suc (tab_at bs) ] in ap f e

-- a byte at which pieces are parted, and another one
pub cut_yes : (m : ℕ) (all : Bool) (b : ℕ) (bs p : List ℕ) → eqb b m ≡ true → cut m all p (b ∷ bs) ≡ reverse p ∷ cut m all [] bs
unfolding cut
cut_yes m all b bs p e =
    let f : Bool → List (List ℕ) = λ t. elim t [ true ↦ reverse p ∷ cut m all [] bs | false ↦ cut m all (b ∷ p) bs ] in
    ap f e

pub cut_no : (m : ℕ) (all : Bool) (b : ℕ) (bs p : List ℕ) → eqb b m ≡ false → cut m all p (b ∷ bs) ≡ cut m all (b ∷ p) bs
unfolding cut
cut_no m all b bs p e =
    let f : Bool → List (List ℕ) = λ t. elim t [ true ↦ reverse p ∷ cut m all [] bs | false ↦ cut m all (b ∷ p) bs ] in
    ap f e

reverse_more : (b : ℕ) (p q : List ℕ) → reverse (b ∷ p) ++ q ≡ reverse p ++ (b ∷ q)
reverse_more b p q = sym (reverse_aux-eq (b ∷ p) q) ∙ reverse_aux-eq p (b ∷ q)

-- the first field, and the others
abbrev Firsts : List ℕ → List ℕ → Type 0
Firsts bs p = cut 9 true p bs ≡ (reverse p ++ take (tab_at bs) bs) ∷ after (drop (tab_at bs) bs)

cut_case : (t : Bool) (b : ℕ) (bs p : List ℕ) → eqb b 9 ≡ t → Firsts bs (b ∷ p) → Firsts (b ∷ bs) p
unfolding after
cut_case true b bs p e k =
    cut_yes 9 true b bs p e ∙ ap (λ l. l ∷ cut 9 true [] bs) (sym (append-nil (reverse p)))
    ∙ ap (λ n. (reverse p ++ take n (b ∷ bs)) ∷ after (drop n (b ∷ bs))) (sym (tab_yes b bs e))
cut_case false b bs p e k =
    cut_no 9 true b bs p e ∙ k ∙ ap (λ l. l ∷ after (drop (tab_at bs) bs)) (reverse_more b p (take (tab_at bs) bs))
    ∙ ap (λ n. (reverse p ++ take n (b ∷ bs)) ∷ after (drop n (b ∷ bs))) (sym (tab_no b bs e))

cut_first : (bs p : List ℕ) → Firsts bs p
unfolding cut tab_at after
cut_first [] p = ap (λ l. l ∷ []) (sym (append-nil (reverse p)))
cut_first (b ∷ bs) p = cut_case (eqb b 9) b bs p refl (cut_first bs (b ∷ p))

-- ---- the end of a field

module _ (l : List ℕ) (i : ℕ) where
  pub tab_here : i < length l → get_or l i 0 ≡ 9 → tab_at (drop i l) ≡ 0
  tab_here h e = ap tab_at (from_here l i h) ∙ tab_yes _ _ (eq-eqb (get_or l i 0) 9 e)

  pub tab_later : i < length l → (get_or l i 0 ≡ 9 → ⊥) → tab_at (drop i l) ≡ suc (tab_at (drop (i + 1) l))
  tab_later h e = ap tab_at (from_here l i h) ∙ tab_no _ _ (ne_eqb (get_or l i 0) 9 e)

  pub tab_none : i ≡ length l → tab_at (drop i l) ≡ 0
  unfolding tab_at
  tab_none e = ap tab_at (from_end l i e)

tab_in_case : (t : Bool) (b : ℕ) (bs : List ℕ) → eqb b 9 ≡ t → tab_at bs ≤ length bs → tab_at (b ∷ bs) ≤ length (b ∷ bs)
tab_in_case true b bs e k = let z = tab_yes b bs e in omega arith
tab_in_case false b bs e k = let z = tab_no b bs e in omega arith

pub tab_in : (bs : List ℕ) → tab_at bs ≤ length bs
unfolding tab_at
tab_in [] = omega arith
tab_in (b ∷ bs) = tab_in_case (eqb b 9) b bs refl (tab_in bs)

pub end_in : (l : List ℕ) (from : ℕ) → from ≤ length l → from + tab_at (drop from l) ≤ length l
end_in l from h = omega (arith, tab_in (drop from l), length-drop from l)

-- in std's words
place_case : (t : Bool) (b : ℕ) (bs : List ℕ) → eqb b 9 ≡ t → tab_at (b ∷ bs) ≡ cond t 0 (1 + tab_at bs)
place_case true b bs e = tab_yes b bs e
place_case false b bs e = tab_no b bs e ∙ omega arith

tab-place : (bs : List ℕ) → tab_at bs ≡ position_or_len (λ b. eqb b 9) bs
unfolding tab_at
tab-place bs = is_position_or_len tab_at (λ b. eqb b 9) refl (λ b bs. place_case (eqb b 9) b bs refl) bs

pub tab-found : (bs : List ℕ) (r : Option ℕ) → r ≡ position (λ b. eqb b 9) bs → unwrap_or r (length bs) ≡ tab_at bs
tab-found bs r e = let p = tab-place bs in let l = tab_in bs in grind (arith, common_steps)

-- ---- how many fields

-- the piece before does not count
count_case : (t : Bool) (b : ℕ) (bs p q : List ℕ) → eqb b 9 ≡ t → length (cut 9 true (b ∷ p) bs) ≡ length (cut 9 true (b ∷ q) bs)
    → length (cut 9 true p (b ∷ bs)) ≡ length (cut 9 true q (b ∷ bs))
count_case true b bs p q e k = ap length (cut_yes 9 true b bs p e) ∙ sym (ap length (cut_yes 9 true b bs q e))
count_case false b bs p q e k = ap length (cut_no 9 true b bs p e) ∙ k ∙ sym (ap length (cut_no 9 true b bs q e))

count_piece : (bs p q : List ℕ) → length (cut 9 true p bs) ≡ length (cut 9 true q bs)
unfolding cut
count_piece [] p q = refl
count_piece (b ∷ bs) p q = count_case (eqb b 9) b bs p q refl (count_piece bs (b ∷ p) (b ∷ q))

-- one more than there are tabs
tab_case : (t : Bool) (b : ℕ) (bs p : List ℕ) → eqb b 9 ≡ t → ((q : List ℕ) → length (cut 9 true q bs) ≡ count_by (λ b. eqb b 9) bs + 1)
    → length (cut 9 true p (b ∷ bs)) ≡ cond t 1 0 + count_by (λ b. eqb b 9) bs + 1
tab_case true b bs p e k = let n = k [] in ap length (cut_yes 9 true b bs p e) ∙ omega arith
tab_case false b bs p e k = let n = k (b ∷ p) in ap length (cut_no 9 true b bs p e) ∙ omega arith

tabs : (bs p : List ℕ) → length (cut 9 true p bs) ≡ count_by (λ b. eqb b 9) bs + 1
unfolding cut
tabs [] p = refl
tabs (b ∷ bs) p = tab_case (eqb b 9) b bs p refl (tabs bs) ∙ ap (λ n. n + 1) (sym (sum_by-cons (λ b. cond (eqb b 9) 1 0) b bs))

pub tabs_counted : (l : List ℕ) → length (fields_of l) ≡ count_by (λ b. eqb b 9) l + 1
unfolding fields_of
tabs_counted l = tabs l []

-- the fields from place i on
unfoldable pub count_from : List ℕ → ℕ → ℕ
count_from l i = length (cut 9 true [] (drop i l))

pub count_all : (l : List ℕ) → count_from l 0 ≡ length (fields_of l)
unfolding count_from fields_of
count_all l = refl

module _ (l : List ℕ) (i : ℕ) where
  pub count_here : i < length l → get_or l i 0 ≡ 9 → count_from l i ≡ suc (count_from l (i + 1))
  unfolding count_from
  count_here h e = ap (λ bs. length (cut 9 true [] bs)) (from_here l i h) ∙ ap length (cut_yes 9 true _ (drop (i + 1) l) [] (eq-eqb (get_or l i 0) 9 e))

  pub count_later : i < length l → (get_or l i 0 ≡ 9 → ⊥) → count_from l i ≡ count_from l (i + 1)
  unfolding count_from
  count_later h e =
      ap (λ bs. length (cut 9 true [] bs)) (from_here l i h) ∙ ap length (cut_no 9 true _ (drop (i + 1) l) [] (ne_eqb (get_or l i 0) 9 e))
      ∙ count_piece (drop (i + 1) l) (get_or l i 0 ∷ []) []

  pub count_end : i ≡ length l → count_from l i ≡ 1
  unfolding count_from cut
  count_end e = ap (λ bs. length (cut 9 true [] bs)) (from_end l i e)

-- ---- field k

after_next : (l : List ℕ) (e : ℕ) → 0 < length (after (drop e l)) → (e < length l) × (after (drop e l) ≡ cut 9 true [] (drop (e + 1) l))
unfolding after
after_next [] zero h = absurd (omega arith)
after_next [] (suc e) h = absurd (omega arith)
after_next (b ∷ l) zero h = (omega arith, refl)
after_next (b ∷ l) (suc e) h =
    let (p, q) = after_next l e h in
    let z : suc (e + 1) ≡ suc e + 1 = omega arith in
    (omega arith, q ∙ ap (λ m. cut 9 true [] (drop m (b ∷ l))) z)

-- field k of the line begins at a place
unfoldable pub Begins : List ℕ → ℕ → ℕ → Type 0
Begins l k from = drop k (fields_of l) ≡ cut 9 true [] (drop from l)

pub begins_first : (l : List ℕ) → Begins l 0 0
unfolding Begins fields_of
begins_first l = refl

module _ (l : List ℕ) (k from e : ℕ) where
  pub begins_next : Begins l k from → e ≡ from + tab_at (drop from l) → k + 1 < length (fields_of l) → (e < length l) × Begins l (k + 1) (e + 1)
  unfolding Begins
  begins_next b end h =
      let rest : drop (k + 1) (fields_of l) ≡ after (drop e l) =
      sym (drop-drop 1 k (fields_of l)) ∙ ap (drop 1) (b ∙ cut_first (drop from l) [])
      ∙ ap after (drop-drop (tab_at (drop from l)) from l ∙ ap (λ m. drop m l) (sym end)) in
      let some : length (drop (k + 1) (fields_of l)) ≡ length (fields_of l) - (k + 1) = length-drop (k + 1) (fields_of l) in
      let long : length (drop (k + 1) (fields_of l)) ≡ length (after (drop e l)) = ap length rest in
      let (p, q) = after_next l e (omega arith) in
      (p, rest ∙ q)

  pub begins_is : Begins l k from → e ≡ from + tab_at (drop from l) → take (e - from) (drop from l) ≡ get_or (fields_of l) k []
  unfolding Begins
  begins_is b end =
      let long : e - from ≡ tab_at (drop from l) = omega arith in
      let z : k + 0 ≡ k = omega arith in
      let first : get_or (fields_of l) k [] ≡ take (tab_at (drop from l)) (drop from l) =
      ap (λ m. get_or (fields_of l) m []) (sym z) ∙ sym (get_or-drop k (fields_of l) 0 []) ∙ ap (λ fs. get_or fs 0 []) (b ∙ cut_first (drop from l) []) in
      ap (λ n. take n (drop from l)) long ∙ sym first

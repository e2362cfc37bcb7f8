-- Places in a list: the number that stands at a place stands in the list, and the place of a number.
use Rattle.std.specs.Prelude.{ℕ, zero, suc, ◌<◌, ◌≤◌, ◌≡◌, ◌⊎◌, ◌≢◌, Bool, true, false, cond, List, [], ◌∷◌, map, eqb, length, get_or}
use Rattle.std.proofs.Math.Path.{refl}
use Rattle.std.proofs.Common.{sym, ap, ◌∙◌, inl, inr, not-suc-le-zero, le_of_suc-le-suc, arith}
use Rattle.rules.specs.Lists.{occurs}
use Rattle.counting.specs.Count.{is, is_same, is_other, same?, lt?, eq_test}
use Rattle.counting.specs.Sums.{over-same, occurs-over, occurs-cons, map-occurs}
use Rattle.counting.specs.Lists.{past_end}

-- where c first stands in a list; a list without it gives its length
unfoldable pub place_in : List ℕ → ℕ → ℕ
place_in [] c = 0
place_in (d ∷ ds) c = cond (eqb c d) 0 (suc (place_in ds c))

pub get_occurs : (l : List ℕ) (k d : ℕ) → k < length l → 0 < occurs (get_or l k d) l
get_occurs [] k d h = absurd (not-suc-le-zero h)
get_occurs (x ∷ l) zero d h = let p = occurs-cons x x l in let q = is_same x x refl in omega arith
get_occurs (x ∷ l) (suc k) d h = let p = occurs-cons (get_or l k d) x l in let q = get_occurs l k d (le_of_suc-le-suc h) in omega arith

place_here : (x : ℕ) (l : List ℕ) (i : ℕ) → i ≡ x → place_in (x ∷ l) i ≡ 0
unfolding place_in
place_here x l i e = go (eqb i x) refl
  where
    go : (b : Bool) → eqb i x ≡ b → cond b 0 (suc (place_in l i)) ≡ 0
    go true q = refl
    go false q = absurd ((eq_test i x false q).1 refl e)

place_there : (x : ℕ) (l : List ℕ) (i : ℕ) → i ≢ x → place_in (x ∷ l) i ≡ suc (place_in l i)
unfolding place_in
place_there x l i e = go (eqb i x) refl
  where
    go : (b : Bool) → eqb i x ≡ b → cond b 0 (suc (place_in l i)) ≡ suc (place_in l i)
    go true q = absurd (e ((eq_test i x true q).0 refl))
    go false q = refl

pub place_get : (l : List ℕ) (i d : ℕ) → 0 < occurs i l → get_or l (place_in l i) d ≡ i
place_get [] i d h = let z : occurs i [] ≡ 0 = unfold occurs in refl in absurd (omega arith)
place_get (x ∷ l) i d h = go (same? i x) (λ o. place_get l i d o)
  where
    go : (i ≡ x) ⊎ (i ≢ x) → (0 < occurs i l → get_or l (place_in l i) d ≡ i) → get_or (x ∷ l) (place_in (x ∷ l) i) d ≡ i
    go (inl e) ih = ap (λ k. get_or (x ∷ l) k d) (place_here x l i e) ∙ sym e
    go (inr e) ih = ap (λ k. get_or (x ∷ l) k d) (place_there x l i e) ∙ ih (let p = occurs-cons i x l in let q = is_other i x e in omega arith)

get_place : (l : List ℕ) (k d : ℕ) → k < length l → occurs (get_or l k d) l ≡ 1 → place_in l (get_or l k d) ≡ k
get_place [] k d h o = absurd (not-suc-le-zero h)
get_place (x ∷ l) zero d h o = place_here x l x refl
get_place (x ∷ l) (suc k) d h o =
    let p = occurs-cons (get_or l k d) x l in
    let q = get_occurs l k d (le_of_suc-le-suc h) in
    let z : is (get_or l k d) x ≡ 0 = omega arith in
    place_there x l (get_or l k d) (λ e. clash z (is_same (get_or l k d) x e)) ∙ ap suc (get_place l k d (le_of_suc-le-suc h) (omega arith))
  where
    clash : is (get_or l k d) x ≡ 0 → is (get_or l k d) x ≡ 1 → ⊥
    clash a b = omega arith

-- each owner is in l once, and not n: row by row, place k is the number that stands there
pub place_occurs : (l : List ℕ) (n k : ℕ) (a : List ℕ) → ((i : ℕ) → 0 < occurs i a → (occurs i l ≡ 1) × (i ≢ n))
    → occurs k (map (place_in l) a) ≡ occurs (get_or l k n) a
place_occurs l n k a h =
    map-occurs (place_in l) k a ∙ over-same (λ i. is k (place_in l i)) (is (get_or l k n)) a (λ i o. each i (h i o).0 (h i o).1 (same? k (place_in l i))
    (lt? k (length l))) ∙ sym (occurs-over (get_or l k n) a)
  where
    each : (i : ℕ) → occurs i l ≡ 1 → i ≢ n → (k ≡ place_in l i) ⊎ (k ≢ place_in l i) → (k < length l) ⊎ (length l ≤ k) → is k (place_in l i) ≡ is (get_or l k n) i
    each i o q (inl e) f = is_same k (place_in l i) e ∙ sym (is_same (get_or l k n) i (ap (λ z. get_or l z n) e ∙ place_get l i n (let y = o in omega arith)))
    each i o q (inr e) (inl f) =
        is_other k (place_in l i) e ∙ sym (is_other (get_or l k n) i (λ z. e (sym (get_place l k n f (ap (λ y. occurs y l) z ∙ o)) ∙ ap (λ y. place_in l y) z)))
    each i o q (inr e) (inr f) = is_other k (place_in l i) e ∙ sym (is_other (get_or l k n) i (λ z. q (sym z ∙ past_end l n k f)))

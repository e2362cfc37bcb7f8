-- The fold by halves, as code takes it, and in scratch: the back half is folded in the slots behind those of the front half.
use Rattle.std.specs.Prelude.{ℕ, zero, suc, ◌+◌, ◌-◌, ◌*◌, ◌/◌, ◌≤◌, ◌<◌, ◌≡◌, Bool, ◌≢◌, length, get_or, take, drop, Float}
use Rattle.std.proofs.Math.Path.{refl}
use Rattle.std.proofs.Common.{sym, ap, ap₂, ◌∙◌, mul-le-mul_right, mul-le-mul_left, mul-one, one-mul, zero-mul, arith, length-take, length-drop, length-take-le, get_or-take, get_or-drop}
use mathlib.Core.List.{List, [], ◌∷◌, map}
use Rattle.std.proofs.lemmas.List.{length-map}
use Rattle.feature.specs.declared.Summary.{Summary}
use Rattle.head.specs.declared.Settings.{Settings}
use Rattle.head.specs.declared.Counters.{Counters}
use Rattle.head.specs.Limits.{Sized}
use Rattle.head.specs.Sizes.{slot_width, entry_cap}
use Rattle.rules.specs.Tree.{merge}
use Rattle.rules.specs.Refold.{fold_balanced}
use Rattle.arena.specs.Numbered.{SlotIn, summary_at, Changed}
use Rattle.arena.specs.Trees.{ChildIn, ChildrenIn}

-- ---- steps enough are enough

fold_more : (s : Settings) (k j : ℕ) (es : List Summary) → length es ≤ k → length es ≤ j → fold_balanced s k es ≡ fold_balanced s j es
unfolding fold_balanced
fold_more s zero zero es h g = refl
fold_more s zero (suc j) [] h g = refl
fold_more s zero (suc j) (e ∷ es) h g = absurd (omega arith)
fold_more s (suc k) zero [] h g = refl
fold_more s (suc k) zero (e ∷ es) h g = absurd (omega arith)
fold_more s (suc k) (suc j) [] h g = refl
fold_more s (suc k) (suc j) (e ∷ []) h g = refl
fold_more s (suc k) (suc j) (e ∷ d ∷ es) h g =
    let l : List Summary = e ∷ d ∷ es in
    let m = length l / 2 in
    let a : length (take m l) ≡ m = length-take-le m l (omega arith) in
    let b : length (drop m l) ≡ length l - m = length-drop m l in
    ap₂ (λ x y. merge s x y) (fold_more s k j (take m l) (omega arith) (omega arith)) (fold_more s k j (drop m l) (omega arith) (omega arith))

module _ (s : Settings) (f : ℕ → Summary) where
  pub fold-one : (l : List ℕ) → length l ≡ 1 → f (get_or l 0 0) ≡ fold_balanced s (length l) (map f l)
  unfolding fold_balanced
  fold-one [] e = absurd (omega arith)
  fold-one (x ∷ []) e = refl
  fold-one (x ∷ y ∷ l) e = absurd (omega arith)

  map-take : (n : ℕ) (l : List ℕ) → map f (take n l) ≡ take n (map f l)
  map-take zero l = refl
  map-take (suc n) [] = refl
  map-take (suc n) (x ∷ l) = ap (λ m. f x ∷ m) (map-take n l)

  map-drop : (n : ℕ) (l : List ℕ) → map f (drop n l) ≡ drop n (map f l)
  map-drop zero l = refl
  map-drop (suc n) [] = refl
  map-drop (suc n) (x ∷ l) = map-drop n l

  -- the halves a and b of a list, as they are lent
  pub fold_two : (l a b : List ℕ) → 0 < length l → length l ≢ 1 → a ≡ take (length l / 2) l → b ≡ drop (length l / 2) l
      → merge s (fold_balanced s (length a) (map f a)) (fold_balanced s (length b) (map f b)) ≡ fold_balanced s (length l) (map f l)
  fold_two [] a b h d p q = absurd (omega arith)
  fold_two (x ∷ []) a b h d p q = absurd (d refl)
  fold_two (x ∷ y ∷ l) a b h d p q =
      let m = length (x ∷ y ∷ l) / 2 in
      let es : List Summary = f x ∷ f y ∷ map f l in
      let n : length es ≡ length (x ∷ y ∷ l) = length-map (x ∷ y ∷ l) f in
      let ha : length (map f a) ≡ m = length-map a f ∙ ap length p ∙ length-take-le m (x ∷ y ∷ l) (omega arith) in
      let hb : length (map f b) ≡ length (x ∷ y ∷ l) - m = length-map b f ∙ ap length q ∙ length-drop m (x ∷ y ∷ l) in
      let la = length-map a f in
      let lb = length-map b f in
      let ea : map f a ≡ take (length es / 2) es = ap (map f) p ∙ map-take m (x ∷ y ∷ l) ∙ ap (λ k. take (k / 2) es) (sym n) in
      let eb : map f b ≡ drop (length es / 2) es = ap (map f) q ∙ map-drop m (x ∷ y ∷ l) ∙ ap (λ k. drop (k / 2) es) (sym n) in
      ap₂ (λ u v. merge s u v)
      (fold_more s (length a) (suc (length l)) (map f a) (omega arith) (omega arith) ∙ ap (fold_balanced s (suc (length l))) ea)
      (fold_more s (length b) (suc (length l)) (map f b) (omega arith) (omega arith) ∙ ap (fold_balanced s (suc (length l))) eb)
      ∙ (unfold fold_balanced in refl)

-- ---- slots of scratch

-- slot `at` holds c, and those before it are as they were
pub record Folded (s : Settings) (at : ℕ) (fs gs : List Float) (c : Summary) : Type 0 where
  pub here : summary_at s gs at ≡ c
  pub before : (i : ℕ) → i < at → summary_at s gs i ≡ summary_at s fs i

pub folded_as : {s : Settings} {at : ℕ} {fs gs : List Float} {c d : Summary} → c ≡ d → Folded s at fs gs c → Folded s at fs gs d
folded_as e h = record { here = h.here ∙ e; before = h.before }

pub stored_folded : {s : Settings} {at : ℕ} {fs gs : List Float} (f : Summary → Summary) → Changed s f at fs gs → Folded s at fs gs (f (summary_at s fs at))
stored_folded f h = record { here = h.here; before = λ i l. h.others i (λ e. omega arith) }

-- the front half, the back half in the slots behind it, and the two merged
pub halves_folded : {s : Settings} {at k : ℕ} {fs gs hs is : List Float} {a b : Summary} → 0 < k → Folded s at fs gs a → Folded s (at + k) gs hs b
    → Folded s at hs is (merge s (summary_at s hs at) (summary_at s hs (at + k))) → Folded s at fs is (merge s a b)
halves_folded {s} h p q r =
    record {
      here = r.here ∙ ap₂ (λ x y. merge s x y) (q.before _ (omega arith) ∙ p.here) q.here;
      before = λ i l. r.before i l ∙ q.before i (omega arith) ∙ p.before i l;
    }

-- slot i of scratch is there, where there is room for the k slots behind `at`
pub slot_there : (s : Settings) → Sized s → (at k i n : ℕ) → i < at + k → (at + k) * slot_width s ≤ n → SlotIn s i n
slot_there s z at k i n h r = record { sized = z; room = omega (arith, mul-le-mul_right (slot_width s) h, r) }

-- slot 0 of a slice with a slot for each entry, and room for a list that is no longer
pub first_slot : (s : Settings) → Sized s → (n : ℕ) → entry_cap s * slot_width s ≤ n → SlotIn s 0 n
unfolding entry_cap
first_slot s z n r = record { sized = z; room = omega (arith, mul-le-mul_right (slot_width s) (let q : 1 ≤ s.max_leaves + 1 = omega arith in q), one-mul (slot_width s), zero-mul (slot_width s)) }

pub list_room : (s : Settings) (k n : ℕ) → k ≤ entry_cap s → entry_cap s * slot_width s ≤ n → (0 + k) * slot_width s ≤ n
list_room s k n h r = omega (arith, mul-le-mul_right (slot_width s) (let q : 0 + k ≤ entry_cap s = omega arith in q))

-- k slots take k floats at least
pub slots_small : (s : Settings) (k n : ℕ) → k * slot_width s ≤ n → k ≤ n
unfolding slot_width
slots_small s k n r = let q = mul-le-mul_left k (let o : 1 ≤ 1 + 2 * s.dim = omega arith in o) in let i = mul-one k in omega arith

-- room for fewer
pub fewer_slots : (s : Settings) (a b n : ℕ) → a ≤ b → b * slot_width s ≤ n → a * slot_width s ≤ n
fewer_slots s a b n h r = omega (arith, mul-le-mul_right (slot_width s) h)

-- ---- the halves of a list

pub record Halved (n : ℕ) : Type 0 where
  pub some : 0 < n / 2
  pub fewer : n / 2 < n

pub halved : (n : ℕ) → 0 < n → n ≢ 1 → Halved n
halved zero h d = absurd (omega arith)
halved (suc zero) h d = absurd (d refl)
halved (suc (suc n)) h d = record { some = omega arith; fewer = omega arith }

pub child_in : (c : Counters) (leaf : Bool) (l : List ℕ) (k : ℕ) → ChildrenIn c leaf l → k < length l → ChildIn c leaf (get_or l k 0)
unfolding ChildrenIn
child_in c leaf l k h b = h k b

pub front_in : (c : Counters) (leaf : Bool) (l : List ℕ) (k : ℕ) → ChildrenIn c leaf l → ChildrenIn c leaf (take k l)
unfolding ChildrenIn
front_in c leaf l k h = λ i b. let q : (i < k) × (i < length l) = inside i b in rw (get_or-take k l i 0 q.0) (h i q.1)
  where
    inside : (i : ℕ) → i < length (take k l) → (i < k) × (i < length l)
    inside i b = let e = length-take k l in (omega arith, omega arith)

pub back_in : (c : Counters) (leaf : Bool) (l : List ℕ) (k : ℕ) → ChildrenIn c leaf l → ChildrenIn c leaf (drop k l)
unfolding ChildrenIn
back_in c leaf l k h = λ i b. rw (get_or-drop k l i 0) (h (k + i) (let e = length-drop k l in omega arith))

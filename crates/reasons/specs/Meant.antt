-- What the last reasons mean: where every field is as asked, the threshold's value is wrong, or the number of floats is.
use Prim.Native.Nat.{ℕ, zero, suc, ◌+◌, ◌≤◌, ◌<◌}
use Rattle.std.proofs.Math.Bool.{Bool, true, false}
use Rattle.std.specs.Prelude.{cond, List, [], ◌∷◌, ◌≡◌, refl, leb, ltb, eqb, length, get_or, Float, Option, None, Some}
use Rattle.std.proofs.lemmas.Option.{none-some, same_Some}
use Rattle.std.proofs.lemmas.Bool.{false≢true}
use Rattle.std.proofs.Common.{sym, subst, ◌∙◌, arith, leb-true, le-leb, lt-ltb, ltb-false, eqb-true}
use Rattle.std.proofs.Math.Path.{ap}
use Prim.Native.String.{String}
use Rattle.head.specs.Heads.{new_head, new_counters}
use Rattle.head.specs.Limits.{within, sizes_within, choices_within, threshold_within, allowed, both}
use Rattle.rules.specs.Listing.{fields_of, decimal, feature_word, distance_word, hex_float, hex_floats, bytes, same, word_at, taken, first_line}
use Rattle.text.specs.declared.RowLine.TheVariants.{Malformed}
use Rattle.text.specs.Firsts.{goes, head-is, is-taken, line-eight}
use Rattle.text.specs.Rows.{RowRead, floats_in, floats_short}
use Rattle.reasons.specs.declared.Reason.{Reason}
use Rattle.reasons.specs.declared.Reason.TheVariants as R
use Rattle.reasons.specs.Reasons.{ends_in_return, is_some, size_in, setting_at, float_at, wrong_at, reason_of, first_reason, row_reason}
use Rattle.head.specs.Counting.{new_running}

-- ---- every field is as asked

module _ (ok : ℕ → List ℕ → Bool) where
  right_case : (t : Bool) (k : ℕ) (f : List ℕ) (fs : List (List ℕ)) → ok k f ≡ t → k + suc (length fs) ≤ wrong_at ok k (f ∷ fs)
      → (ok k f ≡ true) × (suc k + length fs ≤ wrong_at ok (suc k) fs)
  unfolding wrong_at
  right_case true k f fs e h =
      let next : Bool → ℕ = λ t. elim t [ true ↦ wrong_at ok (suc k) fs | false ↦ k ] in
      let z : wrong_at ok k (f ∷ fs) ≡ wrong_at ok (suc k) fs = ap next e in
      (e, omega arith)
  right_case false k f fs e h =
      let next : Bool → ℕ = λ t. elim t [ true ↦ wrong_at ok (suc k) fs | false ↦ k ] in
      let z : wrong_at ok k (f ∷ fs) ≡ k = ap next e in
      absurd (omega arith)

  -- if none is wrong, each is right
  all_right : (fs : List (List ℕ)) (k i : ℕ) → k + length fs ≤ wrong_at ok k fs → i < length fs → ok (k + i) (get_or fs i []) ≡ true
  all_right [] k i h l = absurd (omega arith)
  all_right (f ∷ fs) k zero h l =
      let z : k ≡ k + 0 = omega arith in
      subst (λ n. ok n f ≡ true) z (right_case (ok k f) k f fs refl h).0
  all_right (f ∷ fs) k (suc i) h l =
      let z : suc k + i ≡ k + suc i = omega arith in
      subst (λ n. ok n (get_or fs i []) ≡ true) z (all_right fs (suc k) i (right_case (ok k f) k f fs refl h).1 (omega arith))

isnt : (t : Bool) → (t ≡ true → ⊥) → t ≡ false
isnt true h = absurd (h refl)
isnt false h = refl

some_is : {A : Type 0} (o : Option A) → is_some o ≡ true → (a : A) × (o ≡ Some a)
some_is None e = absurd (false≢true e)
some_is (Some a) e = (a, refl)

-- ---- a row

-- so the line has as many floats as it has fields
all-floats : (fs : List (List ℕ)) (k : ℕ) → k + length fs ≤ wrong_at float_at k fs → (x : List Float) × (hex_floats fs ≡ Some x) × (length x ≡ length fs)
unfolding hex_floats float_at
all-floats [] k h = ([], refl, refl)
all-floats (f ∷ fs) k h =
    let (e, l) = right_case float_at (float_at k f) k f fs refl h in
    let (x, p) = some_is (hex_float f) e in
    let (xs, q, n) = all-floats fs (suc k) l in
    (x ∷ xs, goes _ _ x p ∙ goes _ _ xs q, ap suc n)

unfoldable shape_of : Reason → Option ℕ
shape_of R.Long = None
shape_of R.Return = None
shape_of (R.Fields n) = None
shape_of (R.Setting k) = None
shape_of R.Threshold = None
shape_of (R.Float k) = None
shape_of (R.Shape n) = Some n
shape_of R.Full = None

-- a row told as SHAPE has n floats
pub shape_floats : (l : List ℕ) (n : ℕ) → row_reason l ≡ R.Shape n → (x : List Float) × (floats_in l ≡ Some x) × (length x ≡ n)
unfolding row_reason reason_of shape_of
shape_floats l n e = go (leb (length l) 200) (ends_in_return l) (ltb (wrong_at float_at 0 (fields_of l)) (length (fields_of l))) refl refl (ap shape_of e)
  where
    fs : List (List ℕ)
    fs = fields_of l

    go : (a b c : Bool) → leb (length l) 200 ≡ a → ltb (wrong_at float_at 0 fs) (length fs) ≡ c
        → shape_of (cond a (cond b R.Return (cond c (R.Float (wrong_at float_at 0 fs + 1)) (R.Shape (length fs)))) R.Long) ≡ Some n
        → (x : List Float) × (floats_in l ≡ Some x) × (length x ≡ n)
    go true false false p q s =
        let (x, r, m) = all-floats fs 0 (let k = ltb-false (wrong_at float_at 0 fs) (length fs) q in omega arith) in
        (x, floats_short l (leb-true (length l) 200 p) ∙ r, m ∙ same_Some (length fs) n s)
    go true false true p q s = absurd (none-some n s)
    go true true c p q s = absurd (none-some n s)
    go false b c p q s = absurd (none-some n s)

-- and if it is no row, n is not dim
pub shape_wrong : (l : List ℕ) (n dim : ℕ) (before after : List Float) → RowRead dim (floats_in l) before after Malformed → row_reason l ≡ R.Shape n
    → n ≡ dim → ⊥
unfolding RowRead
shape_wrong l n dim before after w e d = let (x, p, m) = shape_floats l n e in w x p (m ∙ d)

-- ---- line 1

word_below : (n : ℕ) (ws : List String) (l : List ℕ) (m : ℕ) → word_at n ws l ≡ Some m → m < n + length ws
unfolding word_at
word_below n [] l m e = absurd (none-some m e)
word_below n (w ∷ ws) l m e = go (same l (bytes w)) (word_below (suc n) ws l m) e
  where
    go : (t : Bool) → (word_at (suc n) ws l ≡ Some m → m < suc n + length ws) → cond t (Some n) (word_at (suc n) ws l) ≡ Some m → m < n + suc (length ws)
    go true k q = let z = same_Some n m q in omega arith
    go false k q = let z = k q in omega arith

feature_below : (l : List ℕ) (m : ℕ) → feature_word l ≡ Some m → m < 2
unfolding feature_word
feature_below l m e = word_below 0 _ l m e

distance_below : (l : List ℕ) (m : ℕ) → distance_word l ≡ Some m → m < 6
unfolding distance_word
distance_below l m e = word_below 0 _ l m e

size_is : (least most : ℕ) (o : Option ℕ) → size_in least most o ≡ true → (n : ℕ) × (o ≡ Some n) × (within least most n ≡ true)
unfolding size_in
size_is least most None e = absurd (false≢true e)
size_is least most (Some n) e = (n, refl, e)

-- a head whose threshold is right as well is taken
all-taken : (d b l m f g a : ℕ) (x : Float) → within 1 8 d ≡ true → within 2 16 b ≡ true → within 1 16 l ≡ true → within 1 24 m ≡ true
    → f < 2 → g < 6 → a < 6 → threshold_within x ≡ true → taken (new_head d b l m f g a x) ≡ Some (new_head d b l m f g a x)
unfolding allowed sizes_within choices_within new_head new_counters new_running within
all-taken d b l m f g a x p q r s t u v w =
    let (one, few) = both (leb 1 m) (leb m 24) s in
    let k = leb-true m 24 few in
    is-taken (new_head d b l m f g a x) k
    (rw (p, q, r, one, le-leb m 256 (omega arith), lt-ltb f 2 t, lt-ltb g 6 u, lt-ltb a 6 v, w))

-- what the threshold of a line is: a float whose value is wrong
abbrev pub Wrong : List ℕ → Type 0
Wrong l = (x : Float) × (hex_float (get_or (fields_of l) 7 []) ≡ Some x) × (threshold_within x ≡ false)

-- eight fields that are as asked, and no head: the threshold's value is wrong
eight_wrong : (l : List ℕ) → length l ≤ 200 → length (fields_of l) ≡ 8 → 8 ≤ wrong_at setting_at 0 (fields_of l) → first_line l ≡ None → Wrong l
unfolding setting_at
eight_wrong l short n h none-set =
    let fs = fields_of l in
    let right : (i : ℕ) → i < 8 → setting_at (0 + i) (get_or fs i []) ≡ true = λ i k. all_right setting_at fs 0 i (omega arith) (omega arith) in
    let (d, d₁, d₂) = size_is 1 8 (decimal (get_or fs 0 [])) (right 0 (omega arith)) in
    let (b, b₁, b₂) = size_is 2 16 (decimal (get_or fs 1 [])) (right 1 (omega arith)) in
    let (c, c₁, c₂) = size_is 1 16 (decimal (get_or fs 2 [])) (right 2 (omega arith)) in
    let (m, m₁, m₂) = size_is 1 24 (decimal (get_or fs 3 [])) (right 3 (omega arith)) in
    let (f, f₁) = some_is (feature_word (get_or fs 4 [])) (right 4 (omega arith)) in
    let (g, g₁) = some_is (distance_word (get_or fs 5 [])) (right 5 (omega arith)) in
    let (a, a₁) = some_is (distance_word (get_or fs 6 [])) (right 6 (omega arith)) in
    let (x, x₁) = some_is (hex_float (get_or fs 7 [])) (right 7 (omega arith)) in
    let set = line-eight l short n ∙ head-is fs d b c m f g a x d₁ b₁ c₁ m₁ f₁ g₁ a₁ x₁ in (
      x,
      x₁,
      isnt (threshold_within x) λ w. none-some _ (sym none-set ∙ set
          ∙ all-taken d b c m f g a x d₂ b₂ c₂ m₂ (feature_below _ f f₁) (distance_below _ g g₁) (distance_below _ a a₁) w),
    )

unfoldable is_threshold : Reason → Bool
is_threshold R.Long = false
is_threshold R.Return = false
is_threshold (R.Fields n) = false
is_threshold (R.Setting k) = false
is_threshold R.Threshold = true
is_threshold (R.Float k) = false
is_threshold (R.Shape n) = false
is_threshold R.Full = false

-- a line 1 that sets no head and is told as its threshold's value: that is wrong
pub threshold_wrong : (l : List ℕ) → first_reason l ≡ R.Threshold → first_line l ≡ None → Wrong l
unfolding first_reason reason_of is_threshold
threshold_wrong l e none-set =
    go (leb (length l) 200) (ends_in_return l) (eqb (length (fields_of l)) 8) (ltb (wrong_at setting_at 0 (fields_of l)) 8) refl refl refl (ap is_threshold e)
  where
    fs : List (List ℕ)
    fs = fields_of l

    go : (a b c d : Bool) → leb (length l) 200 ≡ a → eqb (length fs) 8 ≡ c → ltb (wrong_at setting_at 0 fs) 8 ≡ d
        → is_threshold (cond a (cond b R.Return (cond c (cond d (R.Setting (wrong_at setting_at 0 fs + 1)) R.Threshold) (R.Fields (length fs)))) R.Long) ≡ true
        → Wrong l
    go true false true false p q r s =
        eight_wrong l (leb-true (length l) 200 p) (eqb-true (length fs) 8 q) (ltb-false (wrong_at setting_at 0 fs) 8 r) none-set
    go true false true true p q r s = absurd (false≢true s)
    go true false false d p q r s = absurd (false≢true s)
    go true true c d p q r s = absurd (false≢true s)
    go false b c d p q r s = absurd (false≢true s)

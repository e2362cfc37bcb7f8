-- The first rule that a bad line breaks.
use Rattle.std.specs.Prelude.{ℕ, zero, suc, ◌+◌, ◌-◌, ◌≤◌, ◌<◌, Bool, true, false, cond, ◌&&◌, ◌≡◌, refl, ltb, eqb, length, get_or, Option, None, Some}
pub use Rattle.std.specs.Prelude.{is_some}
use Rattle.std.proofs.Math.Bool.{and-false, and-true}
use lib.Pointwise.{pointwise}
use Rattle.std.specs.List.{ends_with}
use mathlib.Core.List.{List, [], ◌∷◌}
use Rattle.std.proofs.Math.Path.{sym, ap}
use Rattle.std.proofs.Common.{◌∙◌, arith, add-one, leb-false, drop-cons}
use Rattle.std.proofs.lemmas.Bool.{lt-leb}
use Rattle.std.proofs.lemmas.Bool.Decides.{nat_tests}
use Rattle.std.proofs.Math.Dec.{leb}
use Rattle.std.proofs.Math.ListN.{drop}
use Rattle.std.proofs.Math.Seq.{drop-length}
use Rattle.head.specs.Limits.{within}
use Rattle.rules.specs.Listing.{fields_of, decimal, feature_word, distance_word, hex_float}
use Rattle.text.specs.Told.{few}
use Rattle.reasons.specs.declared.Reason.{Reason}
use Rattle.reasons.specs.declared.Reason.TheVariants as R

unfoldable pub ends_in_return : List ℕ → Bool
ends_in_return l = eqb (get_or l (length l - 1) 0) 13

-- ---- one field

unfoldable pub size_in : ℕ → ℕ → Option ℕ → Bool
size_in least most None = false
size_in least most (Some n) = within least most n

-- dim 1 to 8, branching 2 to 16, leaf_cap 1 to 16, M 1 to 24, feature, dist, abs, threshold
unfoldable pub setting_at : ℕ → List ℕ → Bool
setting_at zero f = size_in 1 8 (decimal f)
setting_at (suc zero) f = size_in 2 16 (decimal f)
setting_at (suc (suc zero)) f = size_in 1 16 (decimal f)
setting_at (suc (suc (suc zero))) f = size_in 1 24 (decimal f)
setting_at (suc (suc (suc (suc zero)))) f = is_some (feature_word f)
setting_at (suc (suc (suc (suc (suc zero))))) f = is_some (distance_word f)
setting_at (suc (suc (suc (suc (suc (suc zero)))))) f = is_some (distance_word f)
setting_at (suc (suc (suc (suc (suc (suc (suc k))))))) f = is_some (hex_float f)

-- every field of a row is a float
unfoldable pub float_at : ℕ → List ℕ → Bool
float_at k f = is_some (hex_float f)

-- the first of the fields from place k on that is not as asked, or the end
unfoldable pub wrong_at : (ℕ → List ℕ → Bool) → ℕ → List (List ℕ) → ℕ
wrong_at ok k [] = k
wrong_at ok k (f ∷ fs) = elim (ok k f) [ true ↦ wrong_at ok (suc k) fs | false ↦ k ]

-- ---- one line

-- over 200 bytes, a carriage return at the end, or what its fields say
unfoldable pub reason_of : List ℕ → Reason → Reason
reason_of l why = cond (leb (length l) 200) (cond (ends_in_return l) R.Return why) R.Long

-- eight fields, each of which spells its setting: then the threshold's value is wrong
unfoldable pub first_reason : List ℕ → Reason
first_reason l =
    let fs = fields_of l in
    let k = wrong_at setting_at 0 fs in
    reason_of l (cond (eqb (length fs) 8) (cond (ltb k 8) (R.Setting (k + 1)) R.Threshold) (R.Fields (length fs)))

-- each field is a float: then there are not dim of them
unfoldable pub row_reason : List ℕ → Reason
row_reason l =
    let fs = fields_of l in
    let k = wrong_at float_at 0 fs in
    reason_of l (cond (ltb k (length fs)) (R.Float (k + 1)) (R.Shape (length fs)))

-- ---- as code reads them

last_byte : (l : List ℕ) → 0 < length l → drop (length l - 1) l ≡ get_or l (length l - 1) 0 ∷ []
last_byte l h =
    let e : suc (length l - 1) ≡ length l = omega arith in
    drop-cons l (length l - 1) 0 (omega arith) ∙ ap (λ n. get_or l (length l - 1) 0 ∷ drop n l) e ∙ ap (λ r. get_or l (length l - 1) 0 ∷ r) (drop-length l)

eqb_turned : (a b : ℕ) → eqb a b ≡ eqb b a
eqb_turned a b = grind (arith, nat_tests)

-- an empty line has no last byte
pub return_ends : (l : List ℕ) → ends_with eqb l (13 ∷ []) ≡ ends_in_return l
unfolding ends_in_return
return_ends [] = refl
return_ends (b ∷ l) =
    let x = get_or (b ∷ l) (length (b ∷ l) - 1) 0 in
    ap (pointwise eqb (13 ∷ [])) (last_byte (b ∷ l) (omega arith)) ∙ and-true (eqb 13 x) ∙ eqb_turned 13 x

-- a number that code does not read is over every limit
pub size_few : (least most : ℕ) → most ≤ 1_000_000_000 → (o : Option ℕ) → size_in least most (few o) ≡ size_in least most o
unfolding size_in few
size_few least most h None = refl
size_few least most h (Some n) = go (leb n 1_000_000_000) refl
  where
    go : (t : Bool) → leb n 1_000_000_000 ≡ t → size_in least most (cond t (Some n) None) ≡ within least most n
    go true e = refl
    go false e =
        let over = leb-false n 1_000_000_000 e in
        unfold within in sym (ap (λ t. leb least n && t) (lt-leb n most (omega arith)) ∙ and-false (leb least n))

-- field after field
module _ (ok : ℕ → List ℕ → Bool) (fs : List (List ℕ)) (k : ℕ) where
  abbrev next : Bool → ℕ
  next t = elim t [ true ↦ wrong_at ok (suc k) (drop (suc k) fs) | false ↦ k ]

  here : k < length fs → wrong_at ok k (drop k fs) ≡ next (ok k (get_or fs k []))
  unfolding wrong_at
  here h = ap (wrong_at ok k) (drop-cons fs k [] h)

  pub wrong_stop : k < length fs → ok k (get_or fs k []) ≡ false → wrong_at ok k (drop k fs) ≡ k
  wrong_stop h e = here h ∙ ap next e

  pub wrong_more : k < length fs → ok k (get_or fs k []) ≡ true → wrong_at ok (k + 1) (drop (k + 1) fs) ≡ wrong_at ok k (drop k fs)
  wrong_more h e = ap (λ n. wrong_at ok n (drop n fs)) (add-one k) ∙ sym (here h ∙ ap next e)

  pub wrong_end : k ≡ length fs → wrong_at ok k (drop k fs) ≡ k
  unfolding wrong_at
  wrong_end e = ap (wrong_at ok k) (ap (λ n. drop n fs) e ∙ drop-length fs)

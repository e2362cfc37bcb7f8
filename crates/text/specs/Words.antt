-- Words letter by letter.
use Rattle.std.specs.Prelude.{ℕ, suc, ◌+◌, ◌<◌, Bool, true, false, ◌&&◌, List, [], ◌∷◌, ◌≡◌, eqb, length, get_or, drop, Option, None, Some}
use Rattle.std.proofs.Math.Bool.{cond, and-false}
use Rattle.std.proofs.Math.Path.{refl, ap}
use Rattle.std.proofs.Common.{◌∙◌, eq-eqb, ne_eqb}
use Prim.Native.String.{String}
use lib.Pointwise.{pointwise}
use Rattle.rules.specs.Listing.{bytes, same, word_at}
use Rattle.text.specs.Places.{from_here, from_end}

pub same_long : (a b : List ℕ) → (length a ≡ length b → ⊥) → same a b ≡ false
unfolding same
same_long [] [] h = absurd (h refl)
same_long [] (y ∷ b) h = refl
same_long (x ∷ a) [] h = refl
same_long (x ∷ a) (y ∷ b) h = rw (same_long a b (λ e. h (ap suc e))) (and-false (eqb x y))

pub same-equal : (a b : List ℕ) → pointwise eqb a b ≡ same a b
unfolding same
same-equal [] [] = refl
same-equal [] (y ∷ b) = refl
same-equal (x ∷ a) [] = refl
same-equal (x ∷ a) (y ∷ b) = ap (λ t. eqb x y && t) (same-equal a b)

module _ (a b : List ℕ) (i : ℕ) where
  -- from letter i on
  unfoldable pub same_from : Bool
  same_from = same (drop i a) (drop i b)

firsts : (a b : List ℕ) (i : ℕ) → i < length a → i < length b → same_from a b i ≡ (eqb (get_or a i 0) (get_or b i 0) && same_from a b (i + 1))
unfolding same_from same
firsts a b i h k =
    ap (λ l. same l (drop i b)) (from_here a i h) ∙ ap (λ l. same (get_or a i 0 ∷ drop (i + 1) a) l) (from_here b i k)

module _ (a b : List ℕ) (i : ℕ) where
  pub same-all : same a b ≡ same_from a b 0
  unfolding same_from
  same-all = refl

  pub same_other : i < length a → i < length b → (get_or a i 0 ≡ get_or b i 0 → ⊥) → same_from a b i ≡ false
  same_other h k e = firsts a b i h k ∙ ap (λ t. t && same_from a b (i + 1)) (ne_eqb (get_or a i 0) (get_or b i 0) e)

  pub same_more : i < length a → i < length b → get_or a i 0 ≡ get_or b i 0 → same_from a b i ≡ same_from a b (i + 1)
  same_more h k e = firsts a b i h k ∙ ap (λ t. t && same_from a b (i + 1)) (eq-eqb (get_or a i 0) (get_or b i 0) e)

  pub same_end : i ≡ length a → length a ≡ length b → same_from a b i ≡ true
  unfolding same_from same
  same_end e l =
      ap (λ t. same t (drop i b)) (from_end a i e) ∙ ap (same []) (from_end b i (e ∙ l))

-- ---- the place of a word

module _ (n : ℕ) (w : String) (ws : List String) (l : List ℕ) where
  pub word_here : same l (bytes w) ≡ true → word_at n (w ∷ ws) l ≡ Some n
  unfolding word_at
  word_here e = ap (λ t. cond t (Some n) (word_at (suc n) ws l)) e

  pub word_later : same l (bytes w) ≡ false → word_at n (w ∷ ws) l ≡ word_at (suc n) ws l
  unfolding word_at
  word_later e = ap (λ t. cond t (Some n) (word_at (suc n) ws l)) e

pub word_none : (n : ℕ) (l : List ℕ) → word_at n [] l ≡ None
unfolding word_at
word_none n l = refl

-- the words from place n on
unfoldable pub feature_from : ℕ → List ℕ → Option ℕ
feature_from n l = word_at n (drop n ("spherical" ∷ "diagonal" ∷ [])) l

unfoldable pub distance_from : ℕ → List ℕ → Option ℕ
distance_from n l = word_at n (drop n ("euclidean" ∷ "manhattan" ∷ "inter" ∷ "intra" ∷ "increase" ∷ "radius" ∷ [])) l

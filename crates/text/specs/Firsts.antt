-- The first line field by field: a field that does not read leaves no head.
use Rattle.std.specs.Prelude.{ℕ, ◌≤◌, ◌<◌, Bool, true, false, ◌&&◌, List, [], ◌≡◌, leb, eqb, length, get_or, Float, Option, None, Some}
use Rattle.std.proofs.lemmas.Option.{none-some, same_Some}
use Rattle.std.proofs.Common.{sym}
use Rattle.std.proofs.Math.Bool.{cond, and-false}
use Rattle.std.proofs.Math.Path.{refl, ap}
use Rattle.std.proofs.Common.{◌∙◌, arith, le-leb, leb-false, eq-eqb, ne_eqb}
use Rattle.std.proofs.lemmas.Bool.{lt-leb}
use Rattle.head.specs.declared.Head.{Head}
use Rattle.head.specs.Heads.{new_head, settings_of}
use Rattle.head.specs.Limits.{Sized, allowed, allowed-sized}
use Rattle.rules.specs.Listing.{and_then, fields_of, fields_in, decimal, feature_word, distance_word, hex_float, taken, head_from, first_line}
use Rattle.text.specs.Told.{few}

-- ---- one after the other

module _ {A B : Type 0} where
  pub then_none : (o : Option A) (f : A → Option B) → ((a : A) → f a ≡ None) → and_then o f ≡ None
  unfolding and_then
  then_none None f h = refl
  then_none (Some a) f h = h a

  pub stops : (o : Option A) (f : A → Option B) → o ≡ None → and_then o f ≡ None
  unfolding and_then
  stops o f e = ap (λ p. and_then p f) e

  pub goes : (o : Option A) (f : A → Option B) (a : A) → o ≡ Some a → and_then o f ≡ f a
  unfolding and_then
  goes o f a e = ap (λ p. and_then p f) e

few_case : (t : Bool) (n : ℕ) → cond t (Some n) None ≡ None → t ≡ false
few_case true n e = absurd (none-some n (sym e))
few_case false n e = refl

few_much : (n : ℕ) → few (Some n) ≡ None → 1_000_000_000 < n
unfolding few
few_much n e = leb-false n 1_000_000_000 (few_case (leb n 1_000_000_000) n e)

few-is : (t : Bool) (n m : ℕ) → cond t (Some n) None ≡ Some m → n ≡ m
few-is true n m e = same_Some n m e
few-is false n m e = absurd (none-some m e)

-- a number that code reads is the field's
pub few-some : (o : Option ℕ) (n : ℕ) → few o ≡ Some n → o ≡ Some n
unfolding few
few-some None n e = e
few-some (Some m) n e = ap Some (few-is (leb m 1_000_000_000) m n e)

only-few : {B : Type 0} (o : Option ℕ) (f : ℕ → Option B) → few o ≡ None → ((n : ℕ) → 1_000_000_000 < n → f n ≡ None) → and_then o f ≡ None
unfolding and_then
only-few None f e h = refl
only-few (Some n) f e h = h n (few_much n e)

-- ---- what no head has

isnt : (t : Bool) → (t ≡ true → ⊥) → t ≡ false
isnt true h = absurd (h refl)
isnt false h = refl

module _ (h : Head) where
  pub not-allowed : allowed h ≡ false → taken h ≡ None
  unfolding taken
  not-allowed e =
      ap (λ t. cond (leb h.max_leaves 24 && t) (Some h) None) e ∙ ap (λ t. cond t (Some h) None) (and-false (leb h.max_leaves 24))

  pub too_many : 24 < h.max_leaves → taken h ≡ None
  unfolding taken
  too_many l = ap (λ t. cond (t && allowed h) (Some h) None) (lt-leb h.max_leaves 24 l)

  pub is-taken : h.max_leaves ≤ 24 → allowed h ≡ true → taken h ≡ Some h
  unfolding taken
  is-taken l e =
      ap (λ t. cond (t && allowed h) (Some h) None) (le-leb h.max_leaves 24 l) ∙ ap (λ t. cond t (Some h) None) e

  unsized : (Sized (settings_of h) → ⊥) → taken h ≡ None
  unsized k = not-allowed (isnt (allowed h) (λ e. k (allowed-sized h e)))

-- a size of over a thousand million is outside its limits
module _ (d b l m f g a : ℕ) (x : Float) where
  dim_over : 1_000_000_000 < d → taken (new_head d b l m f g a x) ≡ None
  unfolding new_head settings_of
  dim_over h = unsized (new_head d b l m f g a x) (λ s. (let k = s.dim_few in omega arith))

  branching_over : 1_000_000_000 < b → taken (new_head d b l m f g a x) ≡ None
  unfolding new_head settings_of
  branching_over h = unsized (new_head d b l m f g a x) (λ s. (let k = s.branching_few in omega arith))

  leaf-over : 1_000_000_000 < l → taken (new_head d b l m f g a x) ≡ None
  unfolding new_head settings_of
  leaf-over h = unsized (new_head d b l m f g a x) (λ s. (let k = s.leaf-few in omega arith))

  most-over : 1_000_000_000 < m → taken (new_head d b l m f g a x) ≡ None
  unfolding new_head settings_of
  most-over h = unsized (new_head d b l m f g a x) (λ s. (let k = s.most-few in omega arith))

-- ---- a field that does not read

module _ (fs : List (List ℕ)) where
  pub no_dim : few (decimal (get_or fs 0 [])) ≡ None → head_from fs ≡ None
  unfolding head_from
  no_dim e =
      only-few _ _ e λ d h. then_none _ _ λ b. then_none _ _ λ l. then_none _ _ λ m. then_none _ _ λ f. then_none _ _ λ g. then_none _ _ λ a. then_none _ _
      λ x. dim_over d b l m f g a x h

  pub no_branching : few (decimal (get_or fs 1 [])) ≡ None → head_from fs ≡ None
  unfolding head_from
  no_branching e =
      then_none _ _ λ d. only-few _ _ e λ b h. then_none _ _ λ l. then_none _ _ λ m. then_none _ _ λ f. then_none _ _ λ g. then_none _ _ λ a. then_none _ _
      λ x. branching_over d b l m f g a x h

  pub no_leaf-cap : few (decimal (get_or fs 2 [])) ≡ None → head_from fs ≡ None
  unfolding head_from
  no_leaf-cap e =
      then_none _ _ λ d. then_none _ _ λ b. only-few _ _ e λ l h. then_none _ _ λ m. then_none _ _ λ f. then_none _ _ λ g. then_none _ _ λ a. then_none _ _
      λ x. leaf-over d b l m f g a x h

  pub no_most : few (decimal (get_or fs 3 [])) ≡ None → head_from fs ≡ None
  unfolding head_from
  no_most e =
      then_none _ _ λ d. then_none _ _ λ b. then_none _ _ λ l. only-few _ _ e λ m h. then_none _ _ λ f. then_none _ _ λ g. then_none _ _ λ a. then_none _ _
      λ x. most-over d b l m f g a x h

  pub no_feature : feature_word (get_or fs 4 []) ≡ None → head_from fs ≡ None
  unfolding head_from
  no_feature e = then_none _ _ λ d. then_none _ _ λ b. then_none _ _ λ l. then_none _ _ λ m. stops _ _ e

  pub no_dist : distance_word (get_or fs 5 []) ≡ None → head_from fs ≡ None
  unfolding head_from
  no_dist e = then_none _ _ λ d. then_none _ _ λ b. then_none _ _ λ l. then_none _ _ λ m. then_none _ _ λ f. stops _ _ e

  pub no_abs : distance_word (get_or fs 6 []) ≡ None → head_from fs ≡ None
  unfolding head_from
  no_abs e = then_none _ _ λ d. then_none _ _ λ b. then_none _ _ λ l. then_none _ _ λ m. then_none _ _ λ f. then_none _ _ λ g. stops _ _ e

  pub no_threshold : hex_float (get_or fs 7 []) ≡ None → head_from fs ≡ None
  unfolding head_from
  no_threshold e =
      then_none _ _ λ d. then_none _ _ λ b. then_none _ _ λ l. then_none _ _ λ m. then_none _ _ λ f. then_none _ _ λ g. then_none _ _ λ a. stops _ _ e

  -- all eight read
  pub head-is : (d b l m f g a : ℕ) (x : Float) → decimal (get_or fs 0 []) ≡ Some d → decimal (get_or fs 1 []) ≡ Some b
      → decimal (get_or fs 2 []) ≡ Some l → decimal (get_or fs 3 []) ≡ Some m → feature_word (get_or fs 4 []) ≡ Some f
      → distance_word (get_or fs 5 []) ≡ Some g → distance_word (get_or fs 6 []) ≡ Some a → hex_float (get_or fs 7 []) ≡ Some x
      → head_from fs ≡ taken (new_head d b l m f g a x)
  unfolding head_from
  head-is d b l m f g a x e0 e1 e2 e3 e4 e5 e6 e7 =
      goes _ _ d e0 ∙ goes _ _ b e1 ∙ goes _ _ l e2 ∙ goes _ _ m e3 ∙ goes _ _ f e4 ∙ goes _ _ g e5 ∙ goes _ _ a e6 ∙ goes _ _ x e7

-- ---- the line

module _ (l : List ℕ) where
  pub line_long : 200 < length l → first_line l ≡ None
  unfolding first_line fields_in
  line_long h = stops _ _ (ap (λ t. cond t (Some (fields_of l)) None) (lt-leb (length l) 200 h))

  short : length l ≤ 200 → first_line l ≡ cond (eqb (length (fields_of l)) 8) (head_from (fields_of l)) None
  unfolding first_line fields_in
  short h = goes _ _ (fields_of l) (ap (λ t. cond t (Some (fields_of l)) None) (le-leb (length l) 200 h))

  pub line_other : length l ≤ 200 → (length (fields_of l) ≡ 8 → ⊥) → first_line l ≡ None
  line_other h n = short h ∙ ap (λ t. cond t (head_from (fields_of l)) None) (ne_eqb (length (fields_of l)) 8 n)

  pub line-eight : length l ≤ 200 → length (fields_of l) ≡ 8 → first_line l ≡ head_from (fields_of l)
  line-eight h n = short h ∙ ap (λ t. cond t (head_from (fields_of l)) None) (eq-eqb (length (fields_of l)) 8 n)

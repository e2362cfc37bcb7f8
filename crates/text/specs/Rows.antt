-- The row of a line.
use Rattle.std.specs.Prelude.{ℕ, zero, suc, ◌+◌, ◌≤◌, ◌<◌, List, [], ◌∷◌, ◌++◌, ◌≡◌, length, get_or, take, set, Float, Option, None, Some}
use Rattle.std.proofs.lemmas.Option.{none-some, same_Some}
use Rattle.std.proofs.Math.Bool.{cond}
use Rattle.std.proofs.Math.Path.{refl, ap}
use Rattle.std.proofs.Common.{sym, subst, ◌∙◌, arith, add-one, le-leb, ne_eqb, take_all, take-suc, take-suc-set, drop-set-lt, drop-drop}
use Rattle.std.proofs.lemmas.Bool.{lt-leb}
use Rattle.std.proofs.Math.ListN.{drop}
use Rattle.head.specs.declared.Settings.{Settings}
use Rattle.rules.specs.Tree.{Tree}
use Rattle.head.specs.declared.refusal.Refusal.TheVariants as R
use Rattle.rules.specs.Calls.{unless, row_shape_refusal, insert_full_refusal, row_asked}
use Rattle.rules.specs.Listing.{and_then, fields_of, fields_in, hex_float, hex_floats, row_in, line_in}
use Rattle.text.specs.declared.RowLine.{RowLine}
use Rattle.text.specs.declared.RowLine.TheVariants.{Row, Malformed}
use Rattle.text.specs.Firsts.{then_none, stops, goes}

-- the floats of a line
unfoldable pub floats_in : List ℕ → Option (List Float)
floats_in l = and_then (fields_in l) hex_floats

-- of the floats o that a line has: dim of them are at the front of a row, or there are not dim
unfoldable pub RowRead : ℕ → Option (List Float) → List Float → List Float → RowLine → Type 0
RowRead dim o before after Row = (o ≡ Some (take dim after)) × (drop dim after ≡ drop dim before)
RowRead dim o before after Malformed = (x : List Float) → o ≡ Some x → length x ≡ dim → ⊥

module _ (dim : ℕ) (before after : List Float) where
  pub none_read : (o : Option (List Float)) → o ≡ None → RowRead dim o before after Malformed
  unfolding RowRead
  none_read o e x f l = none-some x (sym e ∙ f)

-- ---- a line's row is what the rules insert

then_then : {A B C : Type 0} (o : Option A) (f : A → Option B) (g : B → Option C) → and_then (and_then o f) g ≡ and_then o λ a. and_then (f a) g
unfolding and_then
then_then None f g = refl
then_then (Some a) f g = refl

pub line-floats : (s : Settings) (t : Tree) (l : List ℕ) → line_in s t l ≡ and_then (floats_in l) λ x. row_in s t x (row_asked s t x)
unfolding line_in floats_in
line-floats s t l = sym (then_then (fields_in l) hex_floats λ x. row_in s t x (row_asked s t x))

-- ---- float by float

snoc_case : (o : Option Float) (p : Option (List Float)) (q : Option Float)
    → (and_then o λ y. and_then (and_then p λ xs. and_then q λ x. Some (xs ++ (x ∷ []))) λ ys. Some (y ∷ ys))
    ≡ and_then (and_then o λ y. and_then p λ ys. Some (y ∷ ys)) λ xs. and_then q λ x. Some (xs ++ (x ∷ []))
unfolding and_then
snoc_case None p q = refl
snoc_case (Some y) None q = refl
snoc_case (Some y) (Some ys) None = refl
snoc_case (Some y) (Some ys) (Some x) = refl

floats-snoc : (fs : List (List ℕ)) (f : List ℕ) → hex_floats (fs ++ (f ∷ [])) ≡ and_then (hex_floats fs) λ xs. and_then (hex_float f) λ x. Some (xs ++ (x ∷ []))
unfolding hex_floats and_then
floats-snoc [] f = refl
floats-snoc (g ∷ fs) f =
    ap (λ p. and_then (hex_float g) λ y. and_then p λ ys. Some (y ∷ ys)) (floats-snoc fs f) ∙ snoc_case (hex_float g) (hex_floats fs) (hex_float f)

pub floats_stop : (fs : List (List ℕ)) (k : ℕ) → k < length fs → hex_float (get_or fs k []) ≡ None → hex_floats fs ≡ None
unfolding hex_floats
floats_stop [] k h e = absurd (omega arith)
floats_stop (f ∷ fs) zero h e = stops _ _ e
floats_stop (f ∷ fs) (suc k) h e = then_none _ _ λ x. stops _ _ (floats_stop fs k (omega arith) e)

-- the first k fields are the first k of the row, of which the rest is as it was
pub record FrontRead (fs : List (List ℕ)) (before after : List Float) (k : ℕ) : Type 0 where
  pub front : hex_floats (take k fs) ≡ Some (take k after)
  pub rest : drop k after ≡ drop k before

module _ (fs : List (List ℕ)) (before : List Float) where
  pub front_none : FrontRead fs before before 0
  unfolding hex_floats
  front_none = record { front = refl; rest = refl }

  pub front_more : (after : List Float) (k : ℕ) (x : Float) → FrontRead fs before after k → k < length fs → k < length after → hex_float (get_or fs k []) ≡ Some x
      → FrontRead fs before (set after k x) (k + 1)
  front_more after k x r h l e =
      record {
        front =
            ap (λ n. hex_floats (take n fs)) (add-one k) ∙ ap hex_floats (take-suc fs k [] h) ∙ floats-snoc (take k fs) (get_or fs k [])
            ∙ goes _ _ (take k after) r.front ∙ goes _ _ x e ∙ ap Some (sym (take-suc-set after k x l) ∙ ap (λ n. take n (set after k x)) (sym (add-one k)));
        rest =
            drop-set-lt (k + 1) after k x (omega arith) ∙ sym (drop-drop 1 k after) ∙ ap (drop 1) r.rest ∙ drop-drop 1 k before;
      }

  pub front_all : (after : List Float) (k dim : ℕ) → FrontRead fs before after k → k ≡ dim → length fs ≡ dim → RowRead dim (hex_floats fs) before after Row
  unfolding RowRead
  front_all after k dim r e l = (
    ap hex_floats (sym (take_all dim fs (omega arith))) ∙ ap (λ n. hex_floats (take n fs)) (sym e) ∙ r.front ∙ ap (λ n. Some (take n after)) e,
    ap (λ n. drop n after) (sym e) ∙ r.rest ∙ ap (λ n. drop n before) e,
  )

-- ---- a line that is too long, or has more or fewer fields

floats-step : (o : Option Float) (p : Option (List Float)) (x : List Float) (n : ℕ) → ((y : List Float) → p ≡ Some y → length y ≡ n)
    → (and_then o λ y. and_then p λ ys. Some (y ∷ ys)) ≡ Some x → length x ≡ suc n
unfolding and_then
floats-step None p x n h e = absurd (none-some x e)
floats-step (Some y) None x n h e = absurd (none-some x e)
floats-step (Some y) (Some ys) x n h e = sym (ap length (same_Some (y ∷ ys) x e)) ∙ ap suc (h ys refl)

floats-length : (fs : List (List ℕ)) (x : List Float) → hex_floats fs ≡ Some x → length x ≡ length fs
unfolding hex_floats
floats-length [] x e = sym (ap length (same_Some [] x e))
floats-length (f ∷ fs) x e = floats-step (hex_float f) (hex_floats fs) x (length fs) (λ y d. floats-length fs y d) e

module _ (l : List ℕ) where
  pub floats_long : 200 < length l → floats_in l ≡ None
  unfolding floats_in fields_in
  floats_long h = stops _ _ (ap (λ t. cond t (Some (fields_of l)) None) (lt-leb (length l) 200 h))

  pub floats_short : length l ≤ 200 → floats_in l ≡ hex_floats (fields_of l)
  unfolding floats_in fields_in
  floats_short h = goes _ _ (fields_of l) (ap (λ t. cond t (Some (fields_of l)) None) (le-leb (length l) 200 h))

  pub other_read : (dim : ℕ) (before after : List Float) → length l ≤ 200 → (length (fields_of l) ≡ dim → ⊥) → RowRead dim (floats_in l) before after Malformed
  unfolding RowRead
  other_read dim before after h n x e d = n (sym (floats-length (fields_of l) x (sym (floats_short h) ∙ e)) ∙ d)

  pub short_read : (dim : ℕ) (before after : List Float) (r : RowLine) → length l ≤ 200 → RowRead dim (hex_floats (fields_of l)) before after r
      → RowRead dim (floats_in l) before after r
  short_read dim before after r h k = subst (λ o. RowRead dim o before after r) (sym (floats_short h)) k

-- ---- what the listing does with it

module _ (s : Settings) (t : Tree) (l : List ℕ) (before after : List Float) where
  pub row_listed : RowRead s.dim (floats_in l) before after Row
      → line_in s t l ≡ row_in s t (take s.dim after) (row_asked s t (take s.dim after))
  unfolding RowRead
  row_listed r = line-floats s t l ∙ goes _ _ (take s.dim after) r.0

  shape_refused : (x : List Float) → (length x ≡ s.dim → ⊥) → row_in s t x (row_asked s t x) ≡ None
  unfolding row_asked row_shape_refusal unless row_in
  shape_refused x n = ap (λ b. row_in s t x (unless b (R.Shape s.dim (length x)) ++ insert_full_refusal t 1)) (ne_eqb (length x) s.dim n)

  refused_case : (o : Option (List Float)) → RowRead s.dim o before after Malformed → (and_then o λ x. row_in s t x (row_asked s t x)) ≡ None
  unfolding RowRead and_then
  refused_case None r = refl
  refused_case (Some x) r = shape_refused x (r x refl)

  pub malformed_listed : RowRead s.dim (floats_in l) before after Malformed → line_in s t l ≡ None
  malformed_listed r = line-floats s t l ∙ refused_case (floats_in l) r

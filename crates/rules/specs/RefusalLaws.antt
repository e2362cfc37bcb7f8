-- Refusals in their order: the first that applies is given, and none applies exactly where every test passes.
use Rattle.std.specs.Prelude.{ℕ, ◌+◌, ◌%◌, ◌≤◌, ◌<◌, Bool, false, cond, ◌||◌, List, [], ◌∷◌, ◌++◌, length, eqb, Ok, Err}
use Rattle.std.proofs.Math.Path.{◌≡◌, refl}
use Rattle.std.proofs.Math.Bool.{true}
use Rattle.std.proofs.Common.{arith}
use borrow.Author.Tests.{leb-true, eqb-true, ne_eqb}
use Rattle.std.proofs.Math.Dec.{leb}
use Rattle.binary64.specs.Whole.{most}
use Rattle.head.specs.declared.refusal.Refusal.{Refusal}
use Rattle.head.specs.declared.refusal.Refusal.TheVariants as R
use Rattle.rules.specs.Tree.{Tree}
use Rattle.rules.specs.Check.{total_of, Verdict}
use Rattle.rules.specs.Calls.{unless, answer_of, room_refusal, tree_refusal, row_shape_refusal, batch_shape_refusal, empty_refusal, insert_full_refusal, refit_full_refusal, output_refusal}

-- ---- the first that applies

-- a test that fails is answered before the later ones, and one that passes leaves the answer to them
pub first_given : (b : Bool) (r : Refusal) (rs : List Refusal) → answer_of (unless b r ++ rs) ≡ cond b (answer_of rs) (Err r)
unfolding answer_of unless
first_given true r rs = refl
first_given false r rs = refl

module _ (b : Bool) (r : Refusal) (ys : List Refusal) where
  pub unless_refused : b ≡ false → Err r ≡ answer_of (unless b r ++ ys)
  unfolding unless answer_of
  unless_refused e = rw e

  pub unless_passed : b ≡ true → answer_of ys ≡ answer_of (unless b r ++ ys)
  unfolding unless
  unless_passed e = rw e

-- the last test
module _ (b : Bool) (r : Refusal) where
  pub only_refused : b ≡ false → Err r ≡ answer_of (unless b r)
  unfolding unless answer_of
  only_refused e = rw e

  pub only_passed : b ≡ true → Ok tt ≡ answer_of (unless b r)
  unfolding unless answer_of
  only_passed e = rw e

pub accepted_none : (xs : List Refusal) → answer_of xs ≡ Ok tt → xs ≡ []
unfolding answer_of
accepted_none [] e = refl
accepted_none (x ∷ xs) e = let z : ◌≡◌ {A = ℕ} 0 1 = cc in absurd (omega arith)

module _ (xs ys : List Refusal) where
  -- where none of the first applies, the answer is the others'
  pub answer_then : answer_of xs ≡ Ok tt → answer_of ys ≡ answer_of (xs ++ ys)
  answer_then e = rw (accepted_none xs e)

  -- where one does, it is given
  pub answer_first : {r : Refusal} → answer_of xs ≡ Err r → answer_of xs ≡ answer_of (xs ++ ys)
  answer_first {r} e = go xs e
    where
      go : (xs : List Refusal) → answer_of xs ≡ Err r → answer_of xs ≡ answer_of (xs ++ ys)
      go [] e = unfold answer_of in (let z : ◌≡◌ {A = ℕ} 0 1 = cc in absurd (omega arith))
      go (x ∷ xs) e = unfold answer_of in refl

-- ---- none applies: every test passes

pub none_both : {A : Type 0} (xs ys : List A) → xs ++ ys ≡ [] → (xs ≡ []) × (ys ≡ [])
none_both [] ys e = (refl, e)
none_both (x ∷ xs) ys e = let z : ◌≡◌ {A = ℕ} 0 1 = cc in absurd (omega arith)

pub unless-none : (b : Bool) (r : Refusal) → unless b r ≡ [] → b ≡ true
unfolding unless
unless-none true r e = refl
unless-none false r e = let z : ◌≡◌ {A = ℕ} 0 1 = cc in absurd (omega arith)

-- 2
pub room_none : (needed n : ℕ) → room_refusal needed n ≡ [] → needed ≤ n
unfolding room_refusal
room_none needed n e = leb-true needed n (unless-none (leb needed n) R.Room e)

-- 3
pub tree-none : (v : Verdict) → tree_refusal v ≡ [] → v ≡ Ok tt
unfolding tree_refusal
tree-none (Ok tt) e = refl
tree-none (Err n) e = let z : ◌≡◌ {A = ℕ} 0 1 = cc in absurd (omega arith)

-- 4
pub row_shape_none : (dim n : ℕ) → row_shape_refusal dim n ≡ [] → n ≡ dim
unfolding row_shape_refusal
row_shape_none dim n e = eqb-true n dim (unless-none (eqb n dim) _ e)

pub batch_shape_none : (dim n : ℕ) → batch_shape_refusal dim n ≡ [] → n % dim ≡ 0
unfolding batch_shape_refusal
batch_shape_none dim n e = eqb-true (n % dim) 0 (unless-none (eqb (n % dim) 0) (R.Shape dim (n % dim)) e)

module _ (t : Tree) (rows : ℕ) where
  -- 5
  pub empty_none : empty_refusal t rows ≡ [] → 0 < rows → 0 < length t.entries
  unfolding empty_refusal
  empty_none e some =
      let here : (eqb rows 0 || leb 1 (length t.entries)) ≡ true = unless-none _ R.Empty e in
      leb-true 1 (length t.entries) (rw (ne_eqb rows 0 (λ z. omega arith)) at here)

  -- 6
  pub insert_full_none : insert_full_refusal t rows ≡ [] → total_of t.entries + rows ≤ most
  unfolding insert_full_refusal
  insert_full_none e = leb-true _ most (unless-none (leb (total_of t.entries + rows) most) R.Full e)

  pub refit_full_none : refit_full_refusal t rows ≡ [] → 0 < length t.entries → rows ≤ most
  unfolding refit_full_refusal
  refit_full_none e some =
      let here : (eqb (length t.entries) 0 || leb rows most) ≡ true = unless-none _ R.Full e in
      leb-true rows most (rw (ne_eqb (length t.entries) 0 (λ z. omega arith)) at here)

-- 7
pub output_none : (numbers n : ℕ) → output_refusal numbers n ≡ [] → numbers ≤ n
unfolding output_refusal
output_none numbers n e = leb-true numbers n (unless-none (leb numbers n) R.Output e)

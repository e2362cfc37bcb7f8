-- Each refusal by its test: given where the test says so, and nothing where it does not.
use Rattle.std.specs.Prelude.{ℕ, ◌+◌, ◌%◌, ◌≤◌, ◌<◌, ◌≡◌, refl, Bool, true, false, ◌||◌, eqb, List, ◌++◌, length, Result, Ok, Err, MatchResult, IsErrAnd}
use Rattle.std.proofs.Common.{arith, sym, ap, ◌∙◌}
use Rattle.std.proofs.lemmas.Result.{err_from_is_err_and}
use borrow.Author.Tests.{le-leb, lt-leb, eq-eqb, ne_eqb}
use Rattle.binary64.specs.Whole.{most}
use Rattle.head.specs.declared.refusal.Condition.{Condition}
use Rattle.head.specs.declared.refusal.Refusal.{Refusal}
use Rattle.head.specs.declared.refusal.Refusal.TheVariants as R
use Rattle.head.specs.Refusals.{Answer, number_of_condition}
use Rattle.rules.specs.Check.{total_of, Verdict}
use Rattle.rules.specs.Tree.{Tree}
use Rattle.rules.specs.Calls.{answer_of, tree_refusal, batch_shape_refusal, empty_refusal, insert_full_refusal, refit_full_refusal, output_refusal}
use Rattle.rules.specs.RefusalLaws.{only_refused, only_passed, answer_then, answer_first}

-- ---- a call's refusals in turn

-- what a `?` gives back: the refusal that it met
pub passed_up : {A : Type 0} {a : Result A Refusal} {r : Refusal} → IsErrAnd a (λ q. q ≡ r) → a ≡ Err r
passed_up {a = a} e = let p = err_from_is_err_and a e in p.1 ∙ ap Err p.2

module _ (xs ys : List Refusal) where
  -- the first that applies is given
  pub refused_first : {r : Refusal} → Err r ≡ answer_of xs → Err r ≡ answer_of (xs ++ ys)
  refused_first e = e ∙ answer_first xs ys (sym e)

  -- where none of the first does, the answer is the others'
  pub others_answer : {a : Answer} → Ok tt ≡ answer_of xs → a ≡ answer_of ys → a ≡ answer_of (xs ++ ys)
  others_answer e q = q ∙ answer_then xs ys (sym e)

-- ---- each

-- 3: the number of the condition that fails, as the refusal, whatever function made it so
pub tree_told : (P : Condition → Refusal → Type 0) → ((k : Condition) (r : Refusal) → P k r → r ≡ R.Tree (number_of_condition k))
    → {a : Answer} (v : Verdict) → MatchResult v (λ x. a ≡ Ok x) (λ k. IsErrAnd a (P k)) → a ≡ answer_of (tree_refusal v)
unfolding tree_refusal answer_of
tree_told P f (Ok tt) e = e
tree_told P f {a = a} (Err k) e = let p = err_from_is_err_and a e in p.1 ∙ ap Err (f k p.0 p.2)

-- 4
module _ (dim n : ℕ) where
  pub rest-left : (n % dim ≡ 0 → ⊥) → Err (R.Shape dim (n % dim)) ≡ answer_of (batch_shape_refusal dim n)
  unfolding batch_shape_refusal
  rest-left h = only_refused _ _ (ne_eqb (n % dim) 0 h)

  pub none_left : n % dim ≡ 0 → Ok tt ≡ answer_of (batch_shape_refusal dim n)
  unfolding batch_shape_refusal
  none_left h = only_passed _ _ (eq-eqb (n % dim) 0 h)

-- 5
module _ (t : Tree) (rows : ℕ) where
  or_true : (a : Bool) → (a || true) ≡ true
  or_true true = refl
  or_true false = refl

  pub no_rows : rows ≡ 0 → Ok tt ≡ answer_of (empty_refusal t rows)
  unfolding empty_refusal
  no_rows e = only_passed _ _ (rw (eq-eqb rows 0 e))

  pub nowhere : (rows ≡ 0 → ⊥) → length t.entries ≡ 0 → Err R.Empty ≡ answer_of (empty_refusal t rows)
  unfolding empty_refusal
  nowhere r e = only_refused _ _ (rw (ne_eqb rows 0 r, e))

  pub somewhere : (length t.entries ≡ 0 → ⊥) → Ok tt ≡ answer_of (empty_refusal t rows)
  unfolding empty_refusal
  somewhere e = only_passed _ _ (rw (le-leb 1 (length t.entries) (omega arith)) (or_true (eqb rows 0)))

  -- 6
  pub insert_over : most < total_of t.entries + rows → Err R.Full ≡ answer_of (insert_full_refusal t rows)
  unfolding insert_full_refusal
  insert_over h = only_refused _ _ (lt-leb (total_of t.entries + rows) most h)

  pub insert_fits : total_of t.entries + rows ≤ most → Ok tt ≡ answer_of (insert_full_refusal t rows)
  unfolding insert_full_refusal
  insert_fits h = only_passed _ _ (le-leb (total_of t.entries + rows) most h)

  pub refit_none : length t.entries ≡ 0 → Ok tt ≡ answer_of (refit_full_refusal t rows)
  unfolding refit_full_refusal
  refit_none e = only_passed _ _ (rw e)

  pub refit_over : (length t.entries ≡ 0 → ⊥) → most < rows → Err R.Full ≡ answer_of (refit_full_refusal t rows)
  unfolding refit_full_refusal
  refit_over e h = only_refused _ _ (rw (ne_eqb (length t.entries) 0 e, lt-leb rows most h))

  pub refit_fits : rows ≤ most → Ok tt ≡ answer_of (refit_full_refusal t rows)
  unfolding refit_full_refusal
  refit_fits h = only_passed _ _ (rw (le-leb rows most h) (or_true (eqb (length t.entries) 0)))

-- 7
module _ (numbers n : ℕ) where
  pub output_short : n < numbers → Err R.Output ≡ answer_of (output_refusal numbers n)
  unfolding output_refusal
  output_short h = only_refused _ _ (lt-leb numbers n h)

  pub output_enough : numbers ≤ n → Ok tt ≡ answer_of (output_refusal numbers n)
  unfolding output_refusal
  output_enough h = only_passed _ _ (le-leb numbers n h)

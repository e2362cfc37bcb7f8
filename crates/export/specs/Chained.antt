-- What C and Rust chain: each exported call, given the head that the last one gave back, is a call of demand 3 (promises, Demand).
use Rattle.std.specs.Prelude.{ℕ, ◌≡◌, refl, List, [], ◌∷◌, ◌++◌, map, Float}
use Rattle.std.proofs.Common.{sym, ap, ◌∙◌}
use Rattle.std.proofs.Math.Path.{subst}
use Rattle.head.specs.Heads.{settings_of}
use Rattle.rules.specs.Calls.{Lent, Left, lent_tree, created, row_inserted, batch_inserted, batch_refitted, validated}
use Rattle.promises.specs.Demand.{Origin, called, origins_of, standing, batch_rows, rows_refit, after, owners_in, owners_all, owners_refit, Calls, start, row, batch, refit_all}
use Rattle.rules.specs.Check.{Binary64}
use Rattle.promises.specs.Runs.Created.{created_starts}
use Rattle.boundary.specs.declared.HeadNumbers.{HeadNumbers}
use Rattle.boundary.specs.Numbers.{head_of, head_numbers, zero_accepts, answer_numbers}
use Rattle.export.specs.Given.{LeftNumbers, left_numbers, MadeNumbers, made_numbers}
use Rattle.rules.specs.Route.{greedy}
use Rattle.boundary.specs.declared.AnswerNumbers.{AnswerNumbers}
use Rattle.head.specs.declared.Head.{Head}

-- the calls so far on a lent tree, by the numbers that the last one gave back
abbrev pub Chain : Head → List Float → List ℕ → HeadNumbers → List Float → List ℕ → List Origin → List ℕ → Type 0
Chain h₀ fs₀ ls₀ n fs ls ys a = Calls h₀ fs₀ ls₀ (head_of n) fs ls ys a

-- an accepted creation begins one
pub created_chain : (n : HeadNumbers) (fs : List Float) (ls : List ℕ) (m : MadeNumbers) → m ≡ made_numbers (created (head_of n) fs ls)
    → m.outcome.answer.number ≡ 0
    → Chain (head_of m.outcome.head) m.floats m.links m.outcome.head m.floats m.links [] []
unfolding made_numbers head_of head_numbers
created_chain n fs ls m e zero =
    subst
    (λ (m : MadeNumbers). m.outcome.answer.number ≡ 0
    → Chain (head_of m.outcome.head) m.floats m.links m.outcome.head m.floats m.links [] []) (sym e)
    (λ z. created_starts (head_of n) fs ls (zero_accepts _ z)) zero

-- and so does an accepted validation, with the rows behind the entries
pub validated_chain : (n : HeadNumbers) (fs : List Float) (ls : List ℕ) → Binary64 (lent_tree (head_of n) fs ls) → (o : AnswerNumbers)
    → o ≡ answer_numbers (validated (head_of n) fs ls) → o.number ≡ 0
    → let es = (lent_tree (head_of n) fs ls).entries in Chain (head_of n) fs ls n fs ls (origins_of es) (standing 0 es)
validated_chain n fs ls b o e zero = start b (zero_accepts (validated (head_of n) fs ls) (ap (λ (o : AnswerNumbers). o.number) (sym e) ∙ zero))

-- and by what a call left: its numbers, passed on, go on from there
abbrev pub Behind : Head → List Float → List ℕ → LeftNumbers → List Origin → List ℕ → Type 0
Behind h₀ fs₀ ls₀ o ys a = Chain h₀ fs₀ ls₀ o.outcome.head o.lent.floats o.lent.links ys a

module _ {h₀ : Head} {fs₀ : List Float} {ls₀ : List ℕ} where
  pub chained : (l : Left) {zs : List Origin} {b : List ℕ} → Calls h₀ fs₀ ls₀ l.head l.lent.floats l.lent.links zs b
      → (o : LeftNumbers) → o ≡ left_numbers l → Behind h₀ fs₀ ls₀ o zs b
  unfolding left_numbers head_of head_numbers
  chained l {zs} {b} c o e = subst (λ (o : LeftNumbers). Behind h₀ fs₀ ls₀ o zs b) (sym e) c

module _ {h₀ : Head} {fs₀ : List Float} {ls₀ : List ℕ} (n : HeadNumbers) (l : Lent) {ys : List Origin} {a : List ℕ}
    (c : Chain h₀ fs₀ ls₀ n l.floats l.links ys a) (o : LeftNumbers) where
  pub row_chain : (x : List Float) → o ≡ left_numbers (row_inserted (head_of n) l x)
      → let answer = (row_inserted (head_of n) l x).answer in
      Behind h₀ fs₀ ls₀ o (after answer (ys ++ (called x ∷ [])) ys) (after answer (owners_in (settings_of (head_of n)) x (lent_tree (head_of n) l.floats l.links) a) a)
  row_chain x e = let u = row_inserted (head_of n) l x in chained u (row l x u refl c) o e

  pub batch_chain : (xs : List Float) → o ≡ left_numbers (batch_inserted (head_of n) l xs)
      → let answer = (batch_inserted (head_of n) l xs).answer in
      Behind h₀ fs₀ ls₀ o (after answer (ys ++ map called (batch_rows (head_of n) xs)) ys)
      (after answer (owners_all (settings_of (head_of n)) (batch_rows (head_of n) xs) (lent_tree (head_of n) l.floats l.links) a) a)
  batch_chain xs e = let u = batch_inserted (head_of n) l xs in chained u (batch l xs u refl c) o e

  pub refit_chain : (xs : List Float) → o ≡ left_numbers (batch_refitted (head_of n) l xs)
      → let answer = (batch_refitted (head_of n) l xs).answer in
      Behind h₀ fs₀ ls₀ o (after answer (rows_refit (batch_rows (head_of n) xs) (lent_tree (head_of n) l.floats l.links) ys) ys)
      (after answer (owners_refit (settings_of (head_of n)) (greedy (settings_of (head_of n))) (batch_rows (head_of n) xs) (lent_tree (head_of n) l.floats l.links) a) a)
  refit_chain xs e = let u = batch_refitted (head_of n) l xs in chained u (refit_all l xs u refl c) o e

-- What a call gives back and leaves in the lent slices, as the rules' outcome of the call.
use Rattle.std.specs.Prelude.{ℕ, Float, Result, Ok, Err, IsErrAnd}
use Rattle.std.proofs.Math.Path.{◌≡◌}
use Rattle.std.proofs.Common.{sym, arith}
use mathlib.Core.List.{List, [], ◌∷◌}
use Rattle.head.specs.declared.Head.{Head}
use Rattle.head.specs.declared.refusal.Refusal.{Refusal}
use Rattle.rules.specs.Calls.{Lent, Left, Made, answer_of, settle, made_by}
use Rattle.refusals.specs.Each.{passed_up}
use Rattle.refusals.specs.Lending.{lending}
use Rattle.rules.specs.RefusalLaws.{accepted_none}
use Rattle.rules.specs.CallLaws.{refused_unchanged}
use Rattle.fronts.specs.Whole.{head_made}
use Rattle.work.specs.Whole.{head_left}

-- where a call is refused, the head h that was lent stands

abbrev pub made : Head → Result Head Refusal → List Float → List ℕ → Made
made h (Ok g) fs ls = head_made g fs ls
made h (Err r) fs ls = record { head = h; answer = Err r; floats = fs; links = ls }

abbrev pub left : Head → Result Head Refusal → List Float → List ℕ → List Float → List ℕ → Left
left h (Ok g) fs ls sf sl = head_left g fs ls sf sl
left h (Err r) fs ls sf sl = record { head = h; answer = Err r; lent = lending fs ls sf sl }

-- ---- creation

module _ (h : Head) (fs : List Float) (ls : List ℕ) (rs : List Refusal) where
  -- refused: every slice is as lent
  pub made_refused : (o : Result Head Refusal) {r : Refusal} → IsErrAnd o (λ q. q ≡ r) → Err r ≡ answer_of rs → made h o fs ls ≡ made_by rs h fs ls
  unfolding answer_of made_by
  made_refused o {r} p e = rw (passed_up p) (go rs e)
    where
      go : (rs : List Refusal) → Err r ≡ answer_of rs → made h (Err r) fs ls ≡ made_by rs h fs ls
      go [] e = let z : ◌≡◌ {A = ℕ} 0 1 = cc in absurd (omega arith)
      go (x ∷ rs) e = rw e

  pub made-done : Ok tt ≡ answer_of rs → {g : Head} {gs : List Float} {ks : List ℕ} → head_made g gs ks ≡ made_by [] h fs ls
      → made h (Ok g) gs ks ≡ made_by rs h fs ls
  made-done e d = rw (accepted_none rs (sym e)) d

-- ---- a call that changes the tree

module _ (h : Head) (l : Lent) (rs : List Refusal) (done : Left) where
  pub refused_as_lent : (o : Result Head Refusal) {r : Refusal} → IsErrAnd o (λ q. q ≡ r) → Err r ≡ answer_of rs
      → left h o l.floats l.links l.scratch_floats l.scratch_links ≡ settle rs h l done
  refused_as_lent o {r} p e = rw (passed_up p) (sym (refused_unchanged h l done rs r (sym e)))

  pub done_as_ruled : Ok tt ≡ answer_of rs → {g : Head} {gs : List Float} {ks : List ℕ} {ss : List Float} {ns : List ℕ} → head_left g gs ks ss ns ≡ done
      → left h (Ok g) gs ks ss ns ≡ settle rs h l done
  unfolding settle
  done_as_ruled e d = rw (accepted_none rs (sym e)) d

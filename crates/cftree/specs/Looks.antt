-- What a call that only reads gives back and writes, as the rules' outcome of the call.
use Rattle.std.specs.Prelude.{ℕ, Result, Ok, Err, IsErrAnd}
use Rattle.std.proofs.Math.Path.{◌≡◌}
use Rattle.std.proofs.Common.{sym, arith}
use mathlib.Core.List.{List, [], ◌∷◌}
use Rattle.head.specs.declared.Head.{Head}
use Rattle.head.specs.declared.refusal.Refusal.{Refusal}
use Rattle.head.specs.Refusals.{Answer}
use Rattle.rules.specs.declared.Places.{Places}
use Rattle.rules.specs.Calls.{Shown, Written, answer_of, fronted, write, shown_by}
use Rattle.rules.specs.RefusalLaws.{accepted_none}
use Rattle.refusals.specs.Each.{passed_up}

-- where it is refused, there are no places
abbrev pub listing : Result Places Refusal → Shown
listing (Ok p) = record { answer = Ok tt; places = p }
listing (Err r) = record { answer = Err r; places = record { entries = 0; first = 0; width = 0; means = 0; deviations = 0 } }

module _ {A : Type 0} where
  abbrev pub written : Answer → List A → Written A
  written a out = record { answer = a; output = out }

  -- refused, the output is as lent; accepted, its front is new
  module _ (rs : List Refusal) (new old : List A) where
    pub unwritten : (a : Answer) {r : Refusal} → IsErrAnd a (λ q. q ≡ r) → Err r ≡ answer_of rs → written a old ≡ write rs new old
    unfolding answer_of write
    unwritten a {r} p e = rw (passed_up p) (go rs e)
      where
        go : (rs : List Refusal) → Err r ≡ answer_of rs → written (Err r) old ≡ write rs new old
        go [] e = let z : ◌≡◌ {A = ℕ} 0 1 = cc in absurd (omega arith)
        go (x ∷ rs) e = rw e

    pub front_written : Ok tt ≡ answer_of rs → {out : List A} → out ≡ fronted new old → written (Ok tt) out ≡ write rs new old
    unfolding write
    front_written e o = rw (accepted_none rs (sym e), o)

-- the listing
module _ (h : Head) (rs : List Refusal) where
  pub unlisted : (o : Result Places Refusal) {r : Refusal} → IsErrAnd o (λ q. q ≡ r) → Err r ≡ answer_of rs → listing o ≡ shown_by rs h
  unfolding answer_of shown_by
  unlisted o {r} p e = rw (passed_up p) (go rs e)
    where
      go : (rs : List Refusal) → Err r ≡ answer_of rs → listing (Err r) ≡ shown_by rs h
      go [] e = let z : ◌≡◌ {A = ℕ} 0 1 = cc in absurd (omega arith)
      go (x ∷ rs) e = rw e

  pub all_listed : Ok tt ≡ answer_of rs → {p : Places} → p ≡ (shown_by [] h).places → listing (Ok p) ≡ shown_by rs h
  unfolding shown_by
  all_listed e o = rw (accepted_none rs (sym e), o)

-- What a call that only reads gives back and writes: the rules' outcome, its answer in numbers.
use Rattle.std.specs.Prelude.{◌≡◌, List, Result}
use Rattle.std.proofs.Common.{ap}
use Rattle.rules.specs.Calls.{Shown, Written}
use Rattle.rules.specs.declared.Places.{Places}
use Rattle.head.specs.Refusals.{Answer}
use Rattle.head.specs.declared.refusal.Refusal.{Refusal}
use Rattle.cftree.specs.Looks as Plain
use Rattle.boundary.specs.Numbers.{answer_numbers}
use Rattle.boundary.specs.declared.AnswerNumbers.{AnswerNumbers}
use Rattle.export.specs.declared.ListingNumbers.{ListingNumbers}

-- ---- where the entries stand

unfoldable pub listed_numbers : Shown → ListingNumbers
listed_numbers l =
    let p = l.places in
    record { answer = answer_numbers l.answer; entries = p.entries; first = p.first; width = p.width; means = p.means; deviations = p.deviations }

abbrev pub listing_numbers : Result Places Refusal → ListingNumbers
listing_numbers l = listed_numbers (Plain.listing l)

-- ---- an output

pub record WrittenNumbers (A : Type 0) : Type 0 where
  pub answer : AnswerNumbers
  pub output : List A

module _ {A : Type 0} where
  unfoldable pub written_numbers : Written A → WrittenNumbers A
  written_numbers w = record { answer = answer_numbers w.answer; output = w.output }

  abbrev pub written : AnswerNumbers → List A → WrittenNumbers A
  written r out = record { answer = r; output = out }

  pub written-numbers : {r : AnswerNumbers} {a : Answer} {out : List A} {w : Written A}
      → r ≡ answer_numbers a → Plain.written a out ≡ w → written r out ≡ written_numbers w
  unfolding written_numbers
  written-numbers p q = rw p (ap written_numbers q)

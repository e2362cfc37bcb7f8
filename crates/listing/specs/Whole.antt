-- The listing of an input that is there as a whole: what the call gives back and writes, for any input and any output.
use Rattle.std.specs.Prelude.{ℕ, ◌+◌, ◌≤◌, ◌<◌, ◌≡◌, drop, Result, Ok, Err, IfOk}
use Rattle.std.proofs.Math.Path.{ap}
use mathlib.Core.List.{List, [], ◌∷◌}
use native.Mathlib.Omega.{arith}
use Rattle.std.proofs.Common.{le-leb}
use Rattle.std.proofs.lemmas.Bool.{lt-leb}
use Rattle.std.proofs.Math.ListN.{length, length-append}
use Rattle.head.specs.declared.refusal.Refusal.{Refusal}
use Rattle.head.specs.declared.refusal.Refusal.TheVariants as R
use Rattle.rules.specs.Calls.{Written, unless, output_refusal, fronted, write}
use Rattle.rules.specs.Listing.{rowlist}
use Rattle.text.specs.Written.{written}
use Rattle.reports.specs.Lines.{page, Wrote}

pub record Shown : Type 0 where
  pub written : Written ℕ
  pub long : ℕ

-- what the call gives back and leaves in the output: a refused call writes no byte
abbrev pub shown : Result ℕ Refusal → List ℕ → Shown
shown (Ok n) out = record { written = record { answer = Ok tt; output = out }; long = n }
shown (Err r) out = record { written = record { answer = Err r; output = out }; long = 0 }

-- how many bytes are written
unfoldable pub long_by : List Refusal → List ℕ → ℕ
long_by [] new = length new
long_by (r ∷ rs) new = 0

-- the listing to the front of the output; one without room for any listing is refused as OUTPUT
unfoldable pub listed_to : List ℕ → List ℕ → Shown
listed_to input out =
    let rs = output_refusal page (length out) in
    record { written = write rs (rowlist input) out; long = long_by rs (rowlist input) }

module _ (input out : List ℕ) where
  pub list_refused : length out < page → shown (Err R.Output) out ≡ listed_to input out
  unfolding listed_to output_refusal unless write long_by
  list_refused h = rw (lt-leb page (length out) h)

  pub list_written : page ≤ length out → {now : List ℕ} {n : ℕ} → Wrote 0 (rowlist input) out now n
      → shown (Ok n) now ≡ listed_to input out
  unfolding listed_to output_refusal unless write long_by fronted written
  list_written h w =
      let all : 0 + length (rowlist input) ≡ length (rowlist input) = omega arith in
      rw (le-leb page (length out) h, w.bytes_in, w.end, all)

  -- what is written is in the output
  pub list_fits_lem : (r : Result ℕ Refusal) (now : List ℕ) → shown r now ≡ listed_to input out → IfOk r (λ n. n ≤ length now)
  unfolding listed_to
  list_fits_lem (Ok n) now e = go (output_refusal page (length out)) (ap (λ (s : Shown). s.written.output) e) (ap (λ (s : Shown). s.long) e)
    where
      go : (rs : List Refusal) → now ≡ (write rs (rowlist input) out).output → n ≡ long_by rs (rowlist input) → n ≤ length now
      go [] p q = unfold write long_by fronted in
          omega (arith, ap length p, length-append (rowlist input) (drop (length (rowlist input)) out))
      go (x ∷ rs) p q = unfold long_by in omega arith
  list_fits_lem (Err r) now e = tt

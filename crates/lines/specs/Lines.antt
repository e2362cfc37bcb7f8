-- Bytes into lines: one byte more, a line too long, a newline, the end.
use Rattle.std.specs.Prelude.{ℕ, suc, ◌+◌, ◌≤◌, ◌<◌, Bool, true, cond, ◌||◌, not, ◌≡◌, refl, eqb, length, get_or, set, Float, Option, None, Some}
use Rattle.std.proofs.Math.Bool.{false}
use mathlib.Core.List.{List, [], ◌∷◌, reverse, reverse-append, reverse-reverse}
use Rattle.std.proofs.Math.Path.{sym, ap}
use Rattle.std.proofs.Common.{◌∙◌, arith, add-one, ne_eqb, take-suc-set}
use Rattle.std.proofs.Math.ListN.{take, length-reverse}
use Rattle.std.proofs.Math.Seq.{length-take-le}
use Rattle.head.specs.declared.Head.{Head}
use Rattle.head.specs.declared.Settings.{Settings}
use Rattle.head.specs.Heads.{settings_of}
use Rattle.rules.specs.Tree.{Tree, fresh}
use Rattle.rules.specs.Calls.{lent_tree}
use Rattle.rules.specs.Listing.{cut, bad_line, first_line, line_in, rows_listed, lines_listed}
use Rattle.text.specs.Fields.{cut_yes, cut_no}
use Rattle.text.specs.Firsts.{line_long, stops}
use Rattle.text.specs.Rows.{line-floats, floats_long}
use Rattle.reasons.specs.declared.Reason.{Reason}
use Rattle.lines.specs.declared.Stage.{Stage}
use Rattle.lines.specs.declared.Stage.TheVariants as Stages
use Rattle.lines.specs.declared.Run.{Run}
use Rattle.lines.specs.Runs.{reads_more, listed_at, printed_of, printed, Reads, Stands, Reading, LineRead, bad_run, bad_stands, bad_lists}

-- ---- pieces

cut_byte : (b : ℕ) (p rest : List ℕ) → (b ≡ 10 → ⊥) → cut 10 false p (b ∷ rest) ≡ cut 10 false (b ∷ p) rest
cut_byte b p rest h = cut_no 10 false b rest p (ne_eqb b 10 h)

cut_line : (p rest : List ℕ) → cut 10 false p (10 ∷ rest) ≡ reverse p ∷ cut 10 false [] rest
cut_line p rest = cut_yes 10 false 10 rest p refl

cut_end : (p : List ℕ) → 0 < length p → cut 10 false p [] ≡ reverse p ∷ []
unfolding cut
cut_end p h = ap (λ t. cond (false || not t) (reverse p ∷ []) []) (ne_eqb (length p) 0 (λ e. omega arith))

-- the first line that a piece grows to is no shorter
abbrev Longer : List ℕ → List ℕ → Type 0
Longer p rest = (l : List ℕ) × (ls : List (List ℕ)) × (cut 10 false p rest ≡ l ∷ ls) × (length p ≤ length l)

longer_case : (t : Bool) (b : ℕ) (p rest : List ℕ) → eqb b 10 ≡ t → Longer (b ∷ p) rest → Longer p (b ∷ rest)
longer_case true b p rest e k = (reverse p, cut 10 false [] rest, cut_yes 10 false b rest p e, let r = length-reverse p in omega arith)
longer_case false b p rest e k = (k.0, k.1, cut_no 10 false b rest p e ∙ k.2, let l = k.3 in omega arith)

longer : (p rest : List ℕ) → 0 < length p → Longer p rest
longer p [] h = (reverse p, [], cut_end p h, let r = length-reverse p in omega arith)
longer p (b ∷ rest) h = longer_case (eqb b 10) b p rest refl (longer (b ∷ p) rest (omega arith))

-- ---- a line of over 200 bytes

pub first_none : (l : List ℕ) (ls : List (List ℕ)) → first_line l ≡ None → lines_listed (l ∷ ls) ≡ bad_line 1
unfolding lines_listed
first_none l ls e =
    let f : Option Head → List ℕ = λ o. elim o [ None ↦ bad_line 1 | Some h ↦ rows_listed (settings_of h) 2 ls (fresh h.counters.running.threshold) ] in
    ap f e

pub row_none : (s : Settings) (n : ℕ) (t : Tree) (l : List ℕ) (ls : List (List ℕ)) → line_in s t l ≡ None → rows_listed s n (l ∷ ls) t ≡ bad_line n
unfolding rows_listed
row_none s n t l ls e =
    let f : Option Tree → List ℕ = λ o. elim o [ None ↦ bad_line n | Some u ↦ rows_listed s (suc n) ls u ] in
    ap f e

too_long : (st : Stage) (r : Run) (fs : List Float) (ks : List ℕ) (l : List ℕ) (ls : List (List ℕ)) → Stands st r fs ks → 200 < length l
    → printed_of st r fs ks (l ∷ ls) ≡ bad_line r.number
unfolding Stands printed_of listed_at
too_long Stages.First r fs ks l ls k h = first_none l ls (line_long l h) ∙ ap bad_line (sym k)
too_long Stages.Rows r fs ks l ls k h = row_none _ _ _ l ls (line-floats _ _ l ∙ stops _ _ (floats_long l h))
too_long (Stages.Bad why) r fs ks l ls k h = refl

-- ---- one byte more

-- a byte b that is no newline, of any tree
pub record Pushed (run : Run) (b : ℕ) (before : List ℕ) (r : Run) (after : List ℕ) : Type 0 where
  pub reading : (fs : List Float) (ks : List ℕ) → Reading run fs ks → Reading r fs ks
  pub reads : (fs : List Float) (ks : List ℕ) → Reading run fs ks → (b ≡ 10 → ⊥) → Reads (printed run before fs ks) (b ∷ []) (printed r after fs ks)

module _ (run : Run) (b : ℕ) (line : List ℕ) (room : 200 ≤ length line) where
  pub pushed_bad : (why : Reason) → run.long ≡ 200 → Pushed run b line (bad_run why run) line
  unfolding bad_run printed printed_of
  pushed_bad why e = record {
    reading = (λ fs ks w. record { short = omega arith; stands = bad_stands run.stage why (bad_run why run) fs ks });
    reads = (λ fs ks w n. record {
      then = λ rest.
          let p = reverse (take run.long line) in
          let q = length-reverse (take run.long line) in
          let k = length-take-le run.long line (omega arith) in
          let g = longer (b ∷ p) rest (omega arith) in
          let z = g.3 in
          bad_lists run.stage why run.number run.head (lent_tree run.head fs ks) (cut 10 false [] rest)
          ∙ sym (ap (printed_of run.stage run fs ks) (cut_byte b p rest n ∙ g.2) ∙ too_long run.stage run fs ks g.0 g.1 w.stands (omega arith));
    });
  }

  abbrev grown : Run
  grown = record { head = run.head; stage = run.stage; number = run.number; long = run.long + 1 }

  same_stands : (st : Stage) (fs : List Float) (ks : List ℕ) → Stands st run fs ks → Stands st grown fs ks
  unfolding Stands
  same_stands Stages.First fs ks k = k
  same_stands Stages.Rows fs ks k = k
  same_stands (Stages.Bad why) fs ks k = tt

  pub pushed_byte : run.long < 200 → Pushed run b line grown (set line run.long b)
  unfolding printed printed_of
  pushed_byte h = record {
    reading = (λ fs ks w. record { short = omega arith; stands = same_stands run.stage fs ks w.stands });
    reads = (λ fs ks w n. record {
      then = λ rest.
          let p = take run.long line in
          let piece : reverse (take (run.long + 1) (set line run.long b)) ≡ b ∷ reverse p =
          ap (λ m. reverse (take m (set line run.long b))) (add-one run.long) ∙ ap reverse (take-suc-set line run.long b (omega arith))
          ∙ reverse-append p (b ∷ []) in
          ap (printed_of run.stage run fs ks) (ap (λ q. cut 10 false q rest) piece ∙ sym (cut_byte b (reverse p) rest n));
    });
  }

-- the bytes bs that are no newlines, of any tree
pub record Copied (run : Run) (before bs : List ℕ) (r : Run) (after : List ℕ) : Type 0 where
  pub reading : (fs : List Float) (ks : List ℕ) → Reading run fs ks → Reading r fs ks
  pub reads : (fs : List Float) (ks : List ℕ) → Reading run fs ks → Reads (printed run before fs ks) bs (printed r after fs ks)

-- a run with so many bytes of its line
unfoldable pub long_to : Run → ℕ → Run
long_to r n = record { head = r.head; stage = r.stage; number = r.number; long = n }

pub copied_none : (run : Run) (line : List ℕ) → Copied run line [] (long_to run run.long) line
unfolding long_to
copied_none run line = record { reading = (λ fs ks w. w); reads = (λ fs ks w. record { then = λ rest. refl }) }

module _ (run : Run) (before after bytes : List ℕ) (i long : ℕ) where
  pub copied_more : 200 ≤ length after → Copied run before (take i bytes) (long_to run long) after → i < length bytes → (get_or bytes i 0 ≡ 10 → ⊥) → long < 200
      → Copied run before (take (i + 1) bytes) (long_to run (long + 1)) (set after long (get_or bytes i 0))
  unfolding long_to
  copied_more room w l n h =
      let p = pushed_byte (long_to run long) (get_or bytes i 0) after room h in
      record {
        reading = (λ fs ks k. p.reading fs ks (w.reading fs ks k));
        reads = (λ fs ks k. reads_more bytes i l (w.reads fs ks k) (p.reads fs ks (w.reading fs ks k) n));
      }

-- ---- a newline, and the end

module _ (run : Run) (line : List ℕ) (fs : List Float) (ks : List ℕ) (r : Run) (gs : List Float) (js : List ℕ) where
  pub newline_read : LineRead (printed_of run.stage run fs ks) (take run.long line) r gs js → (after : List ℕ)
      → (b : ℕ) → b ≡ 10 → Reads (printed run line fs ks) (b ∷ []) (printed r after gs js)
  unfolding printed
  newline_read w after b e = record {
    then = λ rest.
        let p = take run.long line in
        ap (λ n. printed_of r.stage r gs js (cut 10 false (reverse (take n after)) rest)) w.none_left
        ∙ w.reads (cut 10 false [] rest)
        ∙ ap (printed_of run.stage run fs ks) (ap (λ q. q ∷ cut 10 false [] rest) (sym (reverse-reverse p)) ∙ sym (cut_line (reverse p) rest)
        ∙ ap (λ b. cut 10 false (reverse p) (b ∷ rest)) (sym e));
  }

  -- the last line needs no newline
  pub end_read : 0 < run.long → run.long ≤ length line → LineRead (printed_of run.stage run fs ks) (take run.long line) r gs js
      → printed_of r.stage r gs js [] ≡ printed run line fs ks []
  unfolding printed
  end_read long room w =
      let p = take run.long line in
      let k = length-take-le run.long line room in
      let q = length-reverse p in
      w.reads [] ∙ ap (printed_of run.stage run fs ks) (ap (λ q. q ∷ []) (sym (reverse-reverse p)) ∙ sym (cut_end (reverse p) (omega arith)))

-- an empty last piece is no line
pub no_end : (run : Run) (line : List ℕ) (fs : List Float) (ks : List ℕ) → run.long ≡ 0 → printed_of run.stage run fs ks [] ≡ printed run line fs ks []
unfolding printed cut
no_end run line fs ks e = ap (λ n. printed_of run.stage run fs ks (cut 10 false (reverse (take n line)) [])) (sym e)

-- Any chunks, one after the other, are listed as the input that they make up.
use Rattle.std.specs.Prelude.{ℕ, false, List, [], ◌∷◌, ◌++◌, reverse, ◌≡◌, take, Float}
use Rattle.std.proofs.Common.{append-nil, sym, ap, ◌∙◌}
use Rattle.rules.specs.Lists.{concat}
use Rattle.rules.specs.Calls.{lent_tree}
use Rattle.rules.specs.Listing.{cut, bad_line, rowlist}
use Rattle.reports.specs.Lines.{Wrote, wrote_is}
use Rattle.reasons.specs.declared.Reason.{Reason}
use Rattle.lines.specs.declared.Stage.{Stage}
use Rattle.lines.specs.declared.Stage.TheVariants as Stages
use Rattle.lines.specs.declared.Run.{Run}
use Rattle.lines.specs.Runs.{listed_at, printed_of, reads_none, reads_both, Begun, Reads, printed}

-- from a run that prints f, chunk after chunk read as `feed` ensures, to one that prints g
pub data Fed : (List ℕ → List ℕ) → List (List ℕ) → (List ℕ → List ℕ) → Type 0 where
  none : {f : List ℕ → List ℕ} → Fed f [] f
  more : {f g h : List ℕ → List ℕ} (c : List ℕ) {cs : List (List ℕ)} → Reads f c g → Fed g cs h → Fed f (c ∷ cs) h

pub fed_reads : {f g : List ℕ → List ℕ} {cs : List (List ℕ)} → Fed f cs g → Reads f (concat cs) g
unfolding concat
fed_reads none = reads_none _
fed_reads (more c p w) = reads_both p (fed_reads w)

-- a run that has read nothing but `input` prints its listing, if nothing follows
pub all_listed : (r : Run) (line : List ℕ) (fs : List Float) (ks : List ℕ) {g : List ℕ → List ℕ} {input : List ℕ} → Begun r
    → Reads (printed r line fs ks) input g → g [] ≡ rowlist input
all_listed r line fs ks {g} {input} b p = p.then [] ∙ (b.lists line fs ks).then (input ++ []) ∙ ap rowlist (append-nil input)

-- begun, fed any chunks and finished, a run has written the listing of all of them
pub chunks_listed : (r e : Run) (line end : List ℕ) (fs gs : List Float) (ks js : List ℕ) {cs : List (List ℕ)} {out now : List ℕ} {n : ℕ}
    → Begun r → Fed (printed r line fs ks) cs (printed e end gs js) → Wrote 0 (printed e end gs js []) out now n → Wrote 0 (rowlist (concat cs)) out now n
chunks_listed r e line end fs gs ks js b w k = wrote_is (all_listed r line fs ks b (fed_reads w)) k

-- ---- a bad run needs no more

-- what it prints is the same whatever bytes follow
pub bad_printed : (r : Run) {why : Reason} → r.stage ≡ Stages.Bad why → (line : List ℕ) (fs : List Float) (ks rest : List ℕ)
    → printed r line fs ks rest ≡ bad_line r.number
unfolding printed printed_of listed_at
bad_printed r e line fs ks rest =
    ap (λ (st : Stage). listed_at st r.number r.head (lent_tree r.head fs ks) (cut 10 false (reverse (take r.long line)) rest)) e

-- so begun, fed chunks until it is bad and finished, a run has written the listing of these chunks, whatever follows them
pub bad_chunks_listed : (r e : Run) (line end : List ℕ) (fs gs : List Float) (ks js : List ℕ) {cs : List (List ℕ)} {out now : List ℕ} {n : ℕ} {why : Reason}
    → Begun r → Fed (printed r line fs ks) cs (printed e end gs js) → e.stage ≡ Stages.Bad why → Wrote 0 (printed e end gs js []) out now n
    → (rest : List ℕ) → Wrote 0 (rowlist (concat cs ++ rest)) out now n
bad_chunks_listed r e line end fs gs ks js {cs} b w bad k rest =
    wrote_is (bad_printed e bad end gs js [] ∙ sym (bad_printed e bad end gs js rest) ∙ (fed_reads w).then rest
    ∙ (b.lists line fs ks).then (concat cs ++ rest)) k

-- Summaries in scratch emptied, the rows poured into them one after the other, and the entries put back from them.
use Prim.Native.Nat.{ℕ, zero, suc, ◌+◌, ◌≤◌, ◌<◌}
use Rattle.std.specs.Prelude.{◌≡◌, length, replicate, Float}
use Rattle.std.proofs.Math.Path.{refl, sym, ap, ap₂}
use Rattle.std.proofs.Common.{◌∙◌, arith}
use mathlib.Core.List.{List, [], ◌∷◌, ◌++◌, map}
use Rattle.std.proofs.Math.Numerals.{add-one}
use Rattle.std.proofs.Math.ListN.{get_or, take, drop, drop_of_length-le}
use Rattle.std.proofs.lemmas.List.{replicate-append-replicate}
use Rattle.std.proofs.Math.Seq.{take_all}
use Rattle.feature.specs.Summaries.{blank}
use Rattle.feature.specs.declared.Summary.{Summary}
use Rattle.head.specs.declared.Settings.{Settings}
use Rattle.head.specs.declared.Counters.{Counters}
use Rattle.rules.specs.Lists.{change_at, rows_of, table}
use Rattle.rules.specs.ListLaws.{table_at}
use Rattle.rules.specs.Tree.{Tree, push, with_entries}
use Rattle.rules.specs.Slices.{tree_of}
use Rattle.rules.specs.Refit.{poured, reaccumulated}
use Rattle.arena.specs.Numbered.{summary_at, Changed}
use Rattle.stretch.specs.Stretches.{append-none}
use Rattle.arena.specs.Tables.{table-change}
use Rattle.arena.specs.Trees.{FloatsTo, on_entry, count_entries_lem}
use Rattle.rows.specs.Rows.{row_of, rows_from, rows_all, rows_next, rows_none}
use Rattle.scratch.specs.Slots.{slots_in, length_slots, slots_more}
use Rattle.rules.specs.Route.{greedy}

-- ---- emptied

pub empty_more : (s : Settings) (k : ℕ) (c : Summary) (fs gs : List Float) → c ≡ blank → Changed s (λ _. c) k fs gs
    → slots_in s fs k ≡ replicate k blank → slots_in s gs (k + 1) ≡ replicate (k + 1) blank
empty_more s k c fs gs e w q = slots_more s k c fs gs w ∙ ap₂ (λ es c. es ++ (c ∷ [])) q e ∙ replicate-append-replicate k 1 blank

all_empty : (l : List Summary) → replicate (length l) blank ≡ map (λ _. blank) l
all_empty [] = refl
all_empty (x ∷ l) = ap (λ m. blank ∷ m) (all_empty l)

-- ---- poured: of `count` rows in xs those from row k on are left

module _ (s : Settings) (n : Counters) (t : Tree) (xs : List Float) (count : ℕ) where
  -- what scratch fs becomes by them
  unfoldable pub poured_from : ℕ → List Float → List Summary
  poured_from k fs = poured s (greedy s t) (rows_from s xs count k) (slots_in s fs n.entries)

  pub pour_start : (fs : List Float) → poured_from 0 fs ≡ poured s (greedy s t) (rows_of count s.dim xs) (slots_in s fs n.entries)
  unfolding poured_from
  pour_start fs = ap (λ rows. poured s (greedy s t) rows (slots_in s fs n.entries)) (rows_all s xs count)

  pub pour_turn : (k e : ℕ) (x : List Float) (fs gs : List Float) → k < count → e < n.entries → x ≡ row_of s xs k → e ≡ greedy s t x
      → Changed s (push s x) e fs gs → poured_from (k + 1) gs ≡ poured_from k fs
  unfolding poured_from poured slots_in
  pour_turn k e x fs gs h l p q w =
      let one : table (summary_at s gs) n.entries ≡ change_at (push s x) e (table (summary_at s fs) n.entries) =
      table-change (push s x) (summary_at s fs) (summary_at s gs) n.entries e l w.here (λ j _ d. w.others j d) in
      ap (poured s (greedy s t) (rows_from s xs count (k + 1))) one
      ∙ ap₂ (λ i y. poured s (greedy s t) (rows_from s xs count (k + 1)) (change_at (push s y) i (table (summary_at s fs) n.entries))) (q ∙ ap (greedy s t) p) p
      ∙ sym (ap (λ rows. poured s (greedy s t) rows (table (summary_at s fs) n.entries)) (rows_next s xs count k h))

  pub pour_end : (k : ℕ) (fs : List Float) → count ≤ k → slots_in s fs n.entries ≡ poured_from k fs
  unfolding poured_from poured
  pour_end k fs h = sym (ap (λ rows. poured s (greedy s t) rows (slots_in s fs n.entries)) (rows_none s xs count k h))

-- into empty ones: as the rules start the entries afresh
pub poured_afresh : (s : Settings) (n : Counters) (fs : List Float) (ls : List ℕ) (rows : List (List Float)) {es zs : List Summary}
    → zs ≡ replicate n.entries blank → es ≡ poured s (greedy s (tree_of s n fs ls)) rows zs → es ≡ reaccumulated s (greedy s) (tree_of s n fs ls) rows
unfolding reaccumulated
poured_afresh s n fs ls rows z e =
    e ∙ ap (poured s (greedy s (tree_of s n fs ls)) rows)
    (z ∙ ap (λ k. replicate k blank) (sym (count_entries_lem s n fs ls)) ∙ all_empty (tree_of s n fs ls).entries)

-- ---- put back

-- the first i of es, then those of l
module _ {A : Type 0} where
  front_more : (i : ℕ) (es l : List A) (d : A) → i < length es → i < length l
      → change_at (λ _. get_or es i d) i (take i es ++ drop i l) ≡ take (suc i) es ++ drop (suc i) l
  unfolding change_at
  front_more i [] l d h g = absurd (omega arith)
  front_more i (e ∷ es) [] d h g = absurd (omega arith)
  front_more zero (e ∷ es) (x ∷ l) d h g = refl
  front_more (suc i) (e ∷ es) (x ∷ l) d h g = ap (λ m. e ∷ m) (front_more i es l d (omega arith) (omega arith))

-- the first i entries are those of es
unfoldable pub PutBack : Settings → Counters → List Float → List Summary → ℕ → List Float → Type 0
PutBack s n fs es i gs = FloatsTo s n fs n gs (λ t. with_entries (take i es ++ drop i t.entries) t)

module _ (s : Settings) (n : Counters) (fs : List Float) (scratch : List Float) where
  abbrev es : List Summary
  es = slots_in s scratch n.entries

  pub put_start : PutBack s n fs es 0 fs
  unfolding PutBack with_entries tree_of
  put_start = λ ls. refl

  module _ (i : ℕ) (gs : List Float) (p : PutBack s n fs es i gs) where
    pub put_turn : (c : Summary) (hs : List Float) → i < n.entries → c ≡ summary_at s scratch i → FloatsTo s n gs n hs (on_entry (λ _. c) i)
        → PutBack s n fs es (i + 1) hs
    unfolding PutBack on_entry with_entries
    put_turn c hs h e w = λ ls.
        let t = tree_of s n fs ls in
        let here : c ≡ get_or es i blank = e ∙ sym (unfold slots_in in table_at (summary_at s scratch) n.entries i blank h) in
        let more : change_at (λ _. c) i (take i es ++ drop i t.entries) ≡ take (i + 1) es ++ drop (i + 1) t.entries =
        rw (here, add-one i) (front_more i es t.entries blank (rw (length_slots s scratch n.entries) h) (rw (count_entries_lem s n fs ls) h)) in
        w ls ∙ ap (on_entry (λ _. c) i) (p ls) ∙ ap (λ es. with_entries es t) more

    pub put_end : n.entries ≤ i → FloatsTo s n fs n gs (with_entries es)
    unfolding PutBack
    put_end h = λ ls.
        let t = tree_of s n fs ls in
        let front = take_all i es (rw (length_slots s scratch n.entries) h) in
        let back = drop_of_length-le t.entries {i = i} (rw (count_entries_lem s n fs ls) h) in
        p ls ∙ ap (λ es. with_entries es t) (ap₂ (λ a b. a ++ b) front back ∙ append-none es)

-- The entries of a tree, a line each.
use Rattle.std.specs.Prelude.{ℕ, suc, ◌+◌, ◌*◌, ◌≤◌, ◌<◌, true, ◌≡◌, get_or, Float, Some}
use mathlib.Core.List.{List, [], ◌∷◌, ◌++◌, map, append-nil, append_assoc}
use Rattle.std.proofs.Math.Path.{refl, sym, ap}
use Rattle.std.proofs.Common.{◌∙◌, add-one, length-append, take-suc, take_all}
use native.Mathlib.Omega.{arith}
use Rattle.std.proofs.Math.ListN.{length, take}
use Rattle.std.proofs.Math.Seq.{length-take-le}
use Rattle.std.specs.Float.Ieee.{to_unsigned}
use Rattle.binary64.specs.Counts.{is_count, told, count_of}
use Rattle.feature.specs.Summaries.{slots_of, blank}
use Rattle.feature.specs.Shape.{Shaped}
use Rattle.feature.specs.declared.Summary.{Summary}
use Rattle.feature.specs.declared.Feature.{Feature}
use Rattle.feature.specs.declared.Feature.TheVariants.{Spherical, Diagonal}
use Rattle.head.specs.declared.Head.{Head}
use Rattle.head.specs.declared.Settings.{Settings}
use Rattle.head.specs.declared.Counters.{Counters}
use Rattle.head.specs.Heads.{settings_of}
use Rattle.head.specs.Limits.{Sized}
use Rattle.rules.specs.Tree.{Tree, entry_at, row_count}
use Rattle.rules.specs.Check.{total_of}
use Rattle.rules.specs.Calls.{lent_tree}
use Rattle.rules.specs.Slices.{tree_of}
use Rattle.rules.specs.Listing.{decimal_of, hex_of, line_of, entry_line, entry_lines, report}
use Rattle.arena.specs.Trees.{Floats, count_entries_lem, entry_shaped}
use Rattle.reports.specs.Lines.{Wrote, wrote_is, wrote_both, tabbed, tabbed_both, line-is, decimal_short, tabbed-decimal, hexes_long, counts_line}

-- the means and the deviations
unfoldable pub summary_fields : Settings → Summary → List (List ℕ)
summary_fields s e = map hex_of (take s.dim e.mean) ++ map hex_of (take (slots_of s.feature s.dim) e.deviation)

-- an entry of the tree: eight channels, and a count of rows as weight
pub record EntryFits (s : Settings) (e : Summary) : Type 0 where
  pub sized : Sized s
  pub shaped : Shaped s.feature s.dim e
  pub counts : is_count e.weight ≡ true

-- the entries of the tree in the slices, at most 24
pub record Entries (s : Settings) (n : Counters) (fs : List Float) (ls : List ℕ) : Type 0 where
  pub floats_in_lem : Floats s n (length fs)
  pub few : n.entries ≤ 24
  pub counts : (i : ℕ) → i < n.entries → is_count (entry_at (tree_of s n fs ls) i).weight ≡ true

-- with their total weight
pub record Reportable (h : Head) (total : ℕ) (fs : List Float) (ls : List ℕ) : Type 0 where
  pub entries : Entries (settings_of h) h.counters fs ls
  pub total-is : total ≡ total_of (lent_tree h fs ls).entries

-- ---- the weight

pub rows_told : (e : Summary) → is_count e.weight ≡ true → count_of e.weight ≡ Some (row_count e)
unfolding count_of told row_count
rows_told e h = ap (λ b. told b (to_unsigned 64 e.weight)) h

-- ---- one line

module _ (s : Settings) (z : Sized s) where
  pub slots_few : slots_of s.feature s.dim ≤ 8
  unfolding slots_of
  slots_few = go s.feature
    where
      go : (f : Feature) → slots_of f s.dim ≤ 8
      go Spherical = omega arith
      go Diagonal = z.dim_few

module _ (s : Settings) (e : Summary) (f : EntryFits s e) where
  pub means_in : s.dim ≤ length e.mean
  means_in = let d = f.sized.dim_few in let l = f.shaped.means.long in omega arith

  pub deviations_in : slots_of s.feature s.dim ≤ length e.deviation
  deviations_in = let d = slots_few s f.sized in let l = f.shaped.deviations.long in omega arith

  pub means_short : length (tabbed (map hex_of (take s.dim e.mean))) ≤ 136
  means_short =
      let l = length-take-le s.dim e.mean means_in in
      let h = hexes_long (take s.dim e.mean) in
      let d = f.sized.dim_few in
      omega arith

  pub deviations_short : length (tabbed (map hex_of (take (slots_of s.feature s.dim) e.deviation))) ≤ 136
  deviations_short =
      let k = slots_of s.feature s.dim in
      let l = length-take-le k e.deviation deviations_in in
      let h = hexes_long (take k e.deviation) in
      let d = slots_few s f.sized in
      omega arith

  pub summary-is : tabbed (map hex_of (take s.dim e.mean)) ++ tabbed (map hex_of (take (slots_of s.feature s.dim) e.deviation))
      ≡ tabbed (summary_fields s e)
  unfolding summary_fields
  summary-is = tabbed_both (map hex_of (take s.dim e.mean)) (map hex_of (take (slots_of s.feature s.dim) e.deviation))

  pub summary_short : length (tabbed (summary_fields s e)) ≤ 272
  summary_short =
      let m = map hex_of (take s.dim e.mean) in
      let v = map hex_of (take (slots_of s.feature s.dim) e.deviation) in
      let q = ap length summary-is in
      let l = length-append (tabbed m) (tabbed v) in
      let a = means_short in
      let b = deviations_short in
      omega arith

  pub entry_is : (i : ℕ) → ((decimal_of i ++ tabbed (decimal_of (row_count e) ∷ [])) ++ tabbed (summary_fields s e)) ++ (10 ∷ []) ≡ entry_line s i e
  unfolding entry_line summary_fields
  entry_is i =
      let a = decimal_of i in
      let gs = decimal_of (row_count e) ∷ [] in
      let fs = summary_fields s e in
      ap (λ l. l ++ (10 ∷ [])) (append_assoc a (tabbed gs) (tabbed fs) ∙ ap (λ l. a ++ l) (tabbed_both gs fs))
      ∙ append_assoc a (tabbed (gs ++ fs)) (10 ∷ []) ∙ line-is a (gs ++ fs)

  pub entry_short : (i : ℕ) → length (entry_line s i e) ≤ 314
  entry_short i =
      let q = ap length (sym (entry_is i)) in
      let l₁ = length-append ((decimal_of i ++ tabbed (decimal_of (row_count e) ∷ [])) ++ tabbed (summary_fields s e)) (10 ∷ []) in
      let l₂ = length-append (decimal_of i ++ tabbed (decimal_of (row_count e) ∷ [])) (tabbed (summary_fields s e)) in
      let l₃ = length-append (decimal_of i) (tabbed (decimal_of (row_count e) ∷ [])) in
      let a = decimal_short i in
      let b = tabbed-decimal (row_count e) in
      let c = summary_short in
      omega arith

-- ---- line by line

lines_snoc : (s : Settings) (i : ℕ) (l : List Summary) (e : Summary) → entry_lines s i (l ++ (e ∷ [])) ≡ entry_lines s i l ++ entry_line s (i + length l) e
unfolding entry_lines
lines_snoc s i [] e = let z : i + 0 ≡ i = omega arith in append-nil (entry_line s i e) ∙ ap (λ n. entry_line s n e) (sym z)
lines_snoc s i (x ∷ l) e =
    let z : suc i + length l ≡ i + suc (length l) = omega arith in
    ap (λ m. entry_line s i x ++ m) (lines_snoc s (suc i) l e) ∙ sym (append_assoc (entry_line s i x) (entry_lines s (suc i) l) (entry_line s (suc i + length l) e))
    ∙ ap (λ n. (entry_line s i x ++ entry_lines s (suc i) l) ++ entry_line s n e) z

-- the lines of the first i entries
unfoldable pub lines_to : Settings → Tree → ℕ → List ℕ
lines_to s t i = entry_lines s 0 (take i t.entries)

module _ (s : Settings) (t : Tree) where
  pub lines_none : lines_to s t 0 ≡ []
  unfolding lines_to entry_lines
  lines_none = refl

  pub lines_more : (i : ℕ) → i < length t.entries → lines_to s t i ++ entry_line s i (entry_at t i) ≡ lines_to s t (i + 1)
  unfolding lines_to entry_at
  lines_more i h =
      let l = length-take-le i t.entries (omega arith) in
      let z : 0 + length (take i t.entries) ≡ i = omega arith in
      ap (λ n. entry_lines s 0 (take i t.entries) ++ entry_line s n (get_or t.entries i blank)) (sym z)
      ∙ sym (lines_snoc s 0 (take i t.entries) (get_or t.entries i blank))
      ∙ ap (entry_lines s 0) (sym (take-suc t.entries i blank h) ∙ ap (λ n. take n t.entries) (sym (add-one i)))

  pub lines-all : (i : ℕ) → length t.entries ≤ i → lines_to s t i ≡ entry_lines s 0 t.entries
  unfolding lines_to
  lines-all i h = ap (entry_lines s 0) (take_all i t.entries h)

module _ {s : Settings} {n : Counters} {fs : List Float} {ls : List ℕ} (r : Entries s n fs ls) where
  pub entry_fits : (i : ℕ) → i < n.entries → EntryFits s (entry_at (tree_of s n fs ls) i)
  entry_fits i l = record { sized = r.floats_in_lem.sized; shaped = entry_shaped s r.floats_in_lem.sized n fs ls i l; counts = r.counts i l }

  -- the line of entry i behind the lines before it, none longer than 314 bytes
  module _ {at end : ℕ} {o p : List ℕ} (i : ℕ) (l : i < n.entries) (w : Wrote at (lines_to s (tree_of s n fs ls) i) o p end) (b : end ≤ at + 314 * i) where
    pub wrote_entry : {e : Summary} {q : List ℕ} {m : ℕ} → e ≡ entry_at (tree_of s n fs ls) i → Wrote end (entry_line s i e) p q m
        → (m ≤ at + 314 * (i + 1)) × Wrote at (lines_to s (tree_of s n fs ls) (i + 1)) o q m
    wrote_entry {e} {q} {m} k v =
        let t = tree_of s n fs ls in
        let v₁ = wrote_is (ap (entry_line s i) k) v in
        let short = entry_short s (entry_at t i) (entry_fits i l) i in
        let long = count_entries_lem s n fs ls in
        let z = v₁.end in
        (omega arith, wrote_is (lines_more s t i (omega arith)) (wrote_both w v₁))

-- the whole report
pub report-is : {h : Head} {total : ℕ} {fs : List Float} {ls : List ℕ} → Reportable h total fs ls
    → counts_line h.counters.entries h.counters.running.threshold h.counters.running.rebuilds total ++ entry_lines (settings_of h) 0 (lent_tree h fs ls).entries
    ≡ report (settings_of h) (lent_tree h fs ls)
unfolding report counts_line lent_tree tree_of
report-is {h} {total} {fs} {ls} r =
    let n = h.counters in
    let es = (tree_of (settings_of h) n fs ls).entries in
    ap (λ k. line_of (decimal_of k ∷ hex_of n.running.threshold ∷ decimal_of n.running.rebuilds ∷ decimal_of total ∷ []) ++ entry_lines (settings_of h) 0 es)
    (sym (count_entries_lem (settings_of h) n fs ls))
    ∙ ap (λ k. line_of (decimal_of (length es) ∷ hex_of n.running.threshold ∷ decimal_of n.running.rebuilds ∷ decimal_of k ∷ []) ++ entry_lines (settings_of h) 0 es) r.total-is

-- A front written piece by piece: equally long pieces, or one number after another.
use Prim.Native.Nat.{ℕ, zero, suc, ◌+◌, ◌*◌, ◌<◌}
use Rattle.std.specs.Prelude.{◌≡◌, get_or, Float}
use Rattle.std.proofs.Math.Path.{sym, ap}
use Rattle.std.proofs.Common.{◌∙◌, suc-mul, zero-mul, add-one, arith, drop-drop, take_all}
use mathlib.Core.List.{List, [], ◌++◌, map, append_assoc}
use Rattle.std.proofs.Math.ListN.{length, drop, length-append}
use Rattle.std.proofs.lemmas.List.{length-map}
use Rattle.feature.specs.Summaries.{blank}
use Rattle.feature.specs.declared.Summary.{Summary}
use Rattle.head.specs.declared.Settings.{Settings}
use Rattle.head.specs.declared.Counters.{Counters}
use Rattle.rules.specs.Lists.{concat, table, rows_of}
use Rattle.rules.specs.ListLaws.{map_at, table_is, rows_count, rows_at}
use Rattle.rules.specs.Tree.{entry_at}
use Rattle.rules.specs.Slices.{tree_of}
use Rattle.rules.specs.Calls.{fronted}
use Rattle.stretch.specs.Stretches.{put_stretch, put_past, copied_to}
use Rattle.arena.specs.Tables.{table_more, concat-snoc}
use Rattle.arena.specs.Trees.{count_entries_lem}
use Rattle.rows.specs.Rows.{row_of}

-- ---- pieces

module _ {A : Type 0} (g : ℕ → List A) (d : ℕ) where
  pub pieces_long : (i : ℕ) → ((j : ℕ) → j < i → length (g j) ≡ d) → length (concat (table g i)) ≡ i * d
  unfolding concat table
  pieces_long zero h = sym (zero-mul d)
  pieces_long (suc i) h =
      let e : table g (suc i) ≡ table g (i + 1) = ap (table g) (sym (add-one i)) in
      let more = pieces_long i (λ j p. h j (omega arith)) in
      let last = h i (omega arith) in
      ap (λ l. length (concat l)) (e ∙ table_more g i) ∙ ap length (concat-snoc (table g i) (g i)) ∙ length-append (concat (table g i)) (g i)
      ∙ rw (more, last) (sym (suc-mul i d))

  pub piece_turn : (i : ℕ) (old out p : List A) → ((j : ℕ) → j < i → length (g j) ≡ d) → out ≡ concat (table g i) ++ drop (i * d) old → p ≡ g i
      → put_stretch out (i * d) d p ≡ concat (table g (i + 1)) ++ drop ((i + 1) * d) old
  piece_turn i old out p h e q =
      let front = concat (table g i) in
      let next : i * d + d ≡ (i + 1) * d = sym (ap (λ k. k * d) (add-one i) ∙ suc-mul i d) in
      rw (e, q)
      (put_past front (drop (i * d) old) (g i) (i * d) d (pieces_long i h)
      ∙ ap (λ l. front ++ (g i ++ l)) (drop-drop d (i * d) old ∙ ap (λ k. drop k old) next)
      ∙ sym (append_assoc front (g i) (drop ((i + 1) * d) old))
      ∙ ap (λ l. l ++ drop ((i + 1) * d) old) (sym (ap concat (table_more g i) ∙ concat-snoc (table g i) (g i))))

-- ---- all entries' pieces

module _ (s : Settings) (n : Counters) (fs : List Float) (f : Summary → List Float) (d : ℕ) where
  abbrev pub piece_of : ℕ → List Float
  piece_of j = f (entry_at (tree_of s n fs []) j)

  pub pieces_all : (ls : List ℕ) (i : ℕ) (old : List Float) → i ≡ n.entries → ((j : ℕ) → j < i → length (piece_of j) ≡ d)
      → concat (table piece_of i) ++ drop (i * d) old ≡ fronted (concat (map f (tree_of s n fs ls).entries)) old
  unfolding fronted tree_of entry_at
  pieces_all ls i old e h =
      let es = (tree_of s n fs []).entries in
      let many = count_entries_lem s n fs [] in
      let whole : table piece_of i ≡ map f es =
      ap (table piece_of) (e ∙ sym many ∙ sym (length-map es f))
      ∙ table_is piece_of (map f es) [] (λ j p. sym (map_at f es j blank [] (rw (length-map es f) at p))) in
      let long = pieces_long piece_of d i h in
      ap (λ k. concat (table piece_of i) ++ drop k old) (sym long) ∙ ap (λ l. concat l ++ drop (length (concat l)) old) whole

-- ---- one number after another

-- number k of a batch's rows, each told by f
pub told_at : (s : Settings) (f : List Float → ℕ) (count k : ℕ) (xs : List Float) → k < count
    → get_or (map f (rows_of count s.dim xs)) k 0 ≡ f (row_of s xs k)
unfolding row_of
told_at s f count k xs h =
    map_at f (rows_of count s.dim xs) k [] 0 (rw (rows_count count s.dim xs) h) ∙ ap f (rows_at count s.dim k xs h)

pub told_count : (s : Settings) (f : List Float → ℕ) (count : ℕ) (xs : List Float) → length (map f (rows_of count s.dim xs)) ≡ count
told_count s f count xs = length-map (rows_of count s.dim xs) f ∙ rows_count count s.dim xs

pub front_copied : {A : Type 0} (new old : List A) (k : ℕ) → k ≡ length new → copied_to k new old ≡ fronted new old
unfolding copied_to fronted
front_copied new old k e = rw (e, take_all (length new) new (omega arith))

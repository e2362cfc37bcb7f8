-- Entries that are there move to their new numbers: never to a later place, so that nothing is overwritten that is still to be read.
use Prim.Native.Nat.{ℕ, zero, suc, ◌+◌, ◌≤◌, ◌<◌}
use Rattle.std.specs.Prelude.{◌≡◌, Bool, Float}
use Rattle.std.proofs.Math.Path.{refl, sym, ap, ap₂}
use Rattle.std.proofs.Common.{◌∙◌, eq-or-lt_of_le, add-one}
use Rattle.std.proofs.Math.Logic.{⊎_elim}
use Rattle.std.proofs.Math.Bool.{true, false, cond}
use mathlib.Core.List.{List, [], ◌∷◌, ◌++◌}
use native.Mathlib.Omega.{arith}
use Rattle.std.proofs.Math.ListN.{length, get_or, take}
use Rattle.std.proofs.Math.Seq.{take_all, take-append-le}
use Rattle.feature.specs.Summaries.{blank}
use Rattle.feature.specs.declared.Summary.{Summary}
use Rattle.head.specs.declared.Settings.{Settings}
use Rattle.head.specs.declared.Counters.{Counters}
use Rattle.head.specs.Sizes.{node_cap}
use Rattle.head.specs.Counting.{count_entries}
use Rattle.rules.specs.Lists.{change_at, snoc, keep, table, count_up}
use Rattle.rules.specs.ListLaws.{length-table}
use Rattle.rules.specs.Tree.{Tree, entry_at, with_entries}
use Rattle.rules.specs.Rebuild.{renumber}
use Rattle.rules.specs.Slices.{summary_in, slot_at, tree_of}
use Rattle.arena.specs.Changes.{length-change, change_other}
use Rattle.arena.specs.Trees.{FloatsTo, on_entry, count_entries_lem}
use Rattle.merging.specs.Merging.{OnlyEntries, only_by, only_more}
use Rattle.merging.specs.Numbering.{count_more, count_few}

-- entry i copied to its new number, if its flag is up
unfoldable pub move_entry : List Bool → ℕ → Tree → Tree
move_entry bs i t = cond (get_or bs i false) (on_entry (λ _. entry_at t i) (renumber bs i) t) t

module _ (bs : List Bool) (i : ℕ) (t : Tree) where
  pub move_none : get_or bs i false ≡ false → t ≡ move_entry bs i t
  unfolding move_entry
  move_none e = sym (ap (λ b. cond b (on_entry (λ _. entry_at t i) (renumber bs i) t) t) e)

  pub move_some : (c : Summary) (to : ℕ) → get_or bs i false ≡ true → c ≡ entry_at t i → to ≡ renumber bs i
      → on_entry (λ _. c) to t ≡ move_entry bs i t
  unfolding move_entry
  move_some c to e ec et =
      ap₂ (λ x k. on_entry (λ _. x) k t) ec et ∙ sym (ap (λ b. cond b (on_entry (λ _. entry_at t i) (renumber bs i) t) t) e)

-- ---- lists

module _ {A : Type 0} where
  keep-none : (l : List A) → keep [] l ≡ []
  unfolding keep
  keep-none [] = refl
  keep-none (x ∷ l) = refl

  keep_more : (bs : List Bool) (l : List A) (i : ℕ) (d : A) → length bs ≡ length l → i < length l
      → keep (take (suc i) bs) l ≡ cond (get_or bs i false) (snoc (keep (take i bs) l) (get_or l i d)) (keep (take i bs) l)
  unfolding keep snoc
  keep_more bs [] i d e h = absurd (omega arith)
  keep_more [] (x ∷ l) i d e h = absurd (omega arith)
  keep_more (true ∷ bs) (x ∷ l) zero d e h = ap (λ m. x ∷ m) (keep-none l)
  keep_more (false ∷ bs) (x ∷ l) zero d e h = keep-none l
  keep_more (true ∷ bs) (x ∷ l) (suc i) d e h = ap (λ m. x ∷ m) (keep_more bs l i d (omega arith) (omega arith)) ∙ go (get_or bs i false)
    where
      go : (b : Bool) → x ∷ cond b (keep (take i bs) l ++ (get_or l i d ∷ [])) (keep (take i bs) l)
          ≡ cond b ((x ∷ keep (take i bs) l) ++ (get_or l i d ∷ [])) (x ∷ keep (take i bs) l)
      go true = refl
      go false = refl
  keep_more (false ∷ bs) (x ∷ l) (suc i) d e h = keep_more bs l i d (omega arith) (omega arith)

  put_front : (l : List A) (i : ℕ) (a : A) → i < length l → take (suc i) (change_at (λ _. a) i l) ≡ snoc (take i l) a
  unfolding change_at snoc
  put_front [] i a h = absurd (omega arith)
  put_front (x ∷ l) zero a h = refl
  put_front (x ∷ l) (suc i) a h = ap (λ m. x ∷ m) (put_front l i a (omega arith))

  table-take : (f : ℕ → A) (n k : ℕ) → k ≤ n → take k (table f n) ≡ table f k
  unfolding table snoc
  table-take f zero k h = let z : k ≡ 0 = omega arith in rw z
  table-take f (suc n) k h =
      ⊎_elim (λ (z : k ≡ suc n). rw z (take_all (suc n) (table f n ++ (f n ∷ [])) (unfold table in omega (arith, length-table f (suc n)))))
      (λ (l : k < suc n). take-append-le k (table f n) (f n ∷ []) (rw (length-table f n) (omega arith)) ∙ table-take f n k (omega arith))
      (eq-or-lt_of_le h)

-- ---- the entries

-- i entries of l have moved: those kept of them stand in front, and from i on nothing has changed
pub record Shifted (bs : List Bool) (l : List Summary) (i : ℕ) (m : List Summary) : Type 0 where
  pub long : length m ≡ length l
  pub front : take (count_up (take i bs)) m ≡ keep (take i bs) l
  pub rest : (j : ℕ) → i ≤ j → get_or m j blank ≡ get_or l j blank

moved_start : (bs : List Bool) (l : List Summary) → Shifted bs l 0 l
unfolding count_up
moved_start bs l = record { long = refl; front = sym (keep-none l); rest = λ j h. refl }

module _ (bs : List Bool) (l : List Summary) (i : ℕ) (m : List Summary) (g : Shifted bs l i m) where
  moved_turn : length bs ≡ length l → i < length l → (b : Bool) → get_or bs i false ≡ b
      → Shifted bs l (suc i) (cond b (change_at (λ _. get_or m i blank) (renumber bs i) m) m)
  unfolding renumber
  moved_turn e h true z =
      let c = count_up (take i bs) in
      let few : c ≤ i = count_few bs i in
      let room : c < length m = omega (arith, g.long) in
      let up : count_up (take (suc i) bs) ≡ suc c = count_more bs i (omega arith) ∙ ap (λ b. cond b (suc c) c) z in
      record {
        long = length-change (λ _. get_or m i blank) c m ∙ g.long;
        front =
            ap (λ k. take k (change_at (λ _. get_or m i blank) c m)) up ∙ put_front m c (get_or m i blank) room
            ∙ ap₂ snoc g.front (g.rest i (omega arith))
            ∙ sym (keep_more bs l i blank e h ∙ ap (λ b. cond b (snoc (keep (take i bs) l) (get_or l i blank)) (keep (take i bs) l)) z);
        rest = λ j q. change_other (λ _. get_or m i blank) c j m blank (λ y. omega arith) ∙ g.rest j (omega arith);
      }
  moved_turn e h false z =
      let c = count_up (take i bs) in
      let down : count_up (take (suc i) bs) ≡ c = count_more bs i (omega arith) ∙ ap (λ b. cond b (suc c) c) z in
      record {
        long = g.long;
        front = ap (λ k. take k m) down ∙ g.front
            ∙ sym (keep_more bs l i blank e h ∙ ap (λ b. cond b (snoc (keep (take i bs) l) (get_or l i blank)) (keep (take i bs) l)) z);
        rest = λ j q. g.rest j (omega arith);
      }

-- ---- the tree

entries_taken : (s : Settings) (n : Counters) (gs : List Float) (ls : List ℕ) (k : ℕ) → k ≤ n.entries
    → tree_of s (count_entries k n) gs ls ≡ with_entries (take k (tree_of s n gs []).entries) (tree_of s n gs ls)
unfolding tree_of count_entries with_entries
entries_taken s n gs ls k h = rw (table-take (λ i. summary_in s (slot_at s gs (node_cap s + i))) n.entries k h)

module _ (s : Settings) (n : Counters) (bs : List Bool) (long : length bs ≡ n.entries) (fs : List Float) where
  -- i entries have moved, and nothing but entries has changed
  pub record Moves (i : ℕ) (gs : List Float) : Type 0 where
    pub entries : Shifted bs (tree_of s n fs []).entries i (tree_of s n gs []).entries
    pub tree : OnlyEntries s n fs gs

  pub moves_start : Moves 0 fs
  unfolding OnlyEntries tree_of with_entries
  moves_start = record { entries = moved_start bs (tree_of s n fs []).entries; tree = λ ls. refl }

  module _ (i : ℕ) (gs : List Float) (g : Moves i gs) where
    moves_by : (f : List Summary → List Summary) (hs : List Float) → FloatsTo s n gs n hs (λ t. with_entries (f t.entries) t)
        → Shifted bs (tree_of s n fs []).entries (suc i) (f (tree_of s n gs []).entries) → Moves (i + 1) hs
    unfolding with_entries
    moves_by f hs to m =
        record {
          entries = rw (add-one i, ap (λ (t : Tree). t.entries) (to [])) m;
          tree = only_more s n fs gs hs g.tree (only_by s n gs hs f to);
        }

    pub moves_turn : (hs : List Float) → i < n.entries → FloatsTo s n gs n hs (move_entry bs i) → Moves (i + 1) hs
    unfolding move_entry on_entry entry_at with_entries
    moves_turn hs h to = go (get_or bs i false) refl to
      where
        es : List Summary
        es = (tree_of s n fs []).entries

        same : length bs ≡ length es
        same = long ∙ sym (count_entries_lem s n fs [])

        go : (b : Bool) → get_or bs i false ≡ b
            → FloatsTo s n gs n hs (λ t. cond b (with_entries (change_at (λ _. get_or t.entries i blank) (renumber bs i) t.entries) t) t)
            → Moves (i + 1) hs
        go true z to =
            moves_by (λ es. change_at (λ _. get_or es i blank) (renumber bs i) es) hs to
            (moved_turn bs es i (tree_of s n gs []).entries g.entries same (omega (arith, same, long)) true z)
        go false z to = moves_by (λ es. es) hs to (moved_turn bs es i (tree_of s n gs []).entries g.entries same (omega (arith, same, long)) false z)

    pub moves_end : n.entries ≤ i → FloatsTo s n fs (count_entries (count_up bs) n) gs (λ t. with_entries (keep bs t.entries) t)
    unfolding OnlyEntries with_entries tree_of
    moves_end h = λ ls.
        let all : take i bs ≡ bs = take_all i bs (omega (arith, long)) in
        let few : count_up bs ≤ n.entries = rw (take_all n.entries bs (omega arith)) at (count_few bs n.entries) in
        let kept : take (count_up bs) (tree_of s n gs []).entries ≡ keep bs (tree_of s n fs []).entries = rw all at g.entries.front in
        entries_taken s n gs ls (count_up bs) few ∙ ap₂ with_entries kept (g.tree ls)

-- Condition 7's sums: what they lean on, and how they go on place by place.
use Rattle.std.specs.Prelude.{◌≡◌, ℕ, suc, ◌+◌, ◌<◌, ◌≤◌, Bool, true, false, ◌&&◌, List, map, length, drop, slice_index, refl, Float, is_some}
use Rattle.std.proofs.Math.Path.{sym, ap}
use Rattle.std.proofs.Common.{◌∙◌, add-one, arith, drop_of_length-le}
use Rattle.std.specs.Float.Ieee.{le, eq, to_unsigned}
use Rattle.std.specs.Float.Ieee.Bits.{is_true}
use Rattle.std.specs.Float.Ieee.Fits.{and_l, and_r}
use Rattle.binary64.specs.Operators.{◌⊕◌, f0, f1, f2^53}
use Rattle.binary64.specs.Sums.{sum_from}
use Rattle.binary64.specs.Whole.{whole}
use Rattle.binary64.specs.Counts.{is_count, told, count_of}
use Rattle.binary64.specs.Range.{Ranged, ranged}
use Rattle.feature.specs.Summaries.{blank}
use Rattle.head.specs.declared.Settings.{Settings}
use Rattle.head.specs.declared.Counters.{Counters}
use Rattle.rules.specs.Tree.{node_at, entry_at, row_count}
use Rattle.rules.specs.Check.{known, total_of}
use Rattle.rules.specs.Slices.{tree_of}
use Rattle.arena.specs.Trees.{Floats, Links, ChildIn, count_nodes_lem, count_entries_lem}
use Rattle.counting.specs.Sums.{sum_to}
use Rattle.laws.specs.Check.Passing.{entries_sum}
use Rattle.lists.specs.Lent.{ListsFit, EntriesCount, holds, listed_in}
use Rattle.lists.specs.Loops.{drop_at}
use Rattle.counting.specs.Tests.{every-at}

-- what the sums of condition 7 lean on: room, and lists that name what is there
pub record Weighable (s : Settings) (n : Counters) (fs : List Float) (ls : List ℕ) : Type 0 where
  pub floats : Floats s n (length fs)
  pub links : Links s n (length ls)
  pub listed : ListsFit s n ls

module _ (s : Settings) (n : Counters) (fs : List Float) (ls : List ℕ) where
  pub entry_counts : EntriesCount s n fs → (e : ℕ) → e < n.entries → is_count (entry_at (tree_of s n fs ls) e).weight ≡ true
  unfolding entry_at
  entry_counts h e q =
      let t = tree_of s n fs ls in
      is_true (is_count (entry_at t e).weight) (every-at (λ x. is_count x.weight) blank t.entries (holds (h ls)) e (rw (count_entries_lem s n fs ls) q))

  child_there : (b : Bool) (x : ℕ) → x < known (tree_of s n fs ls) b → ChildIn n b x
  unfolding known ChildIn
  child_there true x h = rw (count_entries_lem s n fs ls) at h
  child_there false x h = rw (count_nodes_lem s n fs ls) at h

  -- what place k of node i's list names is there
  pub child_in : Weighable s n fs ls → (i k : ℕ) → i < n.nodes → k < length (node_at (tree_of s n fs ls) i).list
      → ChildIn n (node_at (tree_of s n fs ls) i).leaf (slice_index (node_at (tree_of s n fs ls) i).list k)
  child_in w i k here place = child_there _ _ (listed_in s (tree_of s n fs ls) (w.listed fs) i k (rw (count_nodes_lem s n fs ls) here) place)

-- ---- a sum place by place

-- k places are summed in x, and the rest is to come
abbrev pub Summing : (ℕ → Float) → List ℕ → Float → ℕ → Type 0
Summing w l x k = sum_from x (map w (drop k l)) ≡ sum_from f0 (map w l)

module _ (w : ℕ → Float) (l : List ℕ) where
  pub sum-on : (x : Float) (k : ℕ) {y : Float} → k < length l → Summing w l x k → y ≡ w (slice_index l k) → Summing w l (x ⊕ y) (k + 1)
  unfolding sum_from
  sum-on x k {y} h e q =
      let a : sum_from x (map w (drop k l)) ≡ sum_from (x ⊕ y) (map w (drop (suc k) l)) =
      ap (λ z. sum_from x (map w z)) (drop_at l k h) ∙ ap (λ z. sum_from (x ⊕ z) (map w (drop (suc k) l))) (sym q) in
      ap (λ j. sum_from (x ⊕ y) (map w (drop j l))) (add-one k) ∙ sym a ∙ e

  pub sum_done : (x : Float) (k : ℕ) → length l ≤ k → Summing w l x k → x ≡ sum_from f0 (map w l)
  unfolding sum_from
  sum_done x k h e = sym (ap (λ z. sum_from x (map w z)) (drop_of_length-le l {i = k} h)) ∙ e

-- the rows of a weight that is a count
pub count_ranged : (w : Float) → is_count w ≡ true → Ranged w
unfolding is_count
count_ranged w h =
    let a = holds h in
    let b = and_r (le f1 w) (le w f2^53 && eq (whole (to_unsigned 64 w)) w) a in
    ranged w (is_true (le f1 w) (and_l (le f1 w) (le w f2^53 && eq (whole (to_unsigned 64 w)) w) a))
    (is_true (le w f2^53) (and_l (le w f2^53) (eq (whole (to_unsigned 64 w)) w) b))

-- a weight is a count where it is told as rows
pub told_some : (w : Float) → is_some (count_of w) ≡ is_count w
unfolding count_of told
told_some w = go (is_count w) (to_unsigned 64 w)
  where
    go : (b : Bool) (n : ℕ) → is_some (told b n) ≡ b
    go true n = refl
    go false n = refl

-- the rows of the entries, one by one
pub total-placed : (s : Settings) (n : Counters) (fs : List Float) (ls : List ℕ)
    → total_of (tree_of s n fs ls).entries ≡ sum_to (λ e. row_count (entry_at (tree_of s n fs ls) e)) n.entries
unfolding entry_at
total-placed s n fs ls = entries_sum blank (tree_of s n fs ls).entries ∙ ap (sum_to (λ e. row_count (entry_at (tree_of s n fs ls) e))) (count_entries_lem s n fs ls)

-- The rebuild, when entries exceed M: merges until the target, the grown threshold, the merged ones dropped, reinsertion where it is due.
use Rattle.std.specs.Prelude.{ℕ, zero, suc, ◌+◌, ◌-◌, ◌/◌, max, Bool, true, false, cond, ◌||◌, ◌&&◌, length, get_or, set, take, leb, ltb, eqb, Float}
use mathlib.Core.List.{List, [], ◌∷◌, map, filter_map}
use Rattle.std.proofs.Math.Option.{Option, none, some}
use Rattle.std.specs.Float.Ieee.{lt, of_bits}
use Rattle.std.specs.Float.{binary64}
use Rattle.std.specs.Float.Ieee.Scale.{finite}
use Rattle.binary64.specs.Operators.{◌⊗◌, f0, largest}
use Rattle.feature.specs.Summaries.{blank}
use Rattle.feature.specs.declared.Summary.{Summary}
use Rattle.head.specs.declared.Settings.{Settings}
use Rattle.rules.specs.Lists.{change_at, keep, count_up}
use Rattle.rules.specs.Tree.{Node, Tree, merge, abs_between, with_nodes, with_entries, on_running, with_list}
use Rattle.rules.specs.Pairs.{siblings, cousins, sorted}
use Rattle.rules.specs.declared.Pair.{Pair}
use Rattle.rules.specs.Reinsert.{reinserted}
use Rattle.rules.specs.Refold.{refolded}
use Rattle.head.specs.Counting.{with_threshold, with_rebuilds, with_merged}
use Rattle.head.specs.declared.Running.{Running}

-- max(M − M/10, 1), whole division
unfoldable pub target : ℕ → ℕ
target m = max (m - m / 10) 1

-- ---- the merges

-- the entries with merges done, which of them are not merged away, how many merges, and the widest finite gap
pub record Merging : Type 0 where
  pub entries : List Summary
  pub alive : List Bool
  pub count : ℕ
  pub widest : Float

unfoldable pub widened : Float → Float → Float
widened w g = cond (finite g && lt w g) g w

-- the second of a pair merged into the first; the gap is taken at this moment
unfoldable pub merge_one : Settings → Pair → Merging → Merging
merge_one s p m =
    let a = get_or m.entries p.one blank in
    let b = get_or m.entries p.two blank in
    record {
      entries = change_at (λ e. merge s e b) p.one m.entries;
      alive = set m.alive p.two false;
      count = suc m.count;
      widest = widened m.widest (abs_between s a b);
    }

unfoldable pub both_alive : Pair → List Bool → Bool
both_alive p bs = get_or bs p.one false && get_or bs p.two false

-- which two may be merged, and that any two may
abbrev pub Guard : Type 0
Guard = Summary → Summary → Bool

abbrev pub any_two : Guard
any_two a b = true

-- whether a pair is merged: its two may be, and neither is merged away
unfoldable pub mergeable : Guard → Pair → Merging → Bool
mergeable may p m = may (get_or m.entries p.one blank) (get_or m.entries p.two blank) && both_alive p m.alive

-- the pairs in order, k merges at most
unfoldable pub merge_all : Settings → Guard → ℕ → List Pair → Merging → Merging
merge_all s may zero ps m = m
merge_all s may (suc k) [] m = m
merge_all s may (suc k) (p ∷ ps) m = elim (mergeable may p m) [ true ↦ merge_all s may k ps (merge_one s p m) | false ↦ merge_all s may (suc k) ps m ]

-- ---- the threshold

-- 1 + 2 ^ −50
abbrev pub growth : Float
growth = of_bits binary64 0x3ff0_0000_0000_0004

-- the widest gap times 1 + 2 ^ −50, at most the largest float, if that is larger
unfoldable pub grown_threshold : Float → Float → Float
grown_threshold h w =
    let g = cond (lt largest (w ⊗ growth)) largest (w ⊗ growth) in
    cond (lt h g) g h

-- ---- the merged-away entries dropped, and the others numbered anew

unfoldable pub renumber : List Bool → ℕ → ℕ
renumber alive e = count_up (take e alive)

unfoldable pub number_if : List Bool → ℕ → Option ℕ
number_if alive e = cond (get_or alive e false) (some (renumber alive e)) none

unfoldable pub keep_numbers : List Bool → List ℕ → List ℕ
keep_numbers alive es = filter_map (number_if alive) es

unfoldable pub pruned : List Bool → Node → Node
pruned alive n = with_list (cond n.leaf (keep_numbers alive n.list) n.list) n

unfoldable pub dropped : List Bool → Tree → Tree
dropped alive t = with_entries (keep alive t.entries) (with_nodes (map (pruned alive) t.nodes) t)

-- ---- the rebuild, step by step: pairs, merges, drop, placed again where due, refold, count

-- cousins only if no leaf has two entries
unfoldable pub pairs_from : Settings → Tree → List Pair → List Pair
pairs_from s t [] = cousins s t t.nodes
pairs_from s t (p ∷ ps) = p ∷ ps

abbrev pub pairs_of : Settings → Tree → List Pair
pairs_of s t = pairs_from s t (siblings s t t.nodes)

unfoldable pub none_near : List Pair → Bool
none_near [] = true
none_near (p ∷ ps) = false

-- whether cousins are used
unfoldable pub across : Settings → Tree → Bool
across s t = none_near (siblings s t t.nodes)

abbrev pub merge_start : Tree → Merging
merge_start t = record { entries = t.entries; alive = map (λ _. true) t.entries; count = 0; widest = f0 }

-- by cost, until the target is reached
abbrev pub merges_in : Settings → Tree → Merging
merges_in s t = merge_all s any_two (length t.entries - target s.max_leaves) (sorted (pairs_of s t)) (merge_start t)

-- each rebuild's merges raise the threshold and add to the merged total
unfoldable pub merges_on : ℕ → Float → Running → Running
merges_on count widest r = with_merged (r.merged + count) (with_threshold (grown_threshold r.threshold widest) r)

unfoldable pub with_merges : Tree → Merging → Tree
with_merges t m = on_running (merges_on m.count m.widest) (with_entries m.entries t)

-- the tree without the merged-away entries
abbrev pub thinned : Tree → Merging → Tree
thinned t m = dropped m.alive (with_merges t m)

-- reinsert, and set the merged total to 0, if cousins were used or it reaches M
unfoldable pub rebalanced : Settings → Bool → Tree → Tree
rebalanced s far t = cond (far || leb s.max_leaves t.running.merged) (reinserted s (on_running (with_merged 0) t)) t

-- nothing of this where nothing was merged
unfoldable pub compacted : Settings → Tree → Tree
compacted s t =
    let m = merges_in s t in
    cond (eqb m.count 0) t (rebalanced s (across s t) (thinned t m))

-- the u64 rebuild count stops at its top value
unfoldable pub one_more : ℕ → ℕ
one_more n = cond (ltb n 0xffff_ffff_ffff_ffff) (suc n) n

unfoldable pub counted : Tree → Tree
counted t = on_running (λ r. with_rebuilds (one_more r.rebuilds) r) t

unfoldable pub rebuilt : Settings → Tree → Tree
rebuilt s t = counted (refolded s (compacted s t))

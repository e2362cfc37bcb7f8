-- All merges of a rebuild, from the pairs in scratch.
use Rattle.std.specs.Prelude.{ℕ, zero, suc, ◌-◌, ◌≤◌, ◌≡◌, refl, Bool, true, cond, List, [], ◌∷◌, length, replicate, Float}
use Rattle.std.proofs.Math.Path.{sym, ap, subst}
use Rattle.std.proofs.Common.{ap₂, ◌∙◌}
use Rattle.std.proofs.Math.Bool.{false}
use native.Mathlib.Omega.{arith}
use borrow.Author.Tests.{ne_eqb}
use Rattle.std.proofs.Math.Dec.{eqb}
use Rattle.head.specs.declared.Settings.{Settings}
use Rattle.head.specs.declared.Counters.{Counters}
use Rattle.head.specs.Counting.{count_running}
use Rattle.rules.specs.declared.Pair.{Pair}
use Rattle.rules.specs.Tree.{Tree, with_entries}
use Rattle.rules.specs.Slices.{tree_of}
use Rattle.rules.specs.Pairs.{sorted}
use Rattle.rules.specs.Rebuild.{Merging, target, merge_one, both_alive, merge_all, dropped, with_merges, thinned, rebalanced, merge_start, any_two, mergeable}
use Rattle.laws.specs.Rebuilding.Merge.{Every}
use Rattle.laws.specs.Rebuilding.Pairs.{every-sorted}
use Rattle.laws.specs.Rebuilding.Cousins.{FarPair}
use Rattle.scratch.specs.Stored.{pairs_in}
use Rattle.scratch.specs.Flags.{alive_in, PairsBelow, SamePairs, same_pairs}
use Rattle.arena.specs.Trees.{count_entries_lem}
use Rattle.merging.specs.Merging.{PairsMerged, Ended, start_of, start_all, merges-counted, every-below}
use Rattle.merging.specs.declared.merges.Merges.{Merges}
use Rattle.rebuild.specs.Counted.{merged_counts}

-- what the rules make of the pairs ps
unfoldable pub all_merges : Settings → List Pair → Tree → Merging
all_merges s ps t = merge_all s any_two (length t.entries - target s.max_leaves) (sorted ps) (merge_start t)

-- and of the tree, where far says whether they are cousins
unfoldable pub compacted_by : Settings → Bool → List Pair → Tree → Tree
compacted_by s far ps t = let m = all_merges s ps t in cond (eqb m.count 0) t (rebalanced s far (thinned t m))

-- floats, flags and the answer say so, whatever the links
unfoldable pub AllMerged : Settings → Counters → List Pair → Merges → List Float → List Float → List ℕ → Type 0
AllMerged s n ps r fs gs ms =
    (ls : List ℕ) → Ended (tree_of s n fs ls) (tree_of s n gs ls) (alive_in ms n.entries) r (all_merges s ps (tree_of s n fs ls))

module _ (s : Settings) (n : Counters) (ps : List Pair) (pairs : ℕ) (cs : List Float) (ns os : List ℕ)
    (sort : pairs_in cs ns pairs ≡ sorted ps) (same : SamePairs ns os) where
  as_sorted : pairs_in cs os pairs ≡ sorted ps
  as_sorted = same_pairs ns os same cs pairs ∙ sort

  pub sorted-below : Every (FarPair n.entries) ps → PairsBelow n.entries os pairs
  sorted-below far =
      every-below (FarPair n.entries) n.entries (λ p q. (q.0, q.1)) cs os pairs
      (subst (Every (FarPair n.entries)) (sym as_sorted) (every-sorted (FarPair n.entries) ps far))

  module _ (most : ℕ) (r : Merges) (fs gs : List Float) (ms : List ℕ) where
    pub all-merged : most ≡ n.entries - target s.max_leaves → alive_in os n.entries ≡ replicate n.entries true
        → PairsMerged s n pairs most fs os r gs ms → AllMerged s n ps r fs gs ms
    unfolding PairsMerged AllMerged all_merges start_of
    all-merged em up h = λ ls.
        let t = tree_of s n fs ls in
        let start : start_of t (alive_in os n.entries) ≡ merge_start t = ap (start_of t) up ∙ start_all s n fs ls in
        let is : merge_all s any_two most (pairs_in cs os pairs) (start_of t (alive_in os n.entries)) ≡ all_merges s ps t =
        rw (em, as_sorted, start, count_entries_lem s n fs ls) in
        subst (Ended t (tree_of s n gs ls) (alive_in ms n.entries) r) is (h cs ls)

-- ---- no merge, and nothing has changed

grows : (s : Settings) (k : ℕ) (ps : List Pair) (m : Merging) → m.count ≤ (merge_all s any_two k ps m).count
unfolding merge_all mergeable
grows s zero ps m = omega arith
grows s (suc k) [] m = omega arith
grows s (suc k) (p ∷ ps) m = go (both_alive p m.alive) (grows s k ps (merge_one s p m)) (grows s (suc k) ps m)
  where
    go : (b : Bool) → (merge_one s p m).count ≤ (merge_all s any_two k ps (merge_one s p m)).count → m.count ≤ (merge_all s any_two (suc k) ps m).count
        → m.count ≤ (elim b as (λ _. Merging) [ true ↦ merge_all s any_two k ps (merge_one s p m) | false ↦ merge_all s any_two (suc k) ps m ]).count
    go true a b = let c : suc m.count ≤ (merge_all s any_two k ps (merge_one s p m)).count = (unfold merge_one in a) in omega arith
    go false a b = b

none-merged : (s : Settings) (k : ℕ) (ps : List Pair) (m : Merging) → (merge_all s any_two k ps m).count ≡ m.count → (merge_all s any_two k ps m).entries ≡ m.entries
unfolding merge_all mergeable
none-merged s zero ps m e = refl
none-merged s (suc k) [] m e = refl
none-merged s (suc k) (p ∷ ps) m e = go (both_alive p m.alive) e (grows s k ps (merge_one s p m)) (λ q. none-merged s (suc k) ps m q)
  where
    go : (b : Bool) → (elim b as (λ _. Merging) [ true ↦ merge_all s any_two k ps (merge_one s p m) | false ↦ merge_all s any_two (suc k) ps m ]).count ≡ m.count
        → (merge_one s p m).count ≤ (merge_all s any_two k ps (merge_one s p m)).count
        → ((merge_all s any_two (suc k) ps m).count ≡ m.count → (merge_all s any_two (suc k) ps m).entries ≡ m.entries)
        → (elim b as (λ _. Merging) [ true ↦ merge_all s any_two k ps (merge_one s p m) | false ↦ merge_all s any_two (suc k) ps m ]).entries ≡ m.entries
    go true e a ih = let c : suc m.count ≤ (merge_all s any_two k ps (merge_one s p m)).count = (unfold merge_one in a) in absurd (omega arith)
    go false e a ih = ih e

module _ (s : Settings) (n : Counters) (ps : List Pair) (r : Merges) (fs gs : List Float) (ms ls : List ℕ)
    (h : AllMerged s n ps r fs gs ms) where
  pub ended : Ended (tree_of s n fs ls) (tree_of s n gs ls) (alive_in ms n.entries) r (all_merges s ps (tree_of s n fs ls))
  unfolding AllMerged
  ended = h ls

  pub merged-none : (far : Bool) → r.count ≡ 0 → tree_of s n gs ls ≡ compacted_by s far ps (tree_of s n fs ls)
  unfolding compacted_by all_merges with_entries
  merged-none far z =
      let t = tree_of s n fs ls in
      let none : (all_merges s ps t).count ≡ 0 = sym ended.count ∙ z in
      ended.tree ∙ ap (λ es. with_entries es t) (none-merged s (length t.entries - target s.max_leaves) (sorted ps) (merge_start t) none) ∙ rw none

  pub merges-made : tree_of s (merged_counts r n) gs ls ≡ with_merges (tree_of s n fs ls) (all_merges s ps (tree_of s n fs ls))
  unfolding merged_counts
  merges-made = merges-counted s n fs gs ls (alive_in ms n.entries) r (all_merges s ps (tree_of s n fs ls)) ended

  pub merged_some : (d : Counters) (far : Bool) → d ≡ merged_counts r n → ¬ (r.count ≡ 0)
      → rebalanced s far (dropped (alive_in ms d.entries) (tree_of s d gs ls)) ≡ compacted_by s far ps (tree_of s n fs ls)
  unfolding compacted_by all_merges merged_counts count_running
  merged_some d far e z =
      let t = tree_of s n fs ls in
      let some : eqb (all_merges s ps t).count 0 ≡ false = ne_eqb (all_merges s ps t).count 0 (λ e. z (ended.count ∙ e)) in
      rw e (ap (rebalanced s far) (ap₂ dropped ended.alive merges-made) ∙ rw some)

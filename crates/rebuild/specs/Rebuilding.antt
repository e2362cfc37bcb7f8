-- What a rebuild asks of the tree and of scratch, and what its parts then have.
use Rattle.std.specs.Prelude.{ℕ, ◌+◌, ◌≤◌, ◌<◌, ◌-◌, ◌≡◌, Bool, List, [], ◌∷◌, Float}
use Rattle.std.proofs.Math.Path.{refl, sym, ap, subst}
use Rattle.std.proofs.Common.{ap₂, ◌∙◌}
use Rattle.std.proofs.Math.Bool.{true, false}
use native.Mathlib.Omega.{arith}
use Rattle.std.proofs.Math.ListN.{length}
use Rattle.head.specs.declared.Settings.{Settings}
use Rattle.head.specs.declared.Counters.{Counters}
use Rattle.head.specs.Limits.{Sized}
use Rattle.head.specs.Sizes.{entry_cap}
use Rattle.head.specs.Counting.{count_running, with_merged}
use Rattle.rules.specs.declared.Pair.{Pair}
use Rattle.rules.specs.Tree.{Tree, on_running}
use Rattle.rules.specs.Slices.{tree_of}
use Rattle.rules.specs.Pairs.{siblings, cousins, sorted}
use Rattle.rules.specs.Refold.{refolded}
use Rattle.rules.specs.Rebuild.{Merging, target, merge_all, dropped, merge_start, thinned, pairs_from, none_near, across, compacted, counted, rebuilt, any_two}
use Rattle.laws.specs.Invariant.Sound.{Settled, caps_of}
use Rattle.laws.specs.Inserting.Grown.{Whole}
use Rattle.laws.specs.Rebuilding.Merge.{Every, Merged}
use Rattle.laws.specs.Rebuilding.Pairs.{NearPair, siblings-all, every_map}
use Rattle.laws.specs.Rebuilding.Cousins.{FarPair, cousins-far}
use Rattle.laws.specs.Rebuilding.Rebuilt.{merges-far, near_far, compacted-whole}
use Rattle.laws.specs.ForCode.{Framed, Standing, settled_framed, settled-standing}
use Rattle.scratch.specs.Stored.{pairs_in, length_pairs}
use Rattle.scratch.specs.Flags.{alive_in}
use Rattle.merging.specs.Pruning.{LeavesIn, leaves_framed, leaves_same}
use Rattle.merging.specs.declared.merges.Merges.{Merges}
use Rattle.refold.specs.Refolding.{Filled}
use Rattle.reinsert.specs.Whole.{Reinsertable}
use Rattle.reinsert.specs.Thinned.{merged_reinsertable}
use Rattle.rebuild.specs.Counted.{merged_counts, counted_up, counted_is}
use Rattle.rebuild.specs.Merges.{AllMerged, all_merges, ended, merges-made, compacted_by}
use Rattle.laws.specs.Running.{Below}

-- ---- what is asked

-- the tree without the merged-away entries can be placed again
pub record Compactable (s : Settings) (n : Counters) (alive : List Bool) (t : Tree) : Type 0 where
  pub leaves : LeavesIn n t
  pub again : Reinsertable s (on_running (with_merged 0) (dropped alive t))

-- a tree that holds so many rows, one entry over M
pub record Rebuildable (s : Settings) (t : Tree) : Type 0 where
  pub rows : ℕ
  pub whole : Whole s t rows
  pub more : s.max_leaves < length t.entries
  pub few : length t.entries ≤ entry_cap s
  pub below : Below s t.running

-- so many pairs of its entries
pub record Mergeable (s : Settings) (pairs : ℕ) (ps : List Pair) (t : Tree) : Type 0 where
  pub tree : Rebuildable s t
  pub pairs_few : pairs ≤ entry_cap s
  pub far : Every (FarPair (length t.entries)) ps

-- ---- the tree, and its pairs

module _ (s : Settings) (t : Tree) (w : Rebuildable s t) where
  abbrev settled : Settled s t w.whole.0 w.rows
  settled = w.whole.1

  pub tree_framed : Framed t
  tree_framed = settled_framed s t w.whole.0 w.rows w.whole.1

  pub siblings-far : Every (FarPair (length t.entries)) (siblings s t t.nodes)
  siblings-far = every_map (NearPair s t) (FarPair (length t.entries)) (siblings s t t.nodes) (near_far settled w.whole.2) (siblings-all s t)

  pub cousins-all : Every (FarPair (length t.entries)) (cousins s t t.nodes)
  cousins-all = cousins-far t settled.links t.nodes

  -- ---- after the merges of the pairs ps

  module _ (ps : List Pair) (far : Every (FarPair (length t.entries)) ps) where
    abbrev pub merges : Merging
    merges = merge_all s any_two (length t.entries - target s.max_leaves) (sorted ps) (merge_start t)

    done : Merged s (length t.entries) w.rows merges
    done = merges-far settled w.whole.2 ps far

    some : 0 < length t.entries
    some = let q = w.more in omega arith

    pub merges-few : merges.count ≤ length t.entries
    merges-few = let q = done.counted in omega arith

    -- the tree without those merged away can be placed again
    pub left-again : Reinsertable s (on_running (with_merged 0) (thinned t merges))
    left-again = merged_reinsertable s t merges settled w.whole.2 done some w.few

  -- ---- when all merges are done

  pub merged-standing : Sized s → Standing s (compacted s t) × Filled (compacted s t)
  unfolding Filled
  merged-standing z =
      let f = compacted-whole s t w.rows (caps_of z) z.most-some w.whole w.more in
      let r = f.0 in
      let few = w.few in
      let fewer = f.1 in
      (settled-standing s (compacted s t) r.0 w.rows r.1 (omega arith), λ i l. r.1.links.filled i l)

  -- refolded and counted
  pub rebuilt-is : (m d : Counters) (fs : List Float) (ls : List ℕ) → d ≡ counted_up m
      → tree_of s m fs ls ≡ refolded s (compacted s t) → tree_of s d fs ls ≡ rebuilt s t
  unfolding rebuilt
  rebuilt-is m d fs ls e q = ap (λ r. tree_of s r fs ls) e ∙ counted_is s fs ls m ∙ ap counted q

-- ---- pairs of siblings, or of cousins

module _ (s : Settings) (t : Tree) (cs : List Float) (ns : List ℕ) (k : ℕ) where
  -- by the siblings that there are
  abbrev From : List Pair → Tree
  From ps = compacted_by s (none_near ps) (pairs_from s t ps) t

  all-is : From (siblings s t t.nodes) ≡ compacted s t
  unfolding compacted_by compacted all_merges across
  all-is = refl

  pub by_siblings : pairs_in cs ns k ≡ siblings s t t.nodes → 0 < k → compacted_by s false (pairs_in cs ns k) t ≡ compacted s t
  by_siblings e h = go (siblings s t t.nodes) e ∙ all-is
    where
      go : (ps : List Pair) → pairs_in cs ns k ≡ ps → compacted_by s false (pairs_in cs ns k) t ≡ From ps
      go [] e = let none = sym (length_pairs cs ns k) ∙ ap length e in absurd (omega arith)
      go (p ∷ ps) e = unfold none_near pairs_from in ap (λ ps. compacted_by s false ps t) e

  pub by_cousins : pairs_in cs ns k ≡ siblings s t t.nodes → k ≤ 0 → (qs : List Pair) → qs ≡ cousins s t t.nodes → compacted_by s true qs t ≡ compacted s t
  by_cousins e h qs q = go (siblings s t t.nodes) e ∙ all-is
    where
      go : (ps : List Pair) → pairs_in cs ns k ≡ ps → compacted_by s true qs t ≡ From ps
      go [] e = unfold none_near pairs_from in ap (λ ps. compacted_by s true ps t) q
      go (p ∷ ps) e = let some = sym (length_pairs cs ns k) ∙ ap length e in absurd (omega arith)

-- ---- the tree after its merges

module _ (s : Settings) (n : Counters) (pairs : ℕ) (ps : List Pair) (r : Merges) (fs gs : List Float) (ms ls : List ℕ)
    (w : Mergeable s pairs ps (tree_of s n fs ls)) (h : AllMerged s n ps r fs gs ms) where
  pub total-few : Sized s → n.running.merged + r.count ≤ 4294967296
  unfolding all_merges tree_of entry_cap
  total-few z =
      let count = (ended s n ps r fs gs ms ls h).count in
      let most = merges-few s (tree_of s n fs ls) w.tree ps w.far in
      let few = w.tree.few in
      let merged = w.tree.below in
      let limit = z.most-few in
      omega arith

  pub merges_compactable : (d : Counters) → d ≡ merged_counts r n → Compactable s d (alive_in ms d.entries) (tree_of s d gs ls)
  unfolding merged_counts count_running all_merges
  merges_compactable d e = rw e record {
    leaves = leaves_same s n (merged_counts r n) fs gs ls refl refl (leaves_framed s n fs ls (tree_framed s (tree_of s n fs ls) w.tree));
    again =
        subst (Reinsertable s)
        (ap₂ (λ bs u. on_running (with_merged 0) (dropped bs u)) (sym (ended s n ps r fs gs ms ls h).alive) (sym (merges-made s n ps r fs gs ms ls h)))
        (left-again s (tree_of s n fs ls) w.tree ps w.far);
  }

-- Room through a rebuild: merges, dropping, reinsertion and refold go through roomy trees.
-- All but reinsertion adds no node and no entry, and lengthens no list. Reinsertion is listed whether or not it is due, and so is dropping.
use Rattle.std.specs.Prelude.{ℕ, zero, suc, ◌+◌, ◌-◌, ◌≤◌, ◌<◌, ◌≡◌, refl, Bool, true, false, cond, ◌||◌, List, [], ◌∷◌, map, reverse, leb, eqb, length, get_or}
use Rattle.std.proofs.Common.{ap, inr, arith}
use Rattle.feature.specs.Summaries.{blank}
use Rattle.feature.specs.declared.Summary.{Summary}
use Rattle.head.specs.declared.Settings.{Settings}
use Rattle.rules.specs.Tree.{Node, Tree, merge, node_at, blank_node, child, with_nodes, with_entries, on_running, summed}
use Rattle.rules.specs.Pairs.{sorted}
use Rattle.rules.specs.declared.Pair.{Pair}
use Rattle.rules.specs.Reinsert.{reinserted}
use Rattle.rules.specs.Refold.{fold_balanced, refold_one, preorder, refold_all, refolded}
use Rattle.rules.specs.Rebuild.{target, Merging, merge_one, merge_all, dropped, with_merges, rebalanced, pairs_of, across, merge_start, merges_in, thinned, compacted, Guard, mergeable, any_two}
use Rattle.rules.specs.Rebuild.{counted, rebuilt}
use Rattle.counting.specs.Flags.{keep-few}
use Rattle.counting.specs.Lists.{change_keeps, length-change}
use Rattle.laws.specs.Invariant.Sound.{Caps}
use Rattle.laws.specs.Inserting.Grown.{Whole}
use Rattle.laws.specs.Rebuilding.Drop.{dropped_nodes, dropped-leaf, dropped_lists}
use Rattle.laws.specs.Rebuilding.Merge.{Merged}
use Rattle.laws.specs.Rebuilding.Rebuilt.{merges-merged, frame-w, rows_w, counted-w, length-w, pos_w}
use Rattle.laws.specs.Room.Nodes.{Roomy, Within, within_then, within-roomy}
use Rattle.promises.specs.Room.Moments.{holding_roomy, Reinserting, reinserting_end, reinserting-roomy}
use Rattle.head.specs.Counting.{with_merged}

-- ---- what adds nothing

pub entries_within : (t : Tree) (es : List Summary) → length es ≤ length t.entries → Within t (with_entries es t)
unfolding with_entries node_at
entries_within t es h = record { nodes = refl; entries = h; leaf = (λ i. refl); lists = (λ i. omega arith) }

pub dropped-within : (bs : List Bool) (t : Tree) → Within t (dropped bs t)
dropped-within bs t = record {
  nodes = dropped_nodes bs t;
  entries = (unfold dropped with_entries with_nodes in keep-few bs t.entries);
  leaf = dropped-leaf bs t;
  lists = dropped_lists bs t;
}

pub refold_within : (s : Settings) (i : ℕ) (t : Tree) → Within t (refold_one s i t)
unfolding refold_one with_nodes node_at summed
refold_within s i t = record {
  nodes = length-change anew i t.nodes;
  entries = omega arith;
  leaf = (λ k. change_keeps (λ n. n.leaf) anew i k blank_node t.nodes (λ n. refl));
  lists = (λ k. let q = ap (λ l. length l) (change_keeps (λ n. n.list) anew i k blank_node t.nodes (λ n. refl)) in omega arith);
}
  where
    anew : Node → Node
    anew n = summed (λ _. fold_balanced s (length n.list) (map (child t n.leaf) n.list)) n

pub counted-within : (t : Tree) → Within t (counted t)
unfolding counted node_at on_running
counted-within t = record { nodes = refl; entries = omega arith; leaf = (λ i. refl); lists = (λ i. omega arith) }

-- ---- a refold: node after node

pub data Refolds (s : Settings) : List ℕ → Tree → Tree → Type 0 where
  start : {ns : List ℕ} {t : Tree} → Refolds s ns t t
  next : {n : ℕ} {ns : List ℕ} {t u : Tree} → Refolds s ns (refold_one s n t) u → Refolds s (n ∷ ns) t u

abbrev pub Refolding : Settings → Tree → Tree → Type 0
Refolding s t u = Refolds s (reverse (preorder t (length t.nodes) (t.root ∷ []))) t u

refolds_end : (s : Settings) (ns : List ℕ) (t : Tree) → Refolds s ns t (refold_all s ns t)
unfolding refold_all
refolds_end s [] t = start
refolds_end s (n ∷ ns) t = next (refolds_end s ns (refold_one s n t))

-- it ends in the rule's tree
pub refolding_end : (s : Settings) (t : Tree) → Refolding s t (refolded s t)
unfolding refolded
refolding_end s t = refolds_end s (reverse (preorder t (length t.nodes) (t.root ∷ []))) t

pub refolds_roomy : {s : Settings} {ns : List ℕ} {t u : Tree} → Roomy s t → Refolds s ns t u → Roomy s u
refolds_roomy r start = r
refolds_roomy {s} {t = t} r (next {n} w) = refolds_roomy (within-roomy (refold_within s n t) r) w

-- ---- a rebuild

-- the pairs ps in order, k merges at most
pub data Merges (s : Settings) (may : Guard) (t : Tree) : ℕ → List Pair → Merging → Tree → Type 0 where
  start : {k : ℕ} {ps : List Pair} {m : Merging} → Merges s may t k ps m (with_entries m.entries t)
  skip : {k : ℕ} {p : Pair} {ps : List Pair} {m : Merging} {u : Tree} → mergeable may p m ≡ false → Merges s may t k ps m u → Merges s may t k (p ∷ ps) m u
  next : {k : ℕ} {p : Pair} {ps : List Pair} {m : Merging} {u : Tree} → mergeable may p m ≡ true → Merges s may t k ps (merge_one s p m) u
      → Merges s may t (suc k) (p ∷ ps) m u

-- they end in the rule's entries
pub merges_end : (s : Settings) (may : Guard) (t : Tree) (k : ℕ) (ps : List Pair) (m : Merging) → Merges s may t k ps m (with_entries (merge_all s may k ps m).entries t)
unfolding merge_all
merges_end s may t zero ps m = start
merges_end s may t (suc k) [] m = start
merges_end s may t (suc k) (p ∷ ps) m = go (mergeable may p m) refl (merges_end s may t k ps (merge_one s p m)) (merges_end s may t (suc k) ps m)
  where
    go : (b : Bool) → mergeable may p m ≡ b → Merges s may t k ps (merge_one s p m) (with_entries (merge_all s may k ps (merge_one s p m)).entries t)
        → Merges s may t (suc k) ps m (with_entries (merge_all s may (suc k) ps m).entries t)
        → Merges s may t (suc k) (p ∷ ps) m
        (with_entries (elim b as (λ _. Merging) [ true ↦ merge_all s may k ps (merge_one s p m) | false ↦ merge_all s may (suc k) ps m ]).entries t)
    go true e x y = next e x
    go false e x y = skip e y

merges-roomy : {s : Settings} {may : Guard} {t : Tree} {k : ℕ} {ps : List Pair} {m : Merging} {u : Tree} → Roomy s t → length m.entries ≤ length t.entries
    → Merges s may t k ps m u → Roomy s u
merges-roomy {t = t} {m = m} r h start = within-roomy (entries_within t m.entries h) r
merges-roomy r h (skip e w) = merges-roomy r h w
merges-roomy {s} {t} {m = m} r h (next {p = p} e w) =
    let q : length (merge_one s p m).entries ≡ length m.entries =
    unfold merge_one in length-change (λ e. merge s e (get_or m.entries p.two blank)) p.one m.entries in
    merges-roomy r (omega arith) w

-- the trees before the refold
pub data Compacting (s : Settings) (t : Tree) : Tree → Type 0 where
  start : Compacting s t t
  merging : {u : Tree} → Merges s any_two t (length t.entries - target s.max_leaves) (sorted (pairs_of s t)) (merge_start t) u
      → Compacting s t u
  drops : Compacting s t (thinned t (merges_in s t))
  reinserting : {u : Tree} → Reinserting s (on_running (with_merged 0) (thinned t (merges_in s t))) u → Compacting s t u

pub data Rebuilding (s : Settings) (t : Tree) : Tree → Type 0 where
  compacting : {u : Tree} → Compacting s t u → Rebuilding s t u
  refolding : {u : Tree} → Refolding s (compacted s t) u → Rebuilding s t u
  counts : Rebuilding s t (rebuilt s t)

-- the tree that is refolded is one of the first
pub compacting_end : (s : Settings) (t : Tree) → Compacting s t (compacted s t)
unfolding compacted rebalanced
compacting_end s t = pick (eqb (merges_in s t).count 0) (across s t || leb s.max_leaves (thinned t (merges_in s t)).running.merged)
  where
    u : Tree
    u = thinned t (merges_in s t)

    pick : (a b : Bool) → Compacting s t (cond a t (cond b (reinserted s (on_running (with_merged 0) u)) u))
    pick true b = start
    pick false true = reinserting (reinserting_end s (on_running (with_merged 0) u))
    pick false false = drops

module _ {s : Settings} {t : Tree} {total : ℕ} (c : Caps s) (w : Whole s t total) (pos : 0 < length t.entries)
    (few : length t.entries ≤ s.max_leaves + 1) where
  merged-all : Merged s (length t.entries) total (merges_in s t)
  merged-all = merges-merged w.1 w.2

  before : Roomy s t
  before = holding_roomy s t total (inr w) few

  merged-within : Within t (with_merges t (merges_in s t))
  unfolding with_merges node_at on_running with_entries
  merged-within = record { nodes = refl; entries = (let q = merged-all.len_e in omega arith); leaf = (λ i. refl); lists = (λ i. omega arith) }

  compacting_roomy : {u : Tree} → Compacting s t u → Roomy s u
  compacting_roomy start = before
  compacting_roomy (merging m) = merges-roomy before (omega arith) m
  compacting_roomy drops = within-roomy (within_then merged-within (dropped-within (merges_in s t).alive (with_merges t (merges_in s t)))) before
  compacting_roomy (reinserting r) =
      let d = merged-all in
      let n = length-w w.1 w.2 d pos in
      let q = d.counted in
      reinserting-roomy (on_running (with_merged 0) (thinned t (merges_in s t))) total c (frame-w w.1 w.2 d pos) (rows_w w.1 w.2 d pos) (counted-w w.1 w.2 d pos)
      w.1.exact.small (pos_w w.1 w.2 d pos) (omega arith) r

  -- every tree that a rebuild goes through
  pub rebuilding-roomy : {u : Tree} → Rebuilding s t u → Roomy s u
  unfolding rebuilt compacted
  rebuilding-roomy (compacting r) = compacting_roomy r
  rebuilding-roomy (refolding r) = refolds_roomy (compacting_roomy (compacting_end s t)) r
  rebuilding-roomy counts =
      let v = compacted s t in
      within-roomy (counted-within (refolded s v)) (refolds_roomy (compacting_roomy (compacting_end s t)) (refolding_end s v))

-- The counters that the merges and the rebuild leave.
use Rattle.std.specs.Prelude.{ℕ, suc, ◌+◌, ◌-◌, ◌/◌, ◌≤◌, ◌≡◌, Bool, true, false, cond, ◌||◌, List, leb, ltb, min, Float}
use borrow.Author.Tests.{ltb-true, ltb-false}
use Rattle.std.proofs.Math.Path.{refl}
use Rattle.std.proofs.Common.{ap, ◌∙◌, subst, arith}
use Rattle.head.specs.declared.Settings.{Settings}
use Rattle.head.specs.declared.Counters.{Counters}
use Rattle.head.specs.Counting.{count_running, with_merged, with_rebuilds}
use Rattle.rules.specs.Tree.{Tree, on_running}
use Rattle.rules.specs.Slices.{tree_of}
use Rattle.rules.specs.Reinsert.{reinserted}
use Rattle.rules.specs.Rebuild.{target, merges_on, one_more, counted, rebalanced}
use Rattle.arena.specs.Writes.{tree_running}
use Rattle.arena.specs.Trees.{Floats, Links, floats_same, links_same}
use Rattle.merging.specs.declared.merges.Merges.{Merges}

-- the threshold grown by the widest gap, and the merges in the merged total
unfoldable pub merged_counts : Merges → Counters → Counters
merged_counts w n = count_running (merges_on w.count w.widest) n

-- a rebuild more, up to the top value
unfoldable pub counted_up : Counters → Counters
counted_up n = count_running (λ r. with_rebuilds (one_more r.rebuilds) r) n

pub one_more_lem : (r : ℕ) → r ≤ 0xffff_ffff_ffff_ffff → min (r + 1) 0xffff_ffff_ffff_ffff ≡ one_more r
unfolding one_more
one_more_lem r h = go (ltb r 0xffff_ffff_ffff_ffff) refl
  where
    go : (b : Bool) → ltb r 0xffff_ffff_ffff_ffff ≡ b → min (r + 1) 0xffff_ffff_ffff_ffff ≡ cond b (suc r) r
    go true q = let l = ltb-true r 0xffff_ffff_ffff_ffff q in omega arith
    go false q = let l = ltb-false r 0xffff_ffff_ffff_ffff q in omega arith

pub target_is : (m : ℕ) → 1 ≤ m → target m ≡ m - m / 10
unfolding target
target_is m h = omega arith

module _ (s : Settings) (fs : List Float) (ls : List ℕ) (n : Counters) where
  pub merged-zero : (r : Counters) → r ≡ count_running (with_merged 0) n → tree_of s r fs ls ≡ on_running (with_merged 0) (tree_of s n fs ls)
  merged-zero r e = rw e (tree_running s n (with_merged 0) fs ls)

  pub counted_is : tree_of s (counted_up n) fs ls ≡ counted (tree_of s n fs ls)
  unfolding counted_up counted
  counted_is = tree_running s n _ fs ls

-- ---- placed again where it is due

module _ (s : Settings) (across : Bool) (m : Counters) (fs : List Float) (ls : List ℕ) {t : Tree} (e : tree_of s m fs ls ≡ t) where
  pub placed-again : (r : Counters) {u : Tree} → (across || leb s.max_leaves m.running.merged) ≡ true → r ≡ count_running (with_merged 0) m
      → u ≡ reinserted s (tree_of s r fs ls) → u ≡ rebalanced s across t
  placed-again r d z q =
      q ∙ ap (reinserted s) (merged-zero s fs ls m r z)
      ∙ subst (λ t. reinserted s (on_running (with_merged 0) (tree_of s m fs ls)) ≡ rebalanced s across t) e (unfold rebalanced tree_of in rw d)

  pub left-placed : (across || leb s.max_leaves m.running.merged) ≡ false → tree_of s m fs ls ≡ rebalanced s across t
  left-placed d = subst (λ t. tree_of s m fs ls ≡ rebalanced s across t) e (unfold rebalanced tree_of in rw d)

-- ---- the slices serve the new counters as they served those before

-- as many nodes and entries
pub record SameCounts (n d : Counters) : Type 0 where
  pub nodes : d.nodes ≡ n.nodes
  pub entries : d.entries ≡ n.entries

module _ (n d : Counters) where
  pub merged-same : (w : Merges) → d ≡ merged_counts w n → SameCounts n d
  unfolding merged_counts count_running
  merged-same w e = rw e record { nodes = refl; entries = refl }

  pub zero_same : d ≡ count_running (with_merged 0) n → SameCounts n d
  unfolding count_running
  zero_same e = rw e record { nodes = refl; entries = refl }

  pub counted_same : d ≡ counted_up n → SameCounts n d
  unfolding counted_up count_running
  counted_same e = rw e record { nodes = refl; entries = refl }

module _ (s : Settings) (n d : Counters) (same : SameCounts n d) {k : ℕ} where
  pub floats_as : Floats s n k → Floats s d k
  floats_as f = floats_same s n k d same.nodes same.entries f

  pub links_as : Links s n k → Links s d k
  links_as l = links_same s n k d same.nodes l

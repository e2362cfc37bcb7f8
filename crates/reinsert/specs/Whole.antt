-- A tree with its nodes forgotten, and what a tree has to be so that all its entries are placed again.
use Rattle.std.specs.Prelude.{ℕ, ◌≤◌, ◌<◌, ◌≡◌, true, List, [], reverse, length, Float, None}
use Rattle.std.proofs.Common.{ap, ◌∙◌, arith}
use Rattle.binary64.specs.Whole.{most}
use Rattle.feature.specs.Summaries.{blank}
use Rattle.feature.specs.declared.Summary.{Summary}
use Rattle.head.specs.declared.Settings.{Settings}
use Rattle.head.specs.declared.Counters.{Counters}
use Rattle.head.specs.Limits.{Sized}
use Rattle.head.specs.Sizes.{entry_cap, nodes_some}
use Rattle.head.specs.Counting.{count_nodes, count_entries, root_at}
use Rattle.rules.specs.Lists.{change_at, snoc, table}
use Rattle.rules.specs.Tree.{Tree, blank_node, entry_at, summed, with_nodes}
use Rattle.rules.specs.Slices.{tree_of}
use Rattle.rules.specs.Reinsert.{cleared, replaced_all, reinserted}
use Rattle.laws.specs.Invariant.Weights.{IsExact}
use Rattle.laws.specs.Invariant.Sound.{entry_weight, caps_of}
use Rattle.laws.specs.Inserting.Grown.{Counted}
use Rattle.laws.specs.Rebuilding.Reinsert.{list_rows, list_total, list_length, cleared_holds}
use Rattle.laws.specs.ForCode.{Standing}
use Rattle.stretch.specs.Blocks.{relinked, node_of}
use Rattle.arena.specs.Numbered.{Relinked}
use Rattle.arena.specs.Trees.{Floats, Links, on_node}
use Rattle.arena.specs.Writes.{node_relinked}
use Rattle.reinsert.specs.Collect.{all_collected}
use Rattle.reinsert.specs.Replace.{Replaceable}

-- ---- the nodes forgotten: the counters r

-- one node, no entry, and the other numbers as they are
unfoldable pub cleared_counts : Counters → Counters
cleared_counts n = root_at 0 (count_entries 0 (count_nodes 1 n))

module _ (s : Settings) (n r : Counters) (e : r ≡ cleared_counts n) where
  pub floats-cleared : {k : ℕ} → Floats s n k → Floats s r k
  unfolding cleared_counts root_at count_entries count_nodes
  floats-cleared f = rw e record { sized = f.sized; nodes_in = nodes_some s; entries_in = omega arith; room = f.room }

  pub links_cleared : {k : ℕ} → Links s n k → Links s r k
  unfolding cleared_counts root_at count_entries count_nodes
  links_cleared f = rw e record { sized = f.sized; nodes_in = nodes_some s; room = f.room }

  pub root_cleared : 0 < r.nodes
  unfolding cleared_counts root_at count_entries count_nodes
  root_cleared = rw e (omega arith)

  -- the root's slot and its block written
  pub cleared-is : (fs gs : List Float) (ls ks : List ℕ) → tree_of s r gs ls ≡ on_node (summed (λ _. blank)) 0 (tree_of s r fs ls)
      → Relinked s (relinked None true []) 0 ls ks → tree_of s r gs ks ≡ cleared (tree_of s n fs ls)
  cleared-is fs gs ls ks p q =
      node_relinked s r gs ls ks (relinked None true []) 0 root_cleared q ∙ ap (on_node (relinked None true []) 0) p ∙ whole
    where
      whole : on_node (relinked None true []) 0 (on_node (summed (λ _. blank)) 0 (tree_of s r fs ls)) ≡ cleared (tree_of s n fs ls)
      whole = unfold tree_of cleared_counts root_at count_entries count_nodes on_node with_nodes change_at table snoc summed relinked node_of cleared blank_node in rw e

-- ---- the whole

-- a standing tree whose entries are each of some rows, and so many together
pub record Reinsertable (s : Settings) (t : Tree) : Type 0 where
  pub standing : Standing s t
  pub total : ℕ
  pub rows : (c : ℕ) → c < length t.entries → IsExact (entry_at t c) × (1 ≤ entry_weight t c)
  pub counted : Counted t total
  pub small : total ≤ most
  pub some : 0 < length t.entries

module _ (s : Settings) (t : Tree) {es : List Summary} {u : Tree} (g : Reinsertable s t) (q : es ≡ all_collected t) (p : u ≡ cleared t) where
  pub all_replaceable : Sized s → Replaceable s u (reverse es)
  unfolding all_collected cleared blank_node entry_cap
  all_replaceable z =
      let frame = g.standing.framed.frame in
      let caps = caps_of z in
      let total = list_total t g.total caps frame g.rows g.counted g.small g.some in
      let long = list_length t g.total caps frame g.rows g.counted g.small g.some in
      let small = g.small in
      let few = g.standing.entries_few in
      rw (p, q)
      record {
        total = 0;
        holds = cleared_holds s t;
        rows = list_rows t g.total caps frame g.rows g.counted g.small g.some;
        few = omega arith;
        room = omega arith;
      }

  pub reinserted-is : {v : Tree} → v ≡ replaced_all s (reverse es) u → v ≡ reinserted s t
  unfolding reinserted all_collected
  reinserted-is h = h ∙ rw (p, q)

-- A tree whose leaves have lost entries can be reinserted: it stands as the tree did; and so after the merges m, without the entries merged away.
use Rattle.std.specs.Prelude.{ℕ, ◌≤◌, ◌<◌, ◌≡◌, Bool, false, length}
use Rattle.std.proofs.Math.Path.{refl, ap}
use Rattle.std.proofs.Common.{sym, ◌∙◌, subst, arith}
use Rattle.std.proofs.Math.Bool.{cond}
use mathlib.Core.List.{List, map, filter_map}
use Rattle.std.proofs.Math.ListN.{get_or, get_or-map}
use Rattle.std.proofs.lemmas.List.{length-map}
use Rattle.head.specs.declared.Settings.{Settings}
use Rattle.head.specs.Sizes.{entry_cap}
use Rattle.rules.specs.Tree.{Tree, node_at, blank_node, with_nodes, with_entries, on_running, with_list}
use Rattle.rules.specs.Rebuild.{Merging, keep_numbers, pruned, dropped, with_merges, thinned}
use Rattle.counting.specs.Sums.{sum_to, sum_same}
use Rattle.laws.specs.Invariant.Sound.{Settled}
use Rattle.laws.specs.Inserting.Grown.{Counted}
use Rattle.laws.specs.Rebuilding.Merge.{Merged}
use Rattle.laws.specs.Rebuilding.Rebuilt.{frame-w, rows_w, counted-w, length-w, pos_w}
use Rattle.laws.specs.ForCode.{leaf_count, Framed, Standing, settled-standing}
use Rattle.reinsert.specs.Whole.{Reinsertable}
use Rattle.head.specs.Counting.{with_merged}

-- u has the nodes of t, its leaves without the entries whose flag is down
module _ (s : Settings) (t u : Tree) (bs : List Bool) (nodes : u.nodes ≡ map (pruned bs) t.nodes) (root : u.root ≡ t.root) where
  node_is : (k : ℕ) → node_at u k ≡ pruned bs (node_at t k)
  unfolding node_at pruned with_list keep_numbers filter_map blank_node
  node_is k = ap (λ ns. get_or ns k blank_node) nodes ∙ get_or-map (pruned bs) t.nodes k blank_node

  nodes_is : length u.nodes ≡ length t.nodes
  nodes_is = ap length nodes ∙ length-map t.nodes (pruned bs)

  leaf-is : (k : ℕ) → (node_at u k).leaf ≡ (node_at t k).leaf
  unfolding pruned with_list
  leaf-is k = ap (λ n. n.leaf) (node_is k)

  root_is : (node_at u u.root).parent ≡ (node_at t t.root).parent
  unfolding pruned with_list
  root_is = ap (λ k. (node_at u k).parent) root ∙ ap (λ n. n.parent) (node_is t.root)

  -- only leaves lose entries
  inner-is : (k : ℕ) → (node_at t k).leaf ≡ false → (node_at u k).list ≡ (node_at t k).list
  unfolding pruned with_list
  inner-is k f = ap (λ n. n.list) (node_is k) ∙ ap (λ b. cond b (keep_numbers bs (node_at t k).list) (node_at t k).list) f

  leaves_is : leaf_count u ≡ leaf_count t
  unfolding leaf_count
  leaves_is =
      sum_same (λ k. cond (node_at t k).leaf 1 0) (λ k. cond (node_at u k).leaf 1 0) (length u.nodes) (λ k l. ap (λ b. cond b 1 0) (leaf-is k))
      ∙ ap (λ n. sum_to (λ k. cond (node_at t k).leaf 1 0) n) nodes_is

  pub pruned-standing : Standing s t → Framed u → length u.entries ≤ entry_cap s → Standing s u
  pruned-standing before framed few = record {
    framed = framed;
    root_top = root_is ∙ before.root_top;
    inners = (λ i l f. let e = (sym (leaf-is i) ∙ f) in subst (λ l. 0 < length l) (sym (inner-is i e)) (before.inners i (rw nodes_is at l) e));
    leaves_few = (let a = leaves_is in let b = before.leaves_few in omega arith);
    entries_few = few;
  }

-- ---- after merges

module _ (s : Settings) (t : Tree) (m : Merging) where
  abbrev u : Tree
  u = on_running (with_merged 0) (thinned t m)

  same_nodes : u.nodes ≡ map (pruned m.alive) t.nodes
  unfolding on_running dropped with_merges with_entries with_nodes
  same_nodes = refl

  same_root : u.root ≡ t.root
  unfolding on_running dropped with_merges with_entries with_nodes
  same_root = refl

  module _ {R : ℕ → ℕ} {total : ℕ} (g : Settled s t R total) (n : Counted t total) (d : Merged s (length t.entries) total m)
      (some : 0 < length t.entries) (few : length t.entries ≤ entry_cap s) where
    pub merged_reinsertable : Reinsertable s u
    merged_reinsertable =
        let long = length-w g n d some in
        let counts = d.counted in
        record {
          standing =
              pruned-standing s t u m.alive same_nodes same_root (settled-standing s t R total g few) (record { R = R; frame = frame-w g n d some })
              (omega arith);
          total = total;
          rows = rows_w g n d some;
          counted = counted-w g n d some;
          small = g.exact.small;
          some = pos_w g n d some;
        }

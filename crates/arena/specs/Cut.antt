-- The slices cut to what the settings need: the tree in them is the same.
use Rattle.std.specs.Prelude.{ℕ, ◌+◌, ◌*◌, ◌<◌, ◌≡◌, length, take, Float}
use Rattle.std.proofs.Math.Path.{ap, ap₂}
use Rattle.std.proofs.Common.{◌∙◌, arith}
use mathlib.Core.List.{List}
use Rattle.head.specs.declared.Settings.{Settings}
use Rattle.head.specs.declared.Counters.{Counters}
use Rattle.head.specs.Sizes.{node_cap, entry_cap, slot_width, block_width, floats_needed, links_needed}
use Rattle.feature.specs.declared.Summary.{Summary}
use Rattle.rules.specs.Tree.{Node, Tree}
use Rattle.rules.specs.Slices.{summary_in, node_in, slot_at, block_at, tree_of}
use Rattle.stretch.specs.Stretches.{room, take-stretch}
use Rattle.arena.specs.Tables.{table_same}
use Rattle.arena.specs.Trees.{Floats, Links}

module _ (s : Settings) (c : Counters) (fs : List Float) (ls : List ℕ) (f : Floats s c (length fs)) (l : Links s c (length ls)) where
  slot_cut : (i : ℕ) → i < node_cap s + entry_cap s → slot_at s (take (floats_needed s) fs) i ≡ slot_at s fs i
  unfolding slot_at floats_needed
  slot_cut i h = take-stretch fs (floats_needed s) (i * slot_width s) (slot_width s) (room i (node_cap s + entry_cap s) (slot_width s) (floats_needed s) h (omega arith))

  block_cut : (i : ℕ) → i < node_cap s → block_at s (take (links_needed s) ls) i ≡ block_at s ls i
  unfolding block_at links_needed
  block_cut i h = take-stretch ls (links_needed s) (i * block_width s) (block_width s) (room i (node_cap s) (block_width s) (links_needed s) h (omega arith))

  needed-cut : tree_of s c (take (floats_needed s) fs) (take (links_needed s) ls) ≡ tree_of s c fs ls
  unfolding tree_of
  needed-cut =
      let n = f.nodes_in in
      let e = f.entries_in in
      ap₂ (λ (ns : List Node) (es : List Summary). both ns es)
      (table_same _ _ c.nodes (λ i h. ap₂ (node_in s) (slot_cut i (omega arith)) (block_cut i (omega arith))))
      (table_same _ _ c.entries (λ i h. ap (summary_in s) (slot_cut (node_cap s + i) (omega arith))))
    where
      both : List Node → List Summary → Tree
      both ns es = record { nodes = ns; entries = es; root = c.root; running = c.running }

  pub tree-cut : {j k : ℕ} → j ≡ floats_needed s → k ≡ links_needed s → tree_of s c (take j fs) (take k ls) ≡ tree_of s c fs ls
  tree-cut p q = ap₂ (λ j k. tree_of s c (take j fs) (take k ls)) p q ∙ needed-cut

-- The lists of a tree whose links are a frame name what is there.
use Rattle.std.specs.Prelude.{ℕ, ◌<◌, ◌≡◌, Bool, List, length, Float}
use Rattle.std.proofs.Math.Bool.{true, false}
use Rattle.head.specs.declared.Settings.{Settings}
use Rattle.head.specs.declared.Counters.{Counters}
use Rattle.rules.specs.Tree.{node_at}
use Rattle.rules.specs.Slices.{tree_of}
use Rattle.laws.specs.ForCode.{Framed}
use Rattle.laws.specs.Invariant.Beneath.{kid_below, entry_below}
use Rattle.arena.specs.Trees.{ChildIn, ChildrenIn, count_nodes_lem, count_entries_lem}
use Rattle.counting.specs.Places.{get_occurs}

module _ (s : Settings) (n : Counters) (fs : List Float) (ls : List ℕ) (g : Framed (tree_of s n fs ls)) where
  pub root_in : n.root < n.nodes
  unfolding tree_of
  root_in = rw (count_nodes_lem s n fs ls) at g.frame.root_in

  module _ (i : ℕ) (h : i < n.nodes) where
    there : i < length (tree_of s n fs ls).nodes
    there = rw (count_nodes_lem s n fs ls) h

    -- the node's children, which are nodes or entries by its kind
    pub frame_children : (leaf : Bool) → (node_at (tree_of s n fs ls) i).leaf ≡ leaf → ChildrenIn n leaf (node_at (tree_of s n fs ls) i).list
    unfolding ChildrenIn ChildIn
    frame_children true e = λ k l. rw (count_entries_lem s n fs ls) at (entry_below g.frame i _ there e (get_occurs _ k 0 l))
    frame_children false e = λ k l. rw (count_nodes_lem s n fs ls) at (kid_below g.frame i _ there e (get_occurs _ k 0 l))

-- The lists of a tree that is sure name what is there; and a tree stays sure when an item goes along a path.
use Rattle.std.specs.Prelude.{ℕ, ◌<◌, ◌≡◌, Bool, List, length, get_or, Float, Some}
use Rattle.std.proofs.Math.Path.{refl}
use Rattle.std.proofs.Math.Bool.{true, false}
use Rattle.feature.specs.declared.Summary.{Summary}
use Rattle.head.specs.declared.Settings.{Settings}
use Rattle.head.specs.declared.Counters.{Counters}
use Rattle.rules.specs.Tree.{Tree, node_at, with_nodes, summed}
use Rattle.rules.specs.Slices.{tree_of}
use Rattle.rules.specs.Descent.{along_path}
use Rattle.laws.specs.ForCode.{Sure, path_kids}
use Rattle.laws.specs.Inserting.Grown.{climb_keeps, path_leaf, path_length}
use Rattle.arena.specs.Trees.{ChildIn, ChildrenIn, count_nodes_lem, count_entries_lem}
use Rattle.counting.specs.Places.{get_occurs}

-- ---- a list whose numbers are there

pub node_listed : (n : Counters) (l : List ℕ) → ChildrenIn n false l → (k : ℕ) → k < length l → get_or l k 0 < n.nodes
unfolding ChildrenIn ChildIn
node_listed n l h k b = h k b

pub entry_listed : (n : Counters) (l : List ℕ) → ChildrenIn n true l → (k : ℕ) → k < length l → get_or l k 0 < n.entries
unfolding ChildrenIn ChildIn
entry_listed n l h k b = h k b

-- ---- the lists of a tree that counters and slices hold

module _ (s : Settings) (n : Counters) (fs : List Float) (ls : List ℕ) (w : Sure s (tree_of s n fs ls)) (i : ℕ) (h : i < n.nodes) where
  there : i < length (tree_of s n fs ls).nodes
  there = rw (count_nodes_lem s n fs ls) h

  -- the node's children, which are nodes or entries by its kind
  pub children_in : (leaf : Bool) → (node_at (tree_of s n fs ls) i).leaf ≡ leaf → ChildrenIn n leaf (node_at (tree_of s n fs ls) i).list
  unfolding ChildrenIn ChildIn
  children_in true e = λ k l. rw (count_entries_lem s n fs ls) at (w.entries_in i _ there e (get_occurs _ k 0 l))
  children_in false e = λ k l. rw (count_nodes_lem s n fs ls) at (w.nodes_in i _ there e (get_occurs _ k 0 l))

  pub list_filled : (node_at (tree_of s n fs ls) i).leaf ≡ false → 0 < length (node_at (tree_of s n fs ls) i).list
  list_filled e = w.filled i there e

  pub parent_there : (p : ℕ) → (node_at (tree_of s n fs ls) i).parent ≡ Some p → p < n.nodes
  parent_there p e = rw (count_nodes_lem s n fs ls) at (w.parent_in i p there e)

pub root_there : (s : Settings) (n : Counters) (fs : List Float) (ls : List ℕ) → Sure s (tree_of s n fs ls) → n.root < n.nodes
unfolding tree_of
root_there s n fs ls w = rw (count_nodes_lem s n fs ls) at w.root_in

-- ---- along a path only summaries change

module _ (F : Summary → Summary) (l : ℕ) (t : Tree) where
  pub path_parent : (k : ℕ) → (node_at (along_path F l t) k).parent ≡ (node_at t k).parent
  unfolding along_path with_nodes node_at summed
  path_parent k = climb_keeps F (λ m. m.parent) (λ m. refl) (length t.nodes) (Some l) t.nodes k

  pub path_root : (along_path F l t).root ≡ t.root
  unfolding along_path with_nodes
  path_root = refl

  pub path_entries : (along_path F l t).entries ≡ t.entries
  unfolding along_path with_nodes
  path_entries = refl

  pub path_sure : (s : Settings) → Sure s t → Sure s (along_path F l t)
  path_sure s w =
      let long = path_length F l t in
      let kind = path_leaf F l t in
      let list = path_kids F l t in record {
        root_in = rw (path_root, long) w.root_in;
        filled = (λ n h e. rw (list n) (w.filled n (rw long at h) (rw (kind n) at e)));
        nodes_in = (λ n c h e o. rw long (w.nodes_in n c (rw long at h) (rw (kind n) at e) (rw (list n) at o)));
        entries_in = (λ n c h e o. rw path_entries (w.entries_in n c (rw long at h) (rw (kind n) at e) (rw (list n) at o)));
        parent_in = (λ n p h e. rw long (w.parent_in n p (rw long at h) (rw (path_parent n) at e)));
        fits = (λ n h. rw (list n, kind n) (w.fits n (rw long at h)));
      }

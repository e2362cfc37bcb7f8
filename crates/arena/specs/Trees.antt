-- The tree that counters and slices hold: what the slices have to be, and where a node and an entry stand in them.
use Rattle.std.specs.Prelude.{ℕ, ◌+◌, ◌*◌, ◌≤◌, ◌<◌, ◌≡◌, Bool, List, [], length, get_or, Float}
use Rattle.std.proofs.Math.Path.{sym, ap, ap₂}
use Rattle.std.proofs.Math.Bool.{true, false}
use Rattle.std.proofs.Math.Nat.{mul-le-mul_right}
use Rattle.std.proofs.Common.{add-mul, arith}
use Rattle.feature.specs.Shape.{Shaped}
use Rattle.feature.specs.declared.Summary.{Summary}
use Rattle.head.specs.declared.Settings.{Settings}
use Rattle.head.specs.declared.Counters.{Counters}
use Rattle.head.specs.Limits.{Sized}
use Rattle.head.specs.Sizes.{node_cap, entry_cap, slot_width, block_width, floats_needed, links_needed, nodes_small, entries_small}
use Rattle.head.specs.Counting.{count_nodes, count_entries}
use Rattle.rules.specs.Lists.{change_at, snoc}
use Rattle.rules.specs.Tree.{Node, Tree, node_at, entry_at, child, with_nodes, with_entries}
use Rattle.rules.specs.Slices.{summary_in, node_in, slot_at, block_at, tree_of}
use Rattle.rules.specs.ListLaws.{length-table}
use Rattle.rules.specs.Held.{in_shaped, node_held, entry_held}
use Rattle.stretch.specs.Stretches.{room}
use Rattle.arena.specs.Numbered.{SlotIn, BlockIn, summary_at}

-- ---- what the slices have to be: sized settings, counts within their caps, and room for all slots in n floats or n links

pub record Floats (s : Settings) (c : Counters) (n : ℕ) : Type 0 where
  pub sized : Sized s
  pub nodes_in : c.nodes ≤ node_cap s
  pub entries_in : c.entries ≤ entry_cap s
  pub room : floats_needed s ≤ n

pub record Links (s : Settings) (c : Counters) (n : ℕ) : Type 0 where
  pub sized : Sized s
  pub nodes_in : c.nodes ≤ node_cap s
  pub room : links_needed s ≤ n

-- the nodes' slots end at e, the entries' at the end of the slice, and the counts are within either
pub record Rooms (s : Settings) (c : Counters) (e : ℕ) : Type 0 where
  pub end : e ≡ node_cap s * slot_width s
  pub nodes_room : c.nodes * slot_width s ≤ node_cap s * slot_width s
  pub entries_room : c.entries * slot_width s ≤ entry_cap s * slot_width s
  pub whole : node_cap s * slot_width s + entry_cap s * slot_width s ≡ floats_needed s

module _ (s : Settings) (c : Counters) (n : ℕ) where
  pub slot_in : (i : ℕ) → Floats s c n → i < node_cap s + entry_cap s → SlotIn s i n
  unfolding floats_needed
  slot_in i f h = record { sized = f.sized; room = room i (node_cap s + entry_cap s) (slot_width s) n h f.room }

  pub node_slot : (i : ℕ) → Floats s c n → i < c.nodes → SlotIn s i n
  node_slot i f h = slot_in i f (let k = f.nodes_in in omega arith)

  pub entry_slot : (i : ℕ) → Floats s c n → i < c.entries → SlotIn s (node_cap s + i) n
  entry_slot i f h = slot_in (node_cap s + i) f (let k = f.entries_in in omega arith)

  -- the same by a number r that the code has worked out, and up to the cap
  pub entry_place : (i r : ℕ) → Floats s c n → i < entry_cap s → r ≡ node_cap s + i → SlotIn s r n
  entry_place i r f h e = rw e (slot_in (node_cap s + i) f (omega arith))

  pub caps_small : Floats s c n → (node_cap s ≤ 33153) × (entry_cap s ≤ 257)
  caps_small f = (nodes_small s f.sized, entries_small s f.sized)

  pub block_in : (i : ℕ) → Links s c n → i < node_cap s → BlockIn s i n
  unfolding links_needed
  block_in i l h = record { sized = l.sized; room = room i (node_cap s) (block_width s) n h l.room }

  pub node_block : (i : ℕ) → Links s c n → i < c.nodes → BlockIn s i n
  node_block i l h = block_in i l (let k = l.nodes_in in omega arith)

  pub blocks_room : Links s c n → c.nodes * block_width s ≤ n
  unfolding links_needed
  blocks_room l = omega (arith, mul-le-mul_right (block_width s) l.nodes_in, l.room)

  pub slots_room : (k w : ℕ) → Floats s c n → k ≡ node_cap s → w ≡ slot_width s → Rooms s c (k * w)
  unfolding floats_needed
  slots_room k w f ek ew =
      record {
        end = ap₂ (λ a b. a * b) ek ew;
        nodes_room = mul-le-mul_right (slot_width s) f.nodes_in;
        entries_room = mul-le-mul_right (slot_width s) f.entries_in;
        whole = sym (add-mul (node_cap s) (entry_cap s) (slot_width s));
      }

  -- the slices serve as before with other counts within the caps
  pub floats_nodes : (k : ℕ) → Floats s c n → k ≤ node_cap s → Floats s (count_nodes k c) n
  unfolding count_nodes
  floats_nodes k f h = record { sized = f.sized; nodes_in = h; entries_in = f.entries_in; room = f.room }

  pub floats_entries : (k : ℕ) → Floats s c n → k ≤ entry_cap s → Floats s (count_entries k c) n
  unfolding count_entries
  floats_entries k f h = record { sized = f.sized; nodes_in = f.nodes_in; entries_in = h; room = f.room }

  pub links_nodes : (k : ℕ) → Links s c n → k ≤ node_cap s → Links s (count_nodes k c) n
  unfolding count_nodes
  links_nodes k l h = record { sized = l.sized; nodes_in = h; room = l.room }

  -- and with any counters of the same counts
  pub floats_same : (d : Counters) → d.nodes ≡ c.nodes → d.entries ≡ c.entries → Floats s c n → Floats s d n
  floats_same d p q f = record { sized = f.sized; nodes_in = rw p f.nodes_in; entries_in = rw q f.entries_in; room = f.room }

  pub links_same : (d : Counters) → d.nodes ≡ c.nodes → Links s c n → Links s d n
  links_same d p l = record { sized = l.sized; nodes_in = rw p l.nodes_in; room = l.room }

  pub links_entries : (k : ℕ) → Links s c n → Links s (count_entries k c) n
  unfolding count_entries
  links_entries k l = record { sized = l.sized; nodes_in = l.nodes_in; room = l.room }

-- ---- changes of a tree

-- node i changed by g
unfoldable pub on_node : (Node → Node) → ℕ → Tree → Tree
on_node g i t = with_nodes (change_at g i t.nodes) t

-- entry i changed by f
unfoldable pub on_entry : (Summary → Summary) → ℕ → Tree → Tree
on_entry f i t = with_entries (change_at f i t.entries) t

-- a node more, and an entry more, last in number
unfoldable pub with_node : Node → Tree → Tree
with_node n t = with_nodes (snoc t.nodes n) t

unfoldable pub with_entry : Summary → Tree → Tree
with_entry e t = with_entries (snoc t.entries e) t

-- ---- contracts over one slice, for every content of the other

-- P of the tree that the floats fs hold, whatever the links; and that the links ls hold, whatever the floats
abbrev pub AnyLinks : Settings → Counters → List Float → (Tree → Type 0) → Type 0
AnyLinks s c fs P = (ls : List ℕ) → P (tree_of s c fs ls)

abbrev pub AnyFloats : Settings → Counters → List ℕ → (Tree → Type 0) → Type 0
AnyFloats s c ls P = (fs : List Float) → P (tree_of s c fs ls)

-- the counters d and the floats gs hold what g makes of the tree of c and fs; and so for links
abbrev pub FloatsTo : Settings → Counters → List Float → Counters → List Float → (Tree → Tree) → Type 0
FloatsTo s c fs d gs g = (ls : List ℕ) → tree_of s d gs ls ≡ g (tree_of s c fs ls)

abbrev pub LinksTo : Settings → Counters → List ℕ → Counters → List ℕ → (Tree → Tree) → Type 0
LinksTo s c ls d ks g = (fs : List Float) → tree_of s d fs ks ≡ g (tree_of s c fs ls)

-- ---- what is read

-- a number of a list names an entry or a node that is there
unfoldable pub ChildIn : Counters → Bool → ℕ → Type 0
ChildIn c true i = i < c.entries
ChildIn c false i = i < c.nodes

-- and so every number of a list
unfoldable pub ChildrenIn : Counters → Bool → List ℕ → Type 0
ChildrenIn c leaf l = (k : ℕ) → k < length l → ChildIn c leaf (get_or l k 0)

-- the slot of what a number of a list names
unfoldable pub child_slot : Settings → Bool → ℕ → ℕ
child_slot s true i = node_cap s + i
child_slot s false i = i

module _ (s : Settings) (c : Counters) (fs : List Float) (ls : List ℕ) where
  pub node_at_lem : (i : ℕ) → i < c.nodes → node_at (tree_of s c fs ls) i ≡ node_in s (slot_at s fs i) (block_at s ls i)
  node_at_lem = node_held s c fs ls

  -- a part of node i
  pub part_at : {A : Type 0} (part : Node → A) (i : ℕ) → i < c.nodes → part (node_in s (slot_at s fs i) (block_at s ls i)) ≡ part (node_at (tree_of s c fs ls) i)
  part_at part i h = ap part (sym (node_at_lem i h))

  pub summary-at : (i : ℕ) → i < c.nodes → (node_at (tree_of s c fs ls) i).summary ≡ summary_at s fs i
  unfolding node_in summary_at
  summary-at i h = ap (λ (n : Node). n.summary) (node_at_lem i h)

  pub entry_at_lem : (i : ℕ) → i < c.entries → entry_at (tree_of s c fs ls) i ≡ summary_at s fs (node_cap s + i)
  unfolding summary_at
  entry_at_lem = entry_held s c fs ls

  pub child-at : (leaf : Bool) (i : ℕ) → ChildIn c leaf i → child (tree_of s c fs ls) leaf i ≡ summary_at s fs (child_slot s leaf i)
  unfolding ChildIn child child_slot
  child-at true i h = entry_at_lem i h
  child-at false i h = summary-at i h

  pub count_nodes_lem : length (tree_of s c fs ls).nodes ≡ c.nodes
  unfolding tree_of
  count_nodes_lem = length-table (λ i. node_in s (slot_at s fs i) (block_at s ls i)) c.nodes

  pub count_entries_lem : length (tree_of s c fs ls).entries ≡ c.entries
  unfolding tree_of
  count_entries_lem = length-table (λ i. summary_in s (slot_at s fs (node_cap s + i))) c.entries

-- what holds of node i's list in the tree, whatever its floats, holds of it in its block
pub list_there : (s : Settings) (c : Counters) (ls : List ℕ) (i : ℕ) → i < c.nodes → (P : List ℕ → Type 0)
    → ((fs : List Float) → P (node_at (tree_of s c fs ls) i).list) → (p : List Float) → P (node_in s p (block_at s ls i)).list
unfolding node_in
list_there s c ls i h P q p = rw (part_at s c [] ls (λ m. m.list) i h) (q [])

pub child_slot_lem : (s : Settings) (c : Counters) (n : ℕ) (leaf : Bool) (i : ℕ) → Floats s c n → ChildIn c leaf i → SlotIn s (child_slot s leaf i) n
unfolding ChildIn child_slot
child_slot_lem s c n true i f h = entry_slot s c n i f h
child_slot_lem s c n false i f h = node_slot s c n i f h

pub child_small : (s : Settings) (c : Counters) (n : ℕ) (leaf : Bool) (i : ℕ) → Floats s c n → ChildIn c leaf i → i ≤ 65536
unfolding ChildIn
child_small s c n true i f h = let k = caps_small s c n f in omega (arith, f.entries_in)
child_small s c n false i f h = let k = caps_small s c n f in omega (arith, f.nodes_in)

-- whatever the slices hold, a summary read from them has its shape
pub slot_shaped : (s : Settings) → Sized s → (fs : List Float) (i : ℕ) → Shaped s.feature s.dim (summary_at s fs i)
unfolding summary_at
slot_shaped s z fs i = in_shaped s z (slot_at s fs i)

module _ (s : Settings) (z : Sized s) (c : Counters) (fs : List Float) (ls : List ℕ) (i : ℕ) where
  pub node_shaped : i < c.nodes → Shaped s.feature s.dim (node_at (tree_of s c fs ls) i).summary
  node_shaped h = rw (summary-at s c fs ls i h) (slot_shaped s z fs i)

  pub entry_shaped : i < c.entries → Shaped s.feature s.dim (entry_at (tree_of s c fs ls) i)
  entry_shaped h = rw (entry_at_lem s c fs ls i h) (slot_shaped s z fs (node_cap s + i))

  pub child_shaped : (leaf : Bool) → ChildIn c leaf i → Shaped s.feature s.dim (child (tree_of s c fs ls) leaf i)
  child_shaped leaf h = rw (child-at s c fs ls leaf i h) (slot_shaped s z fs (child_slot s leaf i))

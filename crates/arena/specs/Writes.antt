-- What a write to one slot or one block makes of the tree, and what other counters make of it.
use Rattle.std.specs.Prelude.{ℕ, ◌+◌, ◌<◌, ◌≡◌, refl, List, Float}
use Rattle.std.proofs.Math.Path.{ap, ap₂}
use Rattle.std.proofs.Common.{◌∙◌, arith}
use Rattle.feature.specs.declared.Summary.{Summary}
use Rattle.head.specs.declared.Settings.{Settings}
use Rattle.head.specs.declared.Counters.{Counters}
use Rattle.head.specs.Sizes.{node_cap}
use Rattle.head.specs.Counting.{count_nodes, count_entries, root_at, count_running}
use Rattle.rules.specs.Lists.{snoc, table}
use Rattle.rules.specs.Tree.{Node, with_nodes, with_entries, with_root, summed, on_running}
use Rattle.rules.specs.Slices.{summary_in, node_in, slot_at, block_at, tree_of}
use Rattle.stretch.specs.Blocks.{node_of, relinked}
use Rattle.arena.specs.Tables.{table_same, table-change, table_more}
use Rattle.arena.specs.Numbered.{summary_at, Changed, Relinked}
use Rattle.arena.specs.Trees.{Floats, on_node, on_entry, with_node, with_entry}
use Rattle.head.specs.declared.Running.{Running}

-- a node by the summary in its slot
node_by : (s : Settings) (p q : List Float) (b : List ℕ) → summary_in s p ≡ summary_in s q → node_in s p b ≡ node_in s q b
unfolding node_in
node_by s p q b e = rw e

module _ (s : Settings) (c : Counters) (fs fs' : List Float) (ls : List ℕ) (n : ℕ) (F : Floats s c n) where
  node_same : (j : ℕ) → summary_at s fs' j ≡ summary_at s fs j → node_in s (slot_at s fs' j) (block_at s ls j) ≡ node_in s (slot_at s fs j) (block_at s ls j)
  unfolding summary_at
  node_same j e = node_by s (slot_at s fs' j) (slot_at s fs j) (block_at s ls j) e

  nodes_same : ((j : ℕ) → j < c.nodes → summary_at s fs' j ≡ summary_at s fs j)
      → table (λ i. node_in s (slot_at s fs' i) (block_at s ls i)) c.nodes ≡ table (λ i. node_in s (slot_at s fs i) (block_at s ls i)) c.nodes
  nodes_same h = table_same _ _ c.nodes (λ j l. node_same j (h j l))

  entries_same : ((j : ℕ) → j < c.entries → summary_at s fs' (node_cap s + j) ≡ summary_at s fs (node_cap s + j))
      → table (λ i. summary_in s (slot_at s fs' (node_cap s + i))) c.entries ≡ table (λ i. summary_in s (slot_at s fs (node_cap s + i))) c.entries
  unfolding summary_at
  entries_same h = table_same _ _ c.entries h

  -- a node's summary changed
  pub node_changed : (f : Summary → Summary) (i : ℕ) → i < c.nodes → Changed s f i fs fs' → tree_of s c fs' ls ≡ on_node (summed f) i (tree_of s c fs ls)
  unfolding tree_of on_node with_nodes summary_at
  node_changed f i h k =
      let few = F.nodes_in in
      let new : node_in s (slot_at s fs' i) (block_at s ls i) ≡ summed f (node_in s (slot_at s fs i) (block_at s ls i)) = unfold node_in summed in rw k.here in
      rw (
        table-change (summed f) (λ i. node_in s (slot_at s fs i) (block_at s ls i)) (λ i. node_in s (slot_at s fs' i) (block_at s ls i)) c.nodes i h new
            (λ j l d. node_same j (k.others j d)),
        entries_same (λ j l. k.others (node_cap s + j) (λ e. omega arith)),
      )

  -- an entry's summary changed
  pub entry_changed : (f : Summary → Summary) (i : ℕ) → i < c.entries → Changed s f (node_cap s + i) fs fs' → tree_of s c fs' ls ≡ on_entry f i (tree_of s c fs ls)
  unfolding tree_of on_entry with_entries summary_at
  entry_changed f i h k =
      let few = F.nodes_in in
      rw (
        table-change f (λ i. summary_in s (slot_at s fs (node_cap s + i))) (λ i. summary_in s (slot_at s fs' (node_cap s + i))) c.entries i h k.here
            (λ j l d. k.others (node_cap s + j) (λ e. d (omega arith))),
        nodes_same (λ j l. k.others j (λ e. omega arith)),
      )

  -- an entry more
  pub entry_more : (e : Summary) → Changed s (λ _. e) (node_cap s + c.entries) fs fs' → tree_of s (count_entries (c.entries + 1) c) fs' ls
      ≡ with_entry e (tree_of s c fs ls)
  unfolding tree_of count_entries with_entry with_entries summary_at
  entry_more e k =
      let few = F.nodes_in in
      let old = entries_same (λ j l. k.others (node_cap s + j) (λ z. omega arith)) in
      let es : table (λ i. summary_in s (slot_at s fs' (node_cap s + i))) (c.entries + 1)
      ≡ snoc (table (λ i. summary_in s (slot_at s fs (node_cap s + i))) c.entries) e =
      table_more _ c.entries ∙ ap₂ snoc old k.here in
      rw (es, nodes_same (λ j l. k.others j (λ z. omega arith)))

module _ (s : Settings) (c : Counters) (fs : List Float) (ls ls' : List ℕ) where
  -- a node's links changed
  pub node_relinked : (g : Node → Node) (i : ℕ) → i < c.nodes → Relinked s g i ls ls' → tree_of s c fs ls' ≡ on_node g i (tree_of s c fs ls)
  unfolding tree_of on_node with_nodes
  node_relinked g i h k =
      rw (table-change g (λ i. node_in s (slot_at s fs i) (block_at s ls i)) (λ i. node_in s (slot_at s fs i) (block_at s ls' i)) c.nodes i h
      (k.here (slot_at s fs i)) (λ j l d. ap (node_in s (slot_at s fs j)) (k.others j d)))

-- a node more: slot and block with the next number are written
pub node_more : (s : Settings) (c : Counters) (fs fs' : List Float) (ls ls' : List ℕ) (g : Node) → c.nodes < node_cap s
    → Changed s (λ _. g.summary) c.nodes fs fs' → Relinked s (relinked g.parent g.leaf g.list) c.nodes ls ls'
    → tree_of s (count_nodes (c.nodes + 1) c) fs' ls' ≡ with_node g (tree_of s c fs ls)
unfolding tree_of count_nodes with_node with_nodes summary_at relinked node_of
node_more s c fs fs' ls ls' g h k l =
    let j = c.nodes in
    let old : table (λ i. node_in s (slot_at s fs' i) (block_at s ls' i)) j ≡ table (λ i. node_in s (slot_at s fs i) (block_at s ls i)) j =
    table_same _ _ j (λ i q. ap (node_in s (slot_at s fs' i)) (l.others i (λ z. omega arith))
    ∙ node_by s (slot_at s fs' i) (slot_at s fs i) (block_at s ls i) (k.others i (λ z. omega arith))) in
    let new : node_in s (slot_at s fs' j) (block_at s ls' j) ≡ g = l.here (slot_at s fs' j) ∙ (unfold node_in in rw k.here) in
    let ns : table (λ i. node_in s (slot_at s fs' i) (block_at s ls' i)) (j + 1) ≡ snoc (table (λ i. node_in s (slot_at s fs i) (block_at s ls i)) j) g =
    table_more _ j ∙ ap₂ snoc old new in
    rw (
      ns,
      table_same (λ i. summary_in s (slot_at s fs' (node_cap s + i))) (λ i. summary_in s (slot_at s fs (node_cap s + i))) c.entries
          (λ i q. k.others (node_cap s + i) (λ z. omega arith)),
    )

-- ---- the other counters

pub tree-rooted : (s : Settings) (c : Counters) (r : ℕ) (fs : List Float) (ls : List ℕ) → tree_of s (root_at r c) fs ls ≡ with_root r (tree_of s c fs ls)
unfolding tree_of root_at with_root
tree-rooted s c r fs ls = refl

pub tree_running : (s : Settings) (c : Counters) (f : Running → Running) (fs : List Float) (ls : List ℕ) → tree_of s (count_running f c) fs ls
    ≡ on_running f (tree_of s c fs ls)
unfolding tree_of count_running on_running
tree_running s c f fs ls = refl

-- What is read of a tree after a change of one node or one entry: the change there, and everywhere else what was read before.
use Prim.Native.Nat.{ℕ, zero, suc, ◌<◌}
use Rattle.std.specs.Prelude.{◌≡◌, length, get_or}
use Rattle.std.proofs.Math.Path.{refl, ap}
use mathlib.Core.List.{List, [], ◌∷◌}
use Rattle.std.proofs.Common.{arith}
use Rattle.std.proofs.Math.ListN.{get_or-append}
use Rattle.std.proofs.Math.Seq.{get_or-append_seam}
use Rattle.feature.specs.Summaries.{blank}
use Rattle.feature.specs.declared.Summary.{Summary}
use Rattle.rules.specs.Lists.{change_at, snoc}
use Rattle.rules.specs.Tree.{Node, Tree, blank_node, node_at, entry_at, with_nodes, with_entries}
use Rattle.arena.specs.Trees.{on_node, on_entry, with_node, with_entry}

module _ {A : Type 0} (f : A → A) where
  pub length-change : (i : ℕ) (l : List A) → length (change_at f i l) ≡ length l
  unfolding change_at
  length-change i [] = refl
  length-change zero (x ∷ l) = refl
  length-change (suc i) (x ∷ l) = ap suc (length-change i l)

  pub change_here : (i : ℕ) (l : List A) (d : A) → i < length l → get_or (change_at f i l) i d ≡ f (get_or l i d)
  unfolding change_at
  change_here i [] d h = absurd (omega arith)
  change_here zero (x ∷ l) d h = refl
  change_here (suc i) (x ∷ l) d h = change_here i l d (omega arith)

  pub change_other : (i j : ℕ) (l : List A) (d : A) → ¬ (j ≡ i) → get_or (change_at f i l) j d ≡ get_or l j d
  unfolding change_at
  change_other i j [] d n = refl
  change_other zero zero (x ∷ l) d n = absurd (n refl)
  change_other zero (suc j) (x ∷ l) d n = refl
  change_other (suc i) zero (x ∷ l) d n = refl
  change_other (suc i) (suc j) (x ∷ l) d n = change_other i j l d (λ e. n (ap suc e))

module _ (t : Tree) where
  -- ---- a node changed

  pub node_here : (g : Node → Node) (i : ℕ) → i < length t.nodes → node_at (on_node g i t) i ≡ g (node_at t i)
  unfolding node_at on_node with_nodes
  node_here g i h = change_here g i t.nodes blank_node h

  pub node_other : (g : Node → Node) (i j : ℕ) → ¬ (j ≡ i) → node_at (on_node g i t) j ≡ node_at t j
  unfolding node_at on_node with_nodes
  node_other g i j n = change_other g i j t.nodes blank_node n

  pub node_entry : (g : Node → Node) (i j : ℕ) → entry_at (on_node g i t) j ≡ entry_at t j
  unfolding entry_at on_node with_nodes
  node_entry g i j = refl

  pub nodes_kept : (g : Node → Node) (i : ℕ) → length (on_node g i t).nodes ≡ length t.nodes
  unfolding on_node with_nodes
  nodes_kept g i = length-change g i t.nodes

  -- ---- an entry changed

  pub entry_here : (f : Summary → Summary) (i : ℕ) → i < length t.entries → entry_at (on_entry f i t) i ≡ f (entry_at t i)
  unfolding entry_at on_entry with_entries
  entry_here f i h = change_here f i t.entries blank h

  pub entry_other : (f : Summary → Summary) (i j : ℕ) → ¬ (j ≡ i) → entry_at (on_entry f i t) j ≡ entry_at t j
  unfolding entry_at on_entry with_entries
  entry_other f i j n = change_other f i j t.entries blank n

  pub entry_node : (f : Summary → Summary) (i j : ℕ) → node_at (on_entry f i t) j ≡ node_at t j
  unfolding node_at on_entry with_entries
  entry_node f i j = refl

  pub entries_kept : (f : Summary → Summary) (i : ℕ) → length (on_entry f i t).entries ≡ length t.entries
  unfolding on_entry with_entries
  entries_kept f i = length-change f i t.entries

  -- ---- one more

  pub node_new : (n : Node) → node_at (with_node n t) (length t.nodes) ≡ n
  unfolding node_at with_node with_nodes snoc
  node_new n = get_or-append_seam t.nodes n [] blank_node

  pub node_old : (n : Node) (i : ℕ) → i < length t.nodes → node_at (with_node n t) i ≡ node_at t i
  unfolding node_at with_node with_nodes snoc
  node_old n i h = get_or-append t.nodes (n ∷ []) blank_node i h

  pub entry_new : (e : Summary) → entry_at (with_entry e t) (length t.entries) ≡ e
  unfolding entry_at with_entry with_entries snoc
  entry_new e = get_or-append_seam t.entries e [] blank

  pub entry_old : (e : Summary) (i : ℕ) → i < length t.entries → entry_at (with_entry e t) i ≡ entry_at t i
  unfolding entry_at with_entry with_entries snoc
  entry_old e i h = get_or-append t.entries (e ∷ []) blank i h

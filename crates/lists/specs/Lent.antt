-- What the check knows of the lent slices as its conditions pass, and what follows for the tree in them.
use Rattle.std.specs.Prelude.{ℕ, ◌≤◌, ◌<◌, ◌≡◌, Bool, cond, List, [], T, ltb, leb, Float, get_or, take, drop}
use Rattle.std.proofs.Math.Path.{refl}
use Rattle.std.proofs.Common.{sym, ap, ◌∙◌, subst, ltb→lt, length-take}
use Rattle.std.proofs.Math.Bool.{true, false}
use native.Mathlib.Omega.{arith}
use Rattle.std.specs.Float.Ieee.Fits.{and_r}
use Rattle.std.proofs.Math.ListN.{length}
use Rattle.binary64.specs.Counts.{is_count}
use Rattle.feature.specs.Summaries.{blank}
use Rattle.feature.specs.declared.Summary.{Summary}
use Rattle.head.specs.declared.Settings.{Settings}
use Rattle.head.specs.declared.Counters.{Counters}
use Rattle.head.specs.Sizes.{block_small}
use Rattle.rules.specs.Lists.{every, up_from, occurs}
use Rattle.rules.specs.Tree.{Node, Tree, blank_node, node_at, entry_at, cap}
use Rattle.rules.specs.Check.{known, list_fits, leaf_lists}
use Rattle.rules.specs.Slices.{length_in, node_in, block_at, tree_of}
use Rattle.arena.specs.Trees.{AnyFloats, AnyLinks, Links, node_at_lem, count_nodes_lem, count_entries_lem}
use Rattle.counting.specs.Count.{is}
use Rattle.counting.specs.Sums.{over, occurs-over, length_over, sum_to, sum_same}
use Rattle.laws.specs.Check.Passing.{leaf_lists_lem}
use Rattle.lists.specs.Loops.{placed}
use Rattle.counting.specs.Tests.{every-at}

-- ---- what the conditions give to the code after them

-- condition 3: every list is within its cap and names what is there
abbrev pub ListsFit : Settings → Counters → List ℕ → Type 0
ListsFit s n ls = AnyFloats s n ls (λ t. every (list_fits s t) t.nodes ≡ true)

-- node i is no leaf
abbrev pub Inner : Settings → Counters → List ℕ → ℕ → Type 0
Inner s n ls i = AnyFloats s n ls (λ t. (node_at t i).leaf ≡ false)

-- node i is a leaf
abbrev pub Leaf : Settings → Counters → List ℕ → ℕ → Type 0
Leaf s n ls i = AnyFloats s n ls (λ t. (node_at t i).leaf ≡ true)

-- every entry weighs a count
abbrev pub EntriesCount : Settings → Counters → List Float → Type 0
EntriesCount s n fs = AnyLinks s n fs (λ t. every (λ e. is_count e.weight) t.entries ≡ true)

-- the entries that a node lists
unfoldable pub leaf_list : Node → List ℕ
leaf_list m = cond m.leaf m.list []

-- ---- every node, every entry, by number

module _ (s : Settings) (n : Counters) (fs : List Float) (ls : List ℕ) where
  pub nodes_placed : (f : Node → Bool) → every (λ k. f (node_at (tree_of s n fs ls) k)) (up_from n.nodes 0) ≡ every f (tree_of s n fs ls).nodes
  unfolding node_at
  nodes_placed f = placed f blank_node (tree_of s n fs ls).nodes (sym (count_nodes_lem s n fs ls))

  pub entries_placed : (f : Summary → Bool) → every (λ k. f (entry_at (tree_of s n fs ls) k)) (up_from n.entries 0) ≡ every f (tree_of s n fs ls).entries
  unfolding entry_at
  entries_placed f = placed f blank (tree_of s n fs ls).entries (sym (count_entries_lem s n fs ls))

-- ---- lists

pub holds : {b : Bool} → b ≡ true → T b
holds e = subst T (sym e) tt

-- a number of a list names what is there
pub listed_in : (s : Settings) (t : Tree) → every (list_fits s t) t.nodes ≡ true → (i k : ℕ) → i < length t.nodes
    → k < length (node_at t i).list → get_or (node_at t i).list k 0 < known t (node_at t i).leaf
unfolding list_fits node_at
listed_in s t h i k q l =
    let m = node_at t i in
    let b = every-at (list_fits s t) blank_node t.nodes (holds h) i q in
    ltb→lt (get_or m.list k 0) (known t m.leaf) (every-at (λ c. ltb c (known t m.leaf)) 0 m.list
    (and_r (leb (length m.list) (cap s m.leaf)) (every (λ c. ltb c (known t m.leaf)) m.list) b) k l)

-- a number of an inner node's list is a node's
pub inner_in : (s : Settings) (n : Counters) (fs : List Float) (ls : List ℕ) (i k : ℕ) {x : ℕ} → every (list_fits s (tree_of s n fs ls))
    (tree_of s n fs ls).nodes ≡ true
    → (node_at (tree_of s n fs ls) i).leaf ≡ false → i < n.nodes → k < length (node_at (tree_of s n fs ls) i).list
    → x ≡ get_or (node_at (tree_of s n fs ls) i).list k 0 → x < n.nodes
unfolding known
inner_in s n fs ls i k h b q l e =
    let t = tree_of s n fs ls in
    let a = listed_in s t h i k (rw (count_nodes_lem s n fs ls) q) l in
    let f : known t (node_at t i).leaf ≡ length t.nodes = rw b in
    let g = count_nodes_lem s n fs ls in
    omega arith

-- a number of a leaf's list is an entry's
pub leaf-at : (s : Settings) (n : Counters) (fs : List Float) (ls : List ℕ) (i k : ℕ) {x : ℕ} → every (list_fits s (tree_of s n fs ls))
    (tree_of s n fs ls).nodes ≡ true
    → (node_at (tree_of s n fs ls) i).leaf ≡ true → i < n.nodes → k < length (node_at (tree_of s n fs ls) i).list
    → x ≡ get_or (node_at (tree_of s n fs ls) i).list k 0 → x < n.entries
unfolding known
leaf-at s n fs ls i k h b q l e =
    let t = tree_of s n fs ls in
    let a = listed_in s t h i k (rw (count_nodes_lem s n fs ls) q) l in
    let f : known t (node_at t i).leaf ≡ length t.entries = rw b in
    let g = count_entries_lem s n fs ls in
    omega arith

-- a list is no longer than its block's places
pub list_few : (s : Settings) (n : Counters) (fs : List Float) (ls : List ℕ) (j i : ℕ) → Links s n j → i < n.nodes
    → length (node_at (tree_of s n fs ls) i).list ≤ 17
unfolding node_in length_in
list_few s n fs ls j i l h =
    let w = block_small s l.sized in
    let b = block_at s ls i in
    let e : (node_at (tree_of s n fs ls) i).list ≡ take (length_in s (get_or b 1 0)) (drop 2 b) = ap (λ (m : Node). m.list) (node_at_lem s n fs ls i h) in
    let f = length-take (length_in s (get_or b 1 0)) (drop 2 b) in
    let g : length (node_at (tree_of s n fs ls) i).list ≡ length (take (length_in s (get_or b 1 0)) (drop 2 b)) = ap length e in
    omega arith

-- ---- the leaf lists, node by node

over-leaf : (v : ℕ → ℕ) (m : Node) → cond m.leaf (over v m.list) 0 ≡ over v (leaf_list m)
unfolding leaf_list
over-leaf v m = go m.leaf
  where
    go : (b : Bool) → cond b (over v m.list) 0 ≡ over v (cond b m.list [])
    go true = refl
    go false = unfold over in refl

over_leaves : (v : ℕ → ℕ) (t : Tree) {k : ℕ} → length t.nodes ≡ k → over v (leaf_lists t.nodes) ≡ sum_to (λ i. over v (leaf_list (node_at t i))) k
unfolding node_at
over_leaves v t {k} e =
    leaf_lists_lem v blank_node t.nodes ∙ ap (sum_to (λ i. cond (node_at t i).leaf (over v (node_at t i).list) 0)) e ∙ sum_same
    (λ i. over v (leaf_list (node_at t i))) (λ i. cond (node_at t i).leaf (over v (node_at t i).list) 0) k (λ i _. over-leaf v (node_at t i))

module _ (s : Settings) (n : Counters) (fs : List Float) (ls : List ℕ) where
  pub leaves_length : length (leaf_lists (tree_of s n fs ls).nodes) ≡ sum_to (λ i. length (leaf_list (node_at (tree_of s n fs ls) i))) n.nodes
  leaves_length =
      let t = tree_of s n fs ls in
      length_over (leaf_lists t.nodes) ∙ over_leaves (λ _. 1) t (count_nodes_lem s n fs ls) ∙ sum_same (λ i. length (leaf_list (node_at t i)))
      (λ i. over (λ _. 1) (leaf_list (node_at t i))) n.nodes (λ i _. sym (length_over (leaf_list (node_at t i))))

  pub leaves_occurs : (e : ℕ) → occurs e (leaf_lists (tree_of s n fs ls).nodes) ≡ sum_to (λ i. occurs e (leaf_list (node_at (tree_of s n fs ls) i))) n.nodes
  leaves_occurs e =
      let t = tree_of s n fs ls in
      occurs-over e (leaf_lists t.nodes) ∙ over_leaves (is e) t (count_nodes_lem s n fs ls) ∙ sum_same (λ i. occurs e (leaf_list (node_at t i)))
      (λ i. over (is e) (leaf_list (node_at t i))) n.nodes (λ i _. sym (occurs-over e (leaf_list (node_at t i))))

  pub leaf-few : (j i : ℕ) → Links s n j → i < n.nodes → length (leaf_list (node_at (tree_of s n fs ls) i)) ≤ 17
  unfolding leaf_list
  leaf-few j i l h = go (node_at (tree_of s n fs ls) i).leaf (list_few s n fs ls j i l h)
    where
      go : (b : Bool) → length (node_at (tree_of s n fs ls) i).list ≤ 17 → length (cond b (node_at (tree_of s n fs ls) i).list []) ≤ 17
      go true q = q
      go false q = omega arith

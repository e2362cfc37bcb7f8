-- The way up, one turn at a time: the rule's steps, and what a split leaves for the next.
use Rattle.std.specs.Prelude.{ℕ, zero, suc, ◌+◌, ◌<◌, ◌≡◌, refl, Bool, true, false, List, leb, Float, length, None, Some}
use Rattle.std.proofs.Math.Path.{sym}
use Rattle.std.proofs.Common.{ap, ◌∙◌, arith}
use Rattle.head.specs.declared.Settings.{Settings}
use Rattle.head.specs.declared.Counters.{Counters}
use Rattle.head.specs.Sizes.{node_cap, block_width}
use Rattle.head.specs.Counting.{count_nodes, root_at}
use Rattle.rules.specs.Tree.{Tree, node_at, cap, adding}
use Rattle.rules.specs.Slices.{node_in, tree_of}
use Rattle.rules.specs.Split.{split, crowned, fitting, split_next, split_if, split_up, split_from}
use Rattle.arena.specs.Trees.{Floats, Links, AnyFloats, floats_nodes, links_nodes, floats_same, links_same, on_node, part_at}
use Rattle.split.specs.Rising.{Rising, next_up}

-- ---- whether a list is within its cap

module _ (s : Settings) (t : Tree) (i : ℕ) {l : ℕ} {b : Bool} (p : l ≡ length (node_at t i).list) (q : b ≡ (node_at t i).leaf) where
  pub fits_leaf : b ≡ true → leb l s.leaf_cap ≡ fitting s t i
  unfolding fitting cap
  fits_leaf e = rw (sym q, e, sym p)

  pub fits_inner : b ≡ false → leb l s.branching ≡ fitting s t i
  unfolding fitting cap
  fits_inner e = rw (sym q, e, sym p)

-- ---- the rule's steps

module _ (s : Settings) (k i : ℕ) (t : Tree) where
  pub up_start : length t.nodes ≡ k → split_up s k i t ≡ split_from s i t
  unfolding split_from
  up_start e = rw e

  pub up_end : k ≡ 0 → split_up s k i t ≡ t
  unfolding split_up
  up_end e = rw (e, split_up)

pub up_fits : (s : Settings) (k i : ℕ) (t : Tree) → fitting s t i ≡ true → split_up s k i t ≡ t
unfolding split_up split_if
up_fits s zero i t e = refl
up_fits s (suc k) i t e = rw e

up_root : (s : Settings) (k i : ℕ) (t : Tree) → 0 < k → fitting s t i ≡ false → (node_at t i).parent ≡ None
    → split_up s k i t ≡ crowned s i (length t.nodes) (split s i t)
unfolding split_up split_if split_next
up_root s zero i t l e o = absurd (omega arith)
up_root s (suc k) i t l e o = rw (e, o)

up_on : (s : Settings) (k j i p : ℕ) (t : Tree) → k ≡ suc j → fitting s t i ≡ false → (node_at t i).parent ≡ Some p
    → split_up s k i t ≡ split_up s j p (next_up s i p t)
unfolding split_up split_if split_next next_up on_node
up_on s k j i p t l e o = rw l (rw (e, o))

-- ---- after a split: the counters r, of a node more

module _ (s : Settings) (n r : Counters) (e : r ≡ count_nodes (n.nodes + 1) n) where
  pub floats_more : {k l : ℕ} → l ≡ k → Floats s n k → n.nodes < node_cap s → Floats s r l
  floats_more {k} {l} q f h = rw (e, q) (floats_nodes s n k (n.nodes + 1) f (omega arith))

  pub links_more : {k l : ℕ} → l ≡ k → Links s n k → n.nodes < node_cap s → Links s r l
  links_more {k} {l} q f h = rw (e, q) (links_nodes s n k (n.nodes + 1) f (omega arith))

  pub below_more : {i : ℕ} → i < n.nodes + 1 → i < r.nodes
  unfolding count_nodes
  below_more h = rw e h

  pub room_more : n.nodes + 1 < node_cap s → r.nodes < node_cap s
  unfolding count_nodes
  room_more h = rw e h

  pub rising_more : {j k p : ℕ} {u v : Tree} → j ≡ k → u ≡ v → Rising s k (count_nodes (n.nodes + 1) n) p v → Rising s j r p u
  rising_more l q g = rw (l, e, q) g

-- and with the root's number set
module _ (s : Settings) (n d : Counters) (e : d ≡ root_at n.nodes (count_nodes (n.nodes + 1) n)) where
  pub floats-crowned : {k : ℕ} → Floats s n k → n.nodes < node_cap s → Floats s d k
  unfolding root_at
  floats-crowned {k} f h =
      floats_same s (count_nodes (n.nodes + 1) n) k d (ap (λ (z : Counters). z.nodes) e) (ap (λ (z : Counters). z.entries) e)
      (floats_nodes s n k (n.nodes + 1) f (omega arith))

  pub links_crowned : {k : ℕ} → Links s n k → n.nodes < node_cap s → Links s d k
  unfolding root_at
  links_crowned {k} f h =
      links_same s (count_nodes (n.nodes + 1) n) k d (ap (λ (z : Counters). z.nodes) e) (links_nodes s n k (n.nodes + 1) f (omega arith))

-- ---- after a split of node i, which was over its cap: the tree u, with the new node j

module _ (s : Settings) (k i : ℕ) (t : Tree) {j : ℕ} {u v : Tree} (n : length t.nodes ≡ j) (l : 0 < k) (f : fitting s t i ≡ false)
    (a : u ≡ split s i t) where
  -- a new root ends it
  pub crown_up : (node_at t i).parent ≡ None → v ≡ crowned s i j u → v ≡ split_up s k i t
  crown_up o b = b ∙ rw (a, sym n) (sym (up_root s k i t l f o))

  -- else the parent lists the new node, and is looked at
  pub next-is : (p : ℕ) → v ≡ on_node (adding j) p u → v ≡ next_up s i p t
  unfolding next_up
  next-is p b = b ∙ rw (a, sym n)

  pub next_up_lem : (p h : ℕ) → k ≡ suc h → (node_at t i).parent ≡ Some p → v ≡ on_node (adding j) p u → split_up s h p v ≡ split_up s k i t
  next_up_lem p h q o b = rw (next-is p b) (sym (up_on s k h i p t q f o))

-- a spare place of node p's block, whatever the floats
pub spare_any : (s : Settings) (r : Counters) (gs : List Float) (ls : List ℕ) (p : ℕ) {u : Tree} → p < r.nodes → tree_of s r gs ls ≡ u
    → length (node_at u p).list + 2 < block_width s → AnyFloats s r ls (λ t. length (node_at t p).list + 2 < block_width s)
unfolding node_in
spare_any s r gs ls p {u} l e h fs =
    let same : (node_at (tree_of s r fs ls) p).list ≡ (node_at u p).list =
    sym (part_at s r fs ls (λ m. m.list) p l) ∙ part_at s r gs ls (λ m. m.list) p l ∙ ap (λ t. (node_at t p).list) e in
    rw same h

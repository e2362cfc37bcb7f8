-- The two halves of a node, written: the node refilled, a node more, and the moved nodes told of it.
use Prim.Native.Nat.{ℕ, zero, suc, ◌+◌, ◌≤◌, ◌<◌}
use Rattle.std.specs.Prelude.{◌≡◌, Bool, true, false, length, get_or, take, drop, set, Option, None, Some}
use Rattle.std.proofs.Math.Path.{refl, ap}
use Rattle.std.proofs.Common.{sym, ◌∙◌, add-one, drop_of_length-le}
use mathlib.Core.List.{List, [], ◌∷◌}
use Rattle.std.proofs.Math.Seq.{drop-cons}
use Rattle.feature.specs.declared.Summary.{Summary}
use Rattle.head.specs.declared.Settings.{Settings}
use Rattle.head.specs.declared.Counters.{Counters}
use Rattle.head.specs.Sizes.{block_width}
use Rattle.rules.specs.Lists.{change_at, snoc}
use Rattle.rules.specs.Tree.{Node, Tree, blank_node, node_at, with_nodes, summed, with_list, under}
use Rattle.rules.specs.Slices.{no_parent}
use Rattle.rules.specs.Split.{gathered, adopted, half, parted, split}
use Rattle.stretch.specs.Blocks.{ParentFits, node_of}
use Rattle.arena.specs.Trees.{ChildrenIn, on_node, with_node}
use Rattle.halves.specs.declared.Halves.{Halves}
use Rattle.halves.specs.Halves.{Grouped}

-- another summary and list for a node
unfoldable pub refilled : Summary → List ℕ → Node → Node
refilled c ks n = record { summary = c; list = ks; leaf = n.leaf; parent = n.parent }

-- the nodes that a list names, told that p is their parent
unfoldable pub adopted_by : ℕ → List ℕ → Tree → Tree
adopted_by p ks t = with_nodes (adopted false p ks t.nodes) t

abbrev pub ones : Halves → List ℕ
ones h = take h.ones h.one

abbrev pub twos : Halves → List ℕ
twos h = take h.twos h.two

-- node i keeps the first group, and the second is a new node
unfoldable pub halved : Settings → ℕ → Halves → Tree → Tree
halved s i h t = with_nodes (snoc (set t.nodes i (half s t (node_at t i) (ones h))) (half s t (node_at t i) (twos h))) t

-- node i can be written so: the groups name what is there and fit a block, and the parent fits its word
pub record HalvesIn (s : Settings) (n : Counters) (t : Tree) (i : ℕ) (h : Halves) : Type 0 where
  pub ones_in : ChildrenIn n (node_at t i).leaf (ones h)
  pub twos_in : ChildrenIn n (node_at t i).leaf (twos h)
  pub ones_room : h.ones + 2 ≤ block_width s
  pub twos_room : h.twos + 2 ≤ block_width s
  pub one_long : length h.one ≡ 17
  pub two_long : length h.two ≡ 17
  pub ones-few : h.ones ≤ 17
  pub twos-few : h.twos ≤ 17
  pub parent_fits : (p : ℕ) → (node_at t i).parent ≡ Some p → p < no_parent

-- ---- a node refilled

module _ {A : Type 0} where
  change_twice : (f g : A → A) (i : ℕ) (l : List A) → change_at f i (change_at g i l) ≡ change_at (λ x. f (g x)) i l
  unfolding change_at
  change_twice f g i [] = refl
  change_twice f g zero (x ∷ l) = refl
  change_twice f g (suc i) (x ∷ l) = ap (λ m. x ∷ m) (change_twice f g i l)

  change-set : (f : A → A) (i : ℕ) (l : List A) (d : A) → change_at f i l ≡ set l i (f (get_or l i d))
  unfolding change_at
  change-set f i [] d = refl
  change-set f zero (x ∷ l) d = refl
  change-set f (suc i) (x ∷ l) d = ap (λ m. x ∷ m) (change-set f i l d)

pub refill_is : (c : Summary) (ks : List ℕ) (i : ℕ) (t : Tree) → on_node (with_list ks) i (on_node (summed (λ _. c)) i t) ≡ on_node (refilled c ks) i t
unfolding on_node with_nodes refilled with_list summed
refill_is c ks i t = ap (λ ns. with_nodes ns t) (change_twice (with_list ks) (summed (λ _. c)) i t.nodes)

-- ---- the nodes of a list adopted, one after the other

module _ (p : ℕ) (ks : List ℕ) (k : ℕ) (t : Tree) where
  pub adopt_turn : {u : Tree} → k < length ks → u ≡ on_node (under p) (get_or ks k 0) t → adopted_by p (drop (k + 1) ks) u ≡ adopted_by p (drop k ks) t
  unfolding adopted_by on_node with_nodes adopted
  adopt_turn h e = rw (add-one, drop-cons ks k 0 h, e)

  pub adopt_end : length ks ≤ k → adopted_by p (drop k ks) t ≡ t
  unfolding adopted_by with_nodes adopted
  adopt_end h = rw (drop_of_length-le ks {i = k} h)

-- ---- both halves written, and the split

-- the parent that the code has read fits
pub parent_fits : (q : Option ℕ) {o : Option ℕ} → q ≡ o → ((p : ℕ) → o ≡ Some p → p < no_parent) → ParentFits q
parent_fits (Some p) e h = h p (sym e)
parent_fits None e h = tt

module _ (s : Settings) (i : ℕ) (h : Halves) (t : Tree) where
  -- by a node refilled and a node more, their summaries gathered from t
  pub halves_are : {leaf : Bool} {parent : Option ℕ} {a b : Summary} {u v : Tree} → leaf ≡ (node_at t i).leaf → parent ≡ (node_at t i).parent
      → a ≡ gathered s t leaf (ones h) → b ≡ gathered s t leaf (twos h) → u ≡ on_node (refilled a (ones h)) i t
      → v ≡ with_node (node_of b parent leaf (twos h)) u → v ≡ halved s i h t
  unfolding halved half on_node with_node with_nodes refilled node_of node_at
  halves_are p q ea eb eu ev =
      ev ∙ rw (eu, ea, eb, p, q)
      (ap (λ ns. with_nodes (snoc ns (half s t (node_at t i) (twos h))) t)
      (change-set (refilled (gathered s t (node_at t i).leaf (ones h)) (ones h)) i t.nodes blank_node))

  module _ (p : Grouped s t i h) where
    pub split-leaf : (node_at t i).leaf ≡ true → halved s i h t ≡ split s i t
    unfolding halved split parted adopted
    split-leaf e = rw (p.first, p.second, e)

    pub split-inner : {j : ℕ} → length t.nodes ≡ j → (node_at t i).leaf ≡ false → adopted_by j (twos h) (halved s i h t) ≡ split s i t
    unfolding halved split parted adopted_by with_nodes
    split-inner n e = rw (p.first, p.second, e, n)

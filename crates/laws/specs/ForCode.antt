-- What code needs of a tree at rest, in one place under names that stay: where lists and parents lead, where a descent ends, the row once placed,
-- room for a node more.
use Rattle.std.specs.Prelude.{ℕ, zero, suc, ◌+◌, ◌≤◌, ◌<◌, ◌≡◌, refl, Bool, true, false, cond, length, None, Some}
use Rattle.std.proofs.lemmas.Option.{none-some}
use Rattle.std.proofs.Common.{sym, subst, inl, inr, true≢false, arith}
use Rattle.feature.specs.declared.Summary.{Summary}
use Rattle.head.specs.declared.Settings.{Settings}
use Rattle.head.specs.Sizes.{entry_cap}
use Rattle.rules.specs.Descent.{along_path}
use Rattle.rules.specs.Lists.{occurs}
use Rattle.rules.specs.Tree.{Tree, node_at, cap, summed, with_nodes}
use Rattle.counting.specs.Sums.{over, length_over, sum_to, sum-at, sum_ones, sum-le}
use Rattle.counting.specs.Count.{below-lt}
use Rattle.laws.specs.Invariant.Links.{Links, held, held_yes, kid_in, parent_lists, nil}
use Rattle.laws.specs.Invariant.Sound.{Settled, Looking}
use Rattle.laws.specs.Invariant.Height.{height}
pub use Rattle.laws.specs.Invariant.Beneath.{Frame, frame-of, kid_below, entry_below, leaves_sum, inners_sum}
use Rattle.laws.specs.Inserting.Grown.{climb_keeps}
use Rattle.laws.specs.Inserting.First.{empty_tree, Holding}
use Rattle.head.specs.declared.Running.{Running}
pub use Rattle.laws.specs.Splitting.Up.{next_looking, next_in}
pub use Rattle.laws.specs.Room.Nodes.{room_links, Roomy, links_roomy, Splitting, splitting-roomy}

pub record Sure (s : Settings) (t : Tree) : Type 0 where
  pub root_in : t.root < length t.nodes
  pub filled : (n : ℕ) → n < length t.nodes → (node_at t n).leaf ≡ false → 0 < length (node_at t n).list
  pub nodes_in : (n c : ℕ) → n < length t.nodes → (node_at t n).leaf ≡ false → 0 < occurs c (node_at t n).list → c < length t.nodes
  pub entries_in : (n c : ℕ) → n < length t.nodes → (node_at t n).leaf ≡ true → 0 < occurs c (node_at t n).list → c < length t.entries
  pub parent_in : (n p : ℕ) → n < length t.nodes → (node_at t n).parent ≡ Some p → p < length t.nodes
  pub fits : (n : ℕ) → n < length t.nodes → length (node_at t n).list ≤ cap s (node_at t n).leaf

settled_sure : (s : Settings) (t : Tree) (R : ℕ → ℕ) (total : ℕ) → Settled s t R total → Sure s t
settled_sure s t R total g = record {
  root_in = g.links.root_in;
  filled = (λ n l f. g.links.filled n l);
  nodes_in = (λ n c l f o. (kid_in g.links n c l f o).0);
  entries_in = (λ n c l f o.
      let a : held (node_at t n) c ≡ occurs c (node_at t n).list = held_yes (node_at t n) c f in
      let b : held (node_at t n) c ≤ sum_to (λ k. held (node_at t k) c) (length t.nodes) = sum-at (λ k. held (node_at t k) c) n (length t.nodes) l in
      let d = g.links.entries_once c in
      below-lt c (length t.entries) (omega arith));
  parent_in = (λ n p l e. (parent_lists g.links n p l refl e).0);
  fits = (λ n l. let a = g.links.caps n l in omega arith);
}

empty_sure : (s : Settings) (z : Summary) (r : Running) → Sure s (empty_tree z r)
unfolding node_at occurs
empty_sure s z r = record { root_in = omega arith; filled = fl; nodes_in = ni; entries_in = ei; parent_in = pi; fits = ft }
  where
    t : Tree
    t = empty_tree z r

    fl : (n : ℕ) → n < 1 → (node_at (empty_tree z r) n).leaf ≡ false → 0 < length (node_at (empty_tree z r) n).list
    fl zero l f = absurd (true≢false f)
    fl (suc n) l f = absurd (omega arith)

    ni : (n c : ℕ) → n < 1 → (node_at (empty_tree z r) n).leaf ≡ false → 0 < occurs c (node_at (empty_tree z r) n).list → c < 1
    ni zero c l f o = absurd (true≢false f)
    ni (suc n) c l f o = absurd (omega arith)

    ei : (n c : ℕ) → n < 1 → (node_at (empty_tree z r) n).leaf ≡ true → 0 < occurs c (node_at (empty_tree z r) n).list → c < 0
    ei zero c l f o = absurd (let q : 1 ≤ 0 = o in omega arith)
    ei (suc n) c l f o = absurd (omega arith)

    pi : (n p : ℕ) → n < 1 → (node_at (empty_tree z r) n).parent ≡ Some p → p < 1
    pi zero p l e = absurd (none-some p e)
    pi (suc n) p l e = absurd (omega arith)

    ft : (n : ℕ) → n < 1 → length (node_at (empty_tree z r) n).list ≤ cap s (node_at (empty_tree z r) n).leaf
    ft zero l = omega arith
    ft (suc n) l = absurd (omega arith)

pub sure_of : (s : Settings) (t : Tree) (total : ℕ) → Holding s t total → Sure s t
sure_of s t total (inl b) = let q = b.0 in subst (λ u. Sure s u) (sym q.is) (empty_sure s q.summary t.running)
sure_of s t total (inr w) = settled_sure s t w.0 total w.1

-- the links are a frame for some ranks
pub record Framed (t : Tree) : Type 0 where
  pub R : ℕ → ℕ
  pub frame : Frame (node_at t) (length t.nodes) t.root (length t.entries) R

linked_framed : (s : Settings) (t : Tree) (R : ℕ → ℕ) → Links s (node_at t) (length t.nodes) t.root (length t.entries) R nil nil nil → Framed t
linked_framed s t R g = record { R = R; frame = frame-of s (node_at t) (length t.nodes) t.root (length t.entries) R nil nil g }

pub settled_framed : (s : Settings) (t : Tree) (R : ℕ → ℕ) (total : ℕ) → Settled s t R total → Framed t
settled_framed s t R total g = linked_framed s t R g.links

-- how many leaves there are
unfoldable pub leaf_count : Tree → ℕ
leaf_count t = sum_to (λ k. cond (node_at t k).leaf 1 0) (length t.nodes)

-- a frame in which no inner node is empty; leaves and entries have room in the entries' cap. Leaves may be empty, as some are before a reinsertion
pub record Standing (s : Settings) (t : Tree) : Type 0 where
  pub framed : Framed t
  pub root_top : (node_at t t.root).parent ≡ None
  pub inners : (i : ℕ) → i < length t.nodes → (node_at t i).leaf ≡ false → 0 < length (node_at t i).list
  pub leaves_few : leaf_count t ≤ entry_cap s
  pub entries_few : length t.entries ≤ entry_cap s

-- each leaf of a tree with right links has an entry of its own
pub linked-standing : (s : Settings) (t : Tree) (R : ℕ → ℕ) → Links s (node_at t) (length t.nodes) t.root (length t.entries) R nil nil nil
    → length t.entries ≤ entry_cap s → Standing s t
unfolding leaf_count
linked-standing s t R g few = record {
  framed = linked_framed s t R g;
  root_top = g.root_top;
  inners = (λ i l f. g.filled i l);
  leaves_few =
      (let a = leaves_sum (linked_framed s t R g).frame (λ _. 1) in
      let b = sum_ones (length t.entries) in
      let c = sum-le (λ k. cond (node_at t k).leaf 1 0) (λ k. cond (node_at t k).leaf (over (λ _. 1) (node_at t k).list) 0) (length t.nodes)
      (λ k l. one k l (node_at t k).leaf) in
      omega arith);
  entries_few = few;
}
  where
    one : (k : ℕ) → k < length t.nodes → (b : Bool) → cond b 1 0 ≤ cond b (over (λ _. 1) (node_at t k).list) 0
    one k l true = let a = length_over (node_at t k).list in let b = g.filled k l in omega arith
    one k l false = omega arith

pub settled-standing : (s : Settings) (t : Tree) (R : ℕ → ℕ) (total : ℕ) → Settled s t R total → length t.entries ≤ entry_cap s → Standing s t
settled-standing s t R total g few = linked-standing s t R g.links few

pub path_kids : (F : Summary → Summary) (l : ℕ) (t : Tree) (k : ℕ) → (node_at (along_path F l t) k).list ≡ (node_at t k).list
unfolding along_path with_nodes node_at summed
path_kids F l t k = climb_keeps F (λ m. m.list) (λ m. refl) (length t.nodes) (Some l) t.nodes k

-- the ways up from a node of a tree so looked at are fewer than its nodes
pub steps_few : (s : Settings) (t : Tree) (R : ℕ → ℕ) (i total : ℕ) → Looking s t R i total → R t.root < R i + length t.nodes
steps_few s t R i total g = let q = height g.links in omega arith

-- What one split takes for granted, and what the way up does.
use Rattle.std.specs.Prelude.{ℕ, suc, ◌+◌, ◌-◌, ◌≤◌, ◌<◌, ◌≡◌, Bool, true, false, not, List, Float, get_or, None, Some}
use Rattle.std.proofs.Math.Path.{refl}
use Rattle.std.proofs.Common.{sym, ◌∙◌, subst}
use native.Mathlib.Omega.{arith}
use Rattle.std.proofs.Math.Dec.{T, nleb→lt}
use Rattle.std.proofs.Math.ListN.{length}
use Rattle.head.specs.declared.Settings.{Settings}
use Rattle.head.specs.declared.Counters.{Counters}
use Rattle.head.specs.Limits.{Sized}
use Rattle.head.specs.Sizes.{node_cap, entry_cap, block_width, nodes_small}
use Rattle.head.specs.Counting.{count_nodes}
use Rattle.rules.specs.Lists.{occurs}
use Rattle.rules.specs.Tree.{Tree, node_at, cap, adding, with_nodes, with_root}
use Rattle.rules.specs.Slices.{no_parent, tree_of}
use Rattle.rules.specs.Split.{parted, split, crowned, fitting}
use Rattle.counting.specs.Count.{is, is_le, below-lt}
use Rattle.counting.specs.Sums.{sum_to, sum-at}
use Rattle.laws.specs.Invariant.Links as L
use Rattle.laws.specs.Invariant.Links.{held, held_yes, kid_in, nil, put, parent_lists}
use Rattle.laws.specs.Invariant.Sound.{Looking, Caps, caps_of, cap-some}
use Rattle.laws.specs.Splitting.Extended.{extended, extend_length, crowned-length}
use Rattle.laws.specs.Splitting.Nodes.{split-length}
use Rattle.laws.specs.Splitting.Split.{torn_of}
use Rattle.laws.specs.Splitting.Up.{crowned-settled, next_looking, next_in, next_rank, next_root}
use Rattle.laws.specs.Room.Nodes.{room_links}
use Rattle.laws.specs.Inserting.Grown.{Placed}
use Rattle.laws.specs.ForCode.{steps_few}
use Rattle.arena.specs.Trees.{Floats, ChildIn, ChildrenIn, on_node, count_nodes_lem, count_entries_lem}
use Rattle.counting.specs.Places.{get_occurs}

-- what one split needs: two members or more that are there and fit a block, and a parent that fits its word
pub record Splits (s : Settings) (n : Counters) (t : Tree) (i : ℕ) : Type 0 where
  pub inside : ChildrenIn n (node_at t i).leaf (node_at t i).list
  pub two : 2 ≤ length (node_at t i).list
  pub room : length (node_at t i).list + 2 ≤ block_width s
  pub parent_fits : (p : ℕ) → (node_at t i).parent ≡ Some p → p < no_parent

-- what follows a split of node i with parent p: the parent lists the new node
unfoldable pub next_up : Settings → ℕ → ℕ → Tree → Tree
next_up s i p t = on_node (adding (length t.nodes)) p (split s i t)

-- the invariant with node i looked at, the counts of the tree, and fewer than k levels from i up
pub record Rising (s : Settings) (k : ℕ) (n : Counters) (i : ℕ) (t : Tree) : Type 0 where
  pub R : ℕ → ℕ
  pub total : ℕ
  pub sized : Sized s
  pub looking : Looking s t R i total
  pub nodes : length t.nodes ≡ n.nodes
  pub entries : length t.entries ≡ n.entries
  pub few : n.entries ≤ s.max_leaves + 1
  pub here : i < n.nodes
  pub steps : R t.root < R i + k

-- what it gives for one step
pub record Step (s : Settings) (k : ℕ) (n : Counters) (i : ℕ) (t : Tree) : Type 0 where
  pub room : n.nodes < node_cap s
  pub splits : Splits s n t i
  pub top : (node_at t i).parent ≡ None → n.nodes + 1 < node_cap s
  pub up : (p : ℕ) → (node_at t i).parent ≡ Some p
      → (p < n.nodes + 1) × (length (node_at (split s i t) p).list + 2 < block_width s) × Rising s (k - 1) (count_nodes (n.nodes + 1) n) p (next_up s i p t)

cap_wide : (s : Settings) (b : Bool) → cap s b + 3 ≤ block_width s
unfolding block_width cap
cap_wide s true = omega arith
cap_wide s false = omega arith

-- what a node's list names is there
listed_in : (s : Settings) (n : Counters) (t : Tree) (R x y o : ℕ → ℕ) (i : ℕ)
    → L.Links s (node_at t) (length t.nodes) t.root (length t.entries) R x y o → length t.nodes ≡ n.nodes → length t.entries ≡ n.entries
    → i < length t.nodes → ChildrenIn n (node_at t i).leaf (node_at t i).list
unfolding ChildrenIn ChildIn
listed_in s n t R x y o i g en ee l k q = go (node_at t i).leaf refl
  where
    c : ℕ
    c = get_or (node_at t i).list k 0

    go : (b : Bool) → (node_at t i).leaf ≡ b → ChildIn n b (get_or (node_at t i).list k 0)
    go false e = let a = (kid_in g i c l e (get_occurs (node_at t i).list k 0 q)).0 in omega arith
    go true e =
        let f : held (node_at t i) c ≡ occurs c (node_at t i).list = held_yes (node_at t i) c e in
        let a : held (node_at t i) c ≤ sum_to (λ k. held (node_at t k) c) (length t.nodes) = sum-at (λ k. held (node_at t k) c) i (length t.nodes) l in
        let d = g.entries_once c in
        let h = get_occurs (node_at t i).list k 0 q in
        let r = below-lt c (length t.entries) (omega arith) in
        omega arith

module _ (s : Settings) (k : ℕ) (n : Counters) (i : ℕ) (t : Tree) (g : Rising s k n i t) (e : fitting s t i ≡ false) where
  caps : Caps s
  caps = caps_of g.sized

  l : i < length t.nodes
  l = let a = g.nodes in let b = g.here in omega arith

  over : cap s (node_at t i).leaf < length (node_at t i).list
  unfolding fitting
  over = nleb→lt (length (node_at t i).list) (cap s (node_at t i).leaf) (subst (λ b. T (not b)) (sym e) tt)

  many : 1 < length (node_at t i).list
  many = let q = over in let r = cap-some s (node_at t i).leaf caps in omega arith

  torn : L.Links s (node_at (split s i t)) (suc (length t.nodes)) t.root (length t.entries) (put g.R (length t.nodes) (g.R i)) nil
      (is (suc (g.R i))) (is (length t.nodes))
  torn = torn_of i g.looking l caps many

  few : length t.entries ≤ s.max_leaves + 1
  few = let a = g.entries in let b = g.few in omega arith

  room : n.nodes < node_cap s
  room = let a = room_links torn few in let b = g.nodes in omega arith

  splits : Splits s n t i
  splits = record {
    inside = listed_in s n t g.R (is i) (is (g.R i)) nil i g.looking.links g.nodes g.entries l;
    two = (let m = many in omega arith);
    room = (let a = g.looking.links.caps i l in let b = is_le i i in let d = cap_wide s (node_at t i).leaf in omega arith);
    parent_fits = (λ p o. let a = (parent_lists g.looking.links i p l refl o).0 in let b = nodes_small s g.sized in let d = room in let f = g.nodes in
        omega arith);
  }

  len : length (split s i t).nodes ≡ suc (length t.nodes)
  len = split-length s t i l

  top : (node_at t i).parent ≡ None → n.nodes + 1 < node_cap s
  top o =
      let u = crowned s i (length t.nodes) (split s i t) in
      let es : length u.entries ≡ length t.entries = unfold crowned split with_nodes with_root parted in refl in
      let h = few in
      let q = room_links (crowned-settled i g.looking l caps many o).links (omega arith) in
      let a = len in
      let d = l in
      let f = crowned-length s (split s i t) i (length t.nodes) (omega arith) (omega arith) in
      let b = g.nodes in
      omega arith

  module _ (p : ℕ) (o : (node_at t i).parent ≡ Some p) where
    p_in : p < length (split s i t).nodes
    p_in = let a = next_in i g.looking l caps many p o in let b = extend_length p (length t.nodes) (split s i t) in omega arith

    spare : length (node_at (split s i t) p).list + 2 < block_width s
    spare =
        let h = p_in in
        let f = len in
        let a = torn.caps p (omega arith) in
        let b = cap_wide s (node_at (split s i t) p).leaf in
        omega arith

    next : Rising s (k - 1) (count_nodes (n.nodes + 1) n) p (next_up s i p t)
    unfolding count_nodes next_up on_node
    next = record {
      R = put g.R (length t.nodes) (g.R i);
      total = g.total;
      sized = g.sized;
      looking = next_looking i g.looking l caps many p o;
      nodes = (let a = extend_length p (length t.nodes) (split s i t) in let b = len in let d = g.nodes in omega arith);
      entries = same ∙ g.entries;
      few = g.few;
      here = (let a = p_in in let b = len in let d = g.nodes in omega arith);
      steps =
          (let a = next_rank i g.looking l caps many p o in
          let b = next_root i g.looking l caps many p o in
          let d = g.steps in
          let f = g.looking.links.top i l in
          omega arith);
    }
      where
        same : length (extended p (length t.nodes) (split s i t)).entries ≡ length t.entries
        same = unfold split with_nodes parted in refl

  pub step : Step s k n i t
  step = record {
    room = room;
    splits = splits;
    top = top;
    up = (λ p o. (let a = p_in p o in let b = len in let d = g.nodes in omega arith, spare p o, next p o));
  }

-- ---- a row or an entry in its leaf, before any split, in the tree that the slices hold

pub rising_placed : (s : Settings) (n : Counters) (fs : List Float) (ls : List ℕ) {u : Tree} {R : ℕ → ℕ} {i total : ℕ} → Floats s n (length fs)
    → Placed s u R i total → tree_of s n fs ls ≡ u → Rising s n.nodes n i (tree_of s n fs ls)
unfolding entry_cap
rising_placed s n fs ls {u} {R} {i} {total} f p e =
    let nodes = count_nodes_lem s n fs ls in
    let looking : Looking s (tree_of s n fs ls) R i total = rw e p.looking in
    let here : i < length (tree_of s n fs ls).nodes = rw e p.here in
    record {
      R = R;
      total = total;
      sized = f.sized;
      looking = looking;
      nodes = nodes;
      entries = count_entries_lem s n fs ls;
      few = f.entries_in;
      here = rw nodes at here;
      steps = rw nodes at (steps_few s (tree_of s n fs ls) R i total looking);
    }

-- Leaves' lists by the new numbers.
use Prim.Native.Nat.{ℕ, zero, suc, ◌+◌, ◌-◌, ◌*◌, ◌≤◌, ◌<◌}
use Rattle.std.specs.Prelude.{◌≡◌, Bool, true, false, cond, Float, length}
use Rattle.std.proofs.Math.Path.{refl, sym, ap}
use Rattle.std.proofs.Common.{ap₂, ◌∙◌, add-one, arith, drop_of_length-le, drop-cons}
use mathlib.Core.List.{List, [], ◌∷◌, ◌++◌, map, filter_map, append_assoc}
use Rattle.std.proofs.Math.Option.{Option, Option-elim, none, some}
use Rattle.std.proofs.Math.ListN.{get_or, drop}
use Rattle.head.specs.declared.Settings.{Settings}
use Rattle.head.specs.declared.Counters.{Counters}
use Rattle.head.specs.Counting.{count_entries}
use Rattle.head.specs.Sizes.{block_width}
use Rattle.rules.specs.Lists.{change_at, snoc, keep, count_up}
use Rattle.rules.specs.Tree.{Node, Tree, blank_node, node_at, with_nodes, with_entries, with_list}
use Rattle.rules.specs.Rebuild.{number_if, keep_numbers, pruned, dropped}
use Rattle.rules.specs.Slices.{node_in, slot_at, block_at, tree_of}
use Rattle.laws.specs.ForCode.{Framed}
use Rattle.arena.specs.Trees.{AnyFloats, FloatsTo, LinksTo, Links, ChildIn, ChildrenIn, on_node, node_at_lem, node_block, count_nodes_lem}
use Rattle.stretch.specs.Blocks.{list_in}
use Rattle.arena.specs.Numbered.{block_at_lem}
use Rattle.stretch.specs.Stretches.{append-none}
use Rattle.bounds.specs.Framed.{frame_children}
use Rattle.merging.specs.Numbering.{Numbered, number_in, number_of, number_none, number_some}

-- the numbers of every leaf's list name entries
unfoldable pub LeavesIn : Counters → Tree → Type 0
LeavesIn n t = (i : ℕ) → i < n.nodes → (node_at t i).leaf ≡ true → ChildrenIn n true (node_at t i).list

pub leaves_framed : (s : Settings) (n : Counters) (fs : List Float) (ls : List ℕ) → Framed (tree_of s n fs ls) → LeavesIn n (tree_of s n fs ls)
unfolding LeavesIn
leaves_framed s n fs ls g = λ i h e. frame_children s n fs ls g i h true e

-- whatever the floats, and with any counters of the same counts
pub leaves_same : (s : Settings) (n d : Counters) (fs gs : List Float) (ls : List ℕ) → d.nodes ≡ n.nodes → d.entries ≡ n.entries
    → LeavesIn n (tree_of s n fs ls) → LeavesIn d (tree_of s d gs ls)
unfolding LeavesIn ChildrenIn ChildIn node_in
leaves_same s n d fs gs ls p q g = λ i h e.
    let l : i < n.nodes = rw p at h in
    let new = node_at_lem s d gs ls i h in
    let old = node_at_lem s n fs ls i l in
    let list : (node_at (tree_of s d gs ls) i).list ≡ (node_at (tree_of s n fs ls) i).list =
    ap (λ (m : Node). m.list) new ∙ sym (ap (λ (m : Node). m.list) old) in
    let leaf : (node_at (tree_of s n fs ls) i).leaf ≡ (node_at (tree_of s d gs ls) i).leaf =
    ap (λ (m : Node). m.leaf) old ∙ sym (ap (λ (m : Node). m.leaf) new) in
    rw (list, q) (g i l (leaf ∙ e))

-- a list is within its block, and its numbers' words within the scratch that the entries have
pub list_within : (s : Settings) (n : Counters) (fs : List Float) (ls : List ℕ) (i : ℕ) → Links s n (length ls) → i < n.nodes
    → length (node_at (tree_of s n fs ls) i).list + 2 ≤ block_width s
list_within s n fs ls i l h =
    let b = block_at_lem s ls i (node_block s n (length ls) i l h) in
    rw (node_at_lem s n fs ls i h, ← b.long) (list_in s (block_at s ls i) b (slot_at s fs i))

pub words_within : (n : Counters) (list : List ℕ) (numbers : ℕ) → ChildrenIn n true list → 3 * n.entries ≤ numbers
    → (k : ℕ) → k < length list → 3 * get_or list k 0 + 2 < numbers
unfolding ChildrenIn ChildIn
words_within n list numbers c h k l = omega (arith, c k l)

-- ---- one list

-- a number more, or none
unfoldable pub plus_of : List ℕ → Option ℕ → List ℕ
plus_of l none = l
plus_of l (some i) = snoc l i

pub plus_none : (l : List ℕ) (w : ℕ) → w ≡ 0 → l ≡ plus_of l (number_of w)
unfolding plus_of
plus_none l w e = ap (plus_of l) (sym (number_none w e))

pub plus_some : (l : List ℕ) (w : ℕ) → ¬ (w ≡ 0) → l ++ (w - 1) ∷ [] ≡ plus_of l (number_of w)
unfolding plus_of snoc
plus_some l w d = ap (plus_of l) (sym (number_some w d))

module _ (f : ℕ → Option ℕ) (list : List ℕ) where
  pub kept_turn : (k : ℕ) (l m : List ℕ) → k < length list → m ≡ plus_of l (f (get_or list k 0))
      → m ++ filter_map f (drop (k + 1) list) ≡ l ++ filter_map f (drop k list)
  unfolding filter_map
  kept_turn k l m h e =
      ap (λ x. x ++ filter_map f (drop (k + 1) list)) e ∙ go (f (get_or list k 0)) (filter_map f (drop (k + 1) list))
      ∙ sym (ap (λ x. l ++ filter_map f x) (drop-cons list k 0 h ∙ ap (λ j. get_or list k 0 ∷ drop j list) (sym (add-one k))))
    where
      go : (o : Option ℕ) (r : List ℕ) → plus_of l o ++ r ≡ l ++ Option-elim o r (λ b. b ∷ r)
      go none r = unfold plus_of in refl
      go (some b) r = unfold plus_of snoc in append_assoc l (b ∷ []) r

  pub kept_end : (k : ℕ) (l : List ℕ) → length list ≤ k → l ++ filter_map f (drop k list) ≡ l
  unfolding filter_map
  kept_end k l h = ap (λ x. l ++ filter_map f x) (drop_of_length-le list {i = k} h) ∙ append-none l

filter_same : (f g : ℕ → Option ℕ) (l : List ℕ) → ((k : ℕ) → k < length l → f (get_or l k 0) ≡ g (get_or l k 0)) → filter_map f l ≡ filter_map g l
unfolding filter_map
filter_same f g [] e = refl
filter_same f g (x ∷ l) e = ap₂ (λ o r. Option-elim o r (λ b. b ∷ r)) (e 0 (omega arith)) (filter_same f g l (λ k h. e (suc k) (omega arith)))

-- the words are the rules' new numbers
pub kept-numbers : (n : Counters) (bs : List Bool) (ns list : List ℕ) → Numbered bs ns n.entries → ChildrenIn n true list
    → filter_map (number_in ns) list ≡ keep_numbers bs list
unfolding keep_numbers ChildrenIn ChildIn Numbered
kept-numbers n bs ns list h c = filter_same (number_in ns) (number_if bs) list (λ k l. h (get_or list k 0) (c k l))

-- ---- one node

module _ {A : Type 0} where
  change-same : (f g : A → A) (i : ℕ) (l : List A) (d : A) → f (get_or l i d) ≡ g (get_or l i d) → change_at f i l ≡ change_at g i l
  unfolding change_at
  change-same f g i [] d e = refl
  change-same f g zero (x ∷ l) d e = ap (λ y. y ∷ l) e
  change-same f g (suc i) (x ∷ l) d e = ap (λ m. x ∷ m) (change-same f g i l d e)

  change-none : (i : ℕ) (l : List A) → change_at (λ x. x) i l ≡ l
  unfolding change_at
  change-none i [] = refl
  change-none zero (x ∷ l) = refl
  change-none (suc i) (x ∷ l) = ap (λ m. x ∷ m) (change-none i l)

module _ (bs : List Bool) (t : Tree) (i : ℕ) where
  pub pruned-inner : (node_at t i).leaf ≡ false → t ≡ on_node (pruned bs) i t
  unfolding on_node with_nodes node_at pruned with_list
  pruned-inner e =
      let m = get_or t.nodes i blank_node in
      ap (λ ns. with_nodes ns t)
      (sym (change-none i t.nodes)
      ∙ change-same (λ x. x) (pruned bs) i t.nodes blank_node (sym (ap (λ b. with_list (cond b (keep_numbers bs m.list) m.list) m) e)))

  pub pruned-leaf : (l : List ℕ) → (node_at t i).leaf ≡ true → l ≡ keep_numbers bs (node_at t i).list
      → on_node (with_list l) i t ≡ on_node (pruned bs) i t
  unfolding on_node node_at pruned
  pruned-leaf l e q =
      let m = get_or t.nodes i blank_node in
      ap (λ ns. with_nodes ns t) (change-same (with_list l) (pruned bs) i t.nodes blank_node
      (ap (λ k. with_list k m) q ∙ sym (ap (λ b. with_list (cond b (keep_numbers bs m.list) m.list) m) e)))

-- ---- all nodes

module _ {A : Type 0} (f : A → A) where
  -- f of the first i, and the others as they are
  unfoldable pub map_to : ℕ → List A → List A
  map_to zero l = l
  map_to (suc i) [] = []
  map_to (suc i) (x ∷ l) = f x ∷ map_to i l

  map_turn : (i : ℕ) (l : List A) → change_at f i (map_to i l) ≡ map_to (suc i) l
  unfolding map_to change_at
  map_turn zero [] = refl
  map_turn zero (x ∷ l) = refl
  map_turn (suc i) [] = refl
  map_turn (suc i) (x ∷ l) = ap (λ m. f x ∷ m) (map_turn i l)

  map_end : (i : ℕ) (l : List A) → length l ≤ i → map_to i l ≡ map f l
  unfolding map_to
  map_end zero [] h = refl
  map_end zero (x ∷ l) h = absurd (omega arith)
  map_end (suc i) [] h = refl
  map_end (suc i) (x ∷ l) h = ap (λ m. f x ∷ m) (map_end i l (omega arith))

  map-rest : (i : ℕ) (l : List A) (d : A) → get_or (map_to i l) i d ≡ get_or l i d
  unfolding map_to
  map-rest zero l d = refl
  map-rest (suc i) [] d = refl
  map-rest (suc i) (x ∷ l) d = map-rest i l d

-- i nodes are pruned
unfoldable pub Prunes : Settings → Counters → List Bool → List ℕ → ℕ → List ℕ → Type 0
Prunes s n bs ls i ks = LinksTo s n ls n ks (λ t. with_nodes (map_to (pruned bs) i t.nodes) t)

module _ (s : Settings) (n : Counters) (bs : List Bool) (ls : List ℕ) where
  pub prunes_start : Prunes s n bs ls 0 ls
  unfolding Prunes map_to with_nodes tree_of
  prunes_start = λ fs. refl

  module _ (i : ℕ) (ks : List ℕ) (g : Prunes s n bs ls i ks) where
    -- node i is still to come
    pub prunes_leaves : AnyFloats s n ls (LeavesIn n) → i < n.nodes
        → AnyFloats s n ks (λ t. (node_at t i).leaf ≡ true → ChildrenIn n true (node_at t i).list)
    unfolding Prunes LeavesIn
    prunes_leaves h l = λ fs. rw (old fs) (h fs i l)
      where
        old : (fs : List Float) → node_at (tree_of s n fs ks) i ≡ node_at (tree_of s n fs ls) i
        old fs = ap (λ t. node_at t i) (g fs) ∙ (unfold node_at with_nodes in map-rest (pruned bs) i (tree_of s n fs ls).nodes blank_node)

    pub prunes_turn : (js : List ℕ) → LinksTo s n ks n js (on_node (pruned bs) i) → Prunes s n bs ls (i + 1) js
    unfolding Prunes on_node with_nodes
    prunes_turn js to = λ fs.
        to fs ∙ ap (on_node (pruned bs) i) (g fs)
        ∙ ap (λ ns. with_nodes ns (tree_of s n fs ls)) (map_turn (pruned bs) i (tree_of s n fs ls).nodes
        ∙ ap (λ k. map_to (pruned bs) k (tree_of s n fs ls).nodes) (sym (add-one i)))

    pub prunes_end : n.nodes ≤ i → LinksTo s n ls n ks (λ t. with_nodes (map (pruned bs) t.nodes) t)
    unfolding Prunes
    prunes_end h = λ fs.
        g fs ∙ ap (λ ns. with_nodes ns (tree_of s n fs ls)) (map_end (pruned bs) i (tree_of s n fs ls).nodes (rw (count_nodes_lem s n fs ls) h))

-- ---- the whole

-- the entries kept and the leaves pruned are the rules' tree without the merged-away ones
pub dropped-is : (s : Settings) (n r : Counters) (bs cs : List Bool) (fs gs : List Float) (ls ks : List ℕ) → cs ≡ bs → r ≡ count_entries (count_up bs) n
    → FloatsTo s n fs (count_entries (count_up cs) n) gs (λ t. with_entries (keep cs t.entries) t)
    → LinksTo s n ls n ks (λ t. with_nodes (map (pruned cs) t.nodes) t) → tree_of s r gs ks ≡ dropped bs (tree_of s n fs ls)
unfolding dropped with_nodes
dropped-is s n r bs cs fs gs ls ks same is e l =
    ap (λ d. tree_of s d gs ks) (is ∙ ap (λ b. count_entries (count_up b) n) (sym same)) ∙ e ks
    ∙ ap (λ t. with_entries (keep cs t.entries) t) (l fs) ∙ ap (λ b. dropped b (tree_of s n fs ls)) same

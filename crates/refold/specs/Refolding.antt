-- One node made anew, and the nodes one after the other from the last back to the root.
use Rattle.std.specs.Prelude.{ℕ, zero, suc, ◌≤◌, ◌<◌, ◌≡◌, false, cond, List, [], ◌∷◌, ◌++◌, map, reverse, length, get_or, Float, None, Some}
use Rattle.std.proofs.lemmas.Option.{none-some, same_Some}
use Rattle.std.proofs.Math.Path.{refl, sym, ap}
use Rattle.std.proofs.Common.{◌∙◌, subst, arith}
use Rattle.std.proofs.lemmas.List.{length-reverse}
use Rattle.feature.specs.declared.Summary.{Summary}
use Rattle.head.specs.declared.Settings.{Settings}
use Rattle.head.specs.declared.Counters.{Counters}
use Rattle.rules.specs.Lists.{change_at}
use Rattle.rules.specs.Tree.{Node, Tree, blank_node, node_at, child, with_nodes, summed}
use Rattle.rules.specs.Slices.{node_in, tree_of}
use Rattle.rules.specs.Refold.{fold_balanced, refold_one, preorder, refold_all, refolded}
use Rattle.laws.specs.Invariant.Beneath.{kid_below}
use Rattle.laws.specs.ForCode.{Standing}
use Rattle.arena.specs.Trees.{on_node, node_at_lem, count_nodes_lem}
use Rattle.refold.specs.Walk.{Backward, top, step, node_before}
use Rattle.counting.specs.Places.{get_occurs}

change-same : {A : Type 0} (f g : A → A) (i : ℕ) (l : List A) (d : A) → f (get_or l i d) ≡ g (get_or l i d) → change_at f i l ≡ change_at g i l
unfolding change_at
change-same f g i [] d e = refl
change-same f g zero (x ∷ l) d e = ap (λ y. y ∷ l) e
change-same f g (suc i) (x ∷ l) d e = ap (λ m. x ∷ m) (change-same f g i l d e)

-- the fold of node i's list in its place
pub one-is : (s : Settings) (t : Tree) (i : ℕ) (c : Summary)
    → c ≡ fold_balanced s (length (node_at t i).list) (map (child t (node_at t i).leaf) (node_at t i).list) → on_node (summed (λ _. c)) i t ≡ refold_one s i t
unfolding on_node refold_one node_at summed
one-is s t i c e = ap (λ ns. with_nodes ns t) (change-same _ _ i t.nodes blank_node (rw e))

-- no list is empty
unfoldable pub Filled : Tree → Type 0
Filled t = (i : ℕ) → i < length t.nodes → 0 < length (node_at t i).list

-- whatever the floats, the links say the same
module _ (s : Settings) (c : Counters) (ls : List ℕ) (i : ℕ) (h : i < c.nodes) (fs gs : List Float) where
  pub same_list : (node_at (tree_of s c fs ls) i).list ≡ (node_at (tree_of s c gs ls) i).list
  unfolding node_in
  same_list = ap (λ (m : Node). m.list) (node_at_lem s c fs ls i h) ∙ sym (ap (λ (m : Node). m.list) (node_at_lem s c gs ls i h))

  pub same-leaf : (node_at (tree_of s c fs ls) i).leaf ≡ (node_at (tree_of s c gs ls) i).leaf
  unfolding node_in
  same-leaf = ap (λ (m : Node). m.leaf) (node_at_lem s c fs ls i h) ∙ sym (ap (λ (m : Node). m.leaf) (node_at_lem s c gs ls i h))

pub list_filled : (s : Settings) (c : Counters) (ls : List ℕ) (fs gs : List Float) → Filled (tree_of s c fs ls) → (i : ℕ) → i < c.nodes
    → 0 < length (node_at (tree_of s c gs ls) i).list
unfolding Filled
list_filled s c ls fs gs w i h = subst (λ l. 0 < length l) (same_list s c ls i h fs gs) (w i (rw (count_nodes_lem s c fs ls) h))

-- ---- from node i back to the root

module _ (s : Settings) (t : Tree) (u : Standing s t) where
  pub back_in : {i : ℕ} {rs : List ℕ} → Backward t i rs → i < length t.nodes
  back_in (top e) = rw e u.framed.frame.root_in
  back_in (step rs p k up h e l inner b) =
      subst (λ c. c < length t.nodes) e (kid_below u.framed.frame p _ l inner (get_occurs (node_at t p).list k 0 h))

  -- the first of them
  pub back_some : {i : ℕ} {rs : List ℕ} → Backward t i rs → 0 < length rs
  back_some (top e) = omega arith
  back_some (step rs p k up h e l inner b) = omega arith

  -- at the root they end
  pub back_top : {i : ℕ} {rs : List ℕ} (v : Tree) → Backward t i rs → (node_at t i).parent ≡ None → refold_one s i v ≡ refold_all s rs v
  unfolding refold_all
  back_top v (top e) q = refl
  back_top v (step rs p k up h e l inner b) q = absurd (none-some p (sym q ∙ up))

  -- below the root, node i is made anew and those before it are left: p lists it at place k
  pub record Next (i p : ℕ) (rs : List ℕ) : Type 0 where
    pub rest : List ℕ
    pub k : ℕ
    pub parent_in : p < length t.nodes
    pub inner : (node_at t p).leaf ≡ false
    pub place : k < length (node_at t p).list
    pub here : get_or (node_at t p).list k 0 ≡ i
    pub fewer : length rest < length rs
    pub before : Backward t (node_before t p k) rest
    pub one : (v : Tree) → refold_all s rest (refold_one s i v) ≡ refold_all s rs v

  pub back_next : {i : ℕ} {rs : List ℕ} (p : ℕ) → Backward t i rs → (node_at t i).parent ≡ Some p → Next i p rs
  back_next p (top e) q = absurd (none-some p (sym u.root_top ∙ ap (λ j. (node_at t j).parent) (sym e) ∙ q))
  back_next {i} p (step rs p' k up h e l inner b) q =
      subst (λ p. Next i p (i ∷ rs)) (same_Some p' p (sym up ∙ q)) (record {
        rest = rs;
        k = k;
        parent_in = l;
        inner = inner;
        place = h;
        here = e;
        fewer = omega arith;
        before = b;
        one = (λ v. unfold refold_all in refl);
      })

  -- the whole, from the last node on
  pub back_all : (v : Tree) → v ≡ t → refold_all s (reverse (preorder t (length t.nodes) (t.root ∷ []))) v ≡ refolded s t
  unfolding refolded
  back_all v e = ap (refold_all s (reverse (preorder t (length t.nodes) (t.root ∷ [])))) e

-- no more nodes are visited than there are steps
order_long : (t : Tree) (k : ℕ) (ns : List ℕ) → length (preorder t k ns) ≤ k
unfolding preorder
order_long t zero ns = omega arith
order_long t (suc k) [] = omega arith
order_long t (suc k) (n ∷ ns) = let h = order_long t k (cond (node_at t n).leaf [] (node_at t n).list ++ ns) in omega arith

pub order-few : (t : Tree) (k : ℕ) (ns : List ℕ) → length (reverse (preorder t k ns)) ≤ k
order-few t k ns = rw (length-reverse (preorder t k ns)) (order_long t k ns)

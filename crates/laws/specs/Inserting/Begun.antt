-- A new entry in a leaf: the invariant, looked at in that leaf.
use Rattle.std.specs.Prelude.{ℕ, suc, ◌+◌, ◌≤◌, ◌<◌, ◌≡◌, refl, ◌⊎◌, ◌≢◌, false, [], ◌∷◌}
use Rattle.std.proofs.Math.Path.{sym, ap, subst}
use Rattle.std.proofs.Common.{◌∙◌, inl, inr}
use Rattle.std.proofs.Math.Bool.{true}
use native.Mathlib.Omega.{arith}
use Rattle.std.proofs.Math.ListN.{length}
use Rattle.feature.specs.declared.Summary.{Summary}
use Rattle.feature.specs.Summaries.{blank}
use Rattle.head.specs.declared.Settings.{Settings}
use Rattle.rules.specs.Lists.{snoc}
use Rattle.rules.specs.Tree.{Tree, node_at, entry_at, blank_node, with_nodes, with_entries, adding, with_list, row_count}
use Rattle.rules.specs.Insert.{begun}
use Rattle.laws.specs.Invariant.Weights.{IsExact, Exactly, exact_count, exact_is}
use Rattle.counting.specs.Count.{is, is_other, same?}
use Rattle.counting.specs.Sums.{over, over-same, over-append}
use Rattle.laws.specs.Invariant.Links.{Links, leaf?, nil}
use Rattle.laws.specs.Splitting.Tied.{Added}
use Rattle.counting.specs.Lists.{change-at, change_off, change_keeps, length-change, snoc-at, snoc_off, snoc-length}
use Rattle.laws.specs.Invariant.Weigh.{own, own-leaf, own-inner}
use Rattle.laws.specs.Invariant.Sound.{entry_weight, node_weight, Settled, Looking}
use Rattle.laws.specs.Inserting.Climb.{Pushed}
use Rattle.counting.specs.Only.{only, only_at, only_off}
use Rattle.laws.specs.Inserting.Listed.{new_links, held_in_lem}

-- ---- a new entry

module _ {s : Settings} {t : Tree} {R : ℕ → ℕ} {d l total : ℕ} (e : Summary) (g : Pushed s t R d l total) (h : l < length t.nodes)
    (f : (node_at t l).leaf ≡ true) (x : Exactly e d) (some : 1 ≤ d) where
  added : Added (node_at t) (node_at (begun l e t)) l (length t.entries)
  unfolding begun with_nodes with_entries node_at adding with_list
  added = record {
    kids_p = ap (λ m. m.list) (change-at (adding (length t.entries)) l blank_node t.nodes h);
    kids_o = (λ k d. ap (λ m. m.list) (change_off (adding (length t.entries)) l k blank_node t.nodes d));
    leaf_o = (λ k. change_keeps (λ m. m.leaf) (adding (length t.entries)) l k blank_node t.nodes (λ m. refl));
    parent_o = (λ k. change_keeps (λ m. m.parent) (adding (length t.entries)) l k blank_node t.nodes (λ m. refl));
  }

  sum_same' : (k : ℕ) → (node_at (begun l e t) k).summary ≡ (node_at t k).summary
  unfolding begun with_nodes with_entries node_at adding with_list
  sum_same' k = change_keeps (λ m. m.summary) (adding (length t.entries)) l k blank_node t.nodes (λ m. refl)

  weight_same : (k : ℕ) → node_weight (begun l e t) k ≡ node_weight t k
  unfolding node_weight
  weight_same k = ap (λ m. row_count m) (sum_same' k)

  pub begun_nodes : length (begun l e t).nodes ≡ length t.nodes
  unfolding begun with_nodes with_entries
  begun_nodes = length-change (adding (length t.entries)) l t.nodes

  pub begun_entries : length (begun l e t).entries ≡ suc (length t.entries)
  unfolding begun with_nodes with_entries
  begun_entries = snoc-length t.entries e

  entry_new : entry_at (begun l e t) (length t.entries) ≡ e
  unfolding begun with_nodes with_entries entry_at
  entry_new = snoc-at t.entries e blank

  entry_old : (c : ℕ) → c ≢ length t.entries → entry_at (begun l e t) c ≡ entry_at t c
  unfolding begun with_nodes with_entries entry_at
  entry_old c d = snoc_off t.entries e blank c d

  pub ew_new : entry_weight (begun l e t) (length t.entries) ≡ d
  unfolding entry_weight
  ew_new = ap (λ m. row_count m) entry_new ∙ exact_count e d x

  pub ew_old : (c : ℕ) → c < length t.entries → entry_weight (begun l e t) c ≡ entry_weight t c
  unfolding entry_weight
  ew_old c q = ap (λ m. row_count m) (entry_old c (λ z. differ z))
    where
      differ : c ≡ length t.entries → ⊥
      differ z = omega arith

  new-own : (k : ℕ) → k < length t.nodes → own (node_at (begun l e t) k) (entry_weight (begun l e t)) (node_weight (begun l e t))
      ≡ own (node_at t k) (entry_weight t) (node_weight t) + only d l k
  unfolding over snoc
  new-own k q = go (same? k l) (leaf? (node_at t k))
    where
      old : (k : ℕ) → k < length t.nodes → (node_at t k).leaf ≡ true
          → over (entry_weight (begun l e t)) (node_at t k).list ≡ over (entry_weight t) (node_at t k).list
      old k q u =
          over-same (entry_weight (begun l e t)) (entry_weight t) (node_at t k).list
          (λ c o. ew_old c (held_in_lem s (node_at t) (length t.nodes) t.root (length t.entries) R nil nil nil g.links k c q u o).0)

      go : (k ≡ l) ⊎ (k ≢ l) → ((node_at t k).leaf ≡ true) ⊎ ((node_at t k).leaf ≡ false)
          → own (node_at (begun l e t) k) (entry_weight (begun l e t)) (node_weight (begun l e t)) ≡ own (node_at t k) (entry_weight t) (node_weight t) + only d l k
      go (inl z) u =
          let fk : (node_at t k).leaf ≡ true = ap (λ y. (node_at t y).leaf) z ∙ f in
          let a : own (node_at (begun l e t) k) (entry_weight (begun l e t)) (node_weight (begun l e t))
          ≡ over (entry_weight (begun l e t)) (snoc (node_at t k).list (length t.entries)) =
          own-leaf (node_at (begun l e t) k) (entry_weight (begun l e t)) (node_weight (begun l e t)) (added.leaf_o k ∙ fk)
          ∙ ap (λ y. over (entry_weight (begun l e t)) y) (ap (λ y. (node_at (begun l e t) y).list) z ∙ added.kids_p
          ∙ ap (λ y. snoc (node_at t y).list (length t.entries)) (sym z)) in
          let b : over (entry_weight (begun l e t)) (snoc (node_at t k).list (length t.entries))
          ≡ over (entry_weight (begun l e t)) (node_at t k).list + (entry_weight (begun l e t) (length t.entries) + 0) =
          over-append (entry_weight (begun l e t)) (node_at t k).list (length t.entries ∷ []) in
          let c = old k q fk in
          let m = ew_new in
          let v = own-leaf (node_at t k) (entry_weight t) (node_weight t) fk in
          let w = only_at d l k z in
          omega arith
      go (inr z) (inl fk) =
          let a : own (node_at (begun l e t) k) (entry_weight (begun l e t)) (node_weight (begun l e t)) ≡ over (entry_weight (begun l e t)) (node_at t k).list =
          own-leaf (node_at (begun l e t) k) (entry_weight (begun l e t)) (node_weight (begun l e t)) (added.leaf_o k ∙ fk)
          ∙ ap (λ y. over (entry_weight (begun l e t)) y) (added.kids_o k z) in
          let c = old k q fk in
          let v = own-leaf (node_at t k) (entry_weight t) (node_weight t) fk in
          let w = only_off d l k z in
          omega arith
      go (inr z) (inr fk) =
          let a : own (node_at (begun l e t) k) (entry_weight (begun l e t)) (node_weight (begun l e t)) ≡ over (node_weight (begun l e t)) (node_at t k).list =
          own-inner (node_at (begun l e t) k) (entry_weight (begun l e t)) (node_weight (begun l e t)) (added.leaf_o k ∙ fk)
          ∙ ap (λ y. over (node_weight (begun l e t)) y) (added.kids_o k z) in
          let c = over-same (node_weight (begun l e t)) (node_weight t) (node_at t k).list (λ c o. weight_same c) in
          let v = own-inner (node_at t k) (entry_weight t) (node_weight t) fk in
          let w = only_off d l k z in
          omega arith

  entry_exact : (c : ℕ) → c < suc (length t.entries) → IsExact (entry_at (begun l e t) c) × (1 ≤ entry_weight (begun l e t) c)
  entry_exact c q = go (same? c (length t.entries))
    where
      go : (c ≡ length t.entries) ⊎ (c ≢ length t.entries) → IsExact (entry_at (begun l e t) c) × (1 ≤ entry_weight (begun l e t) c)
      go (inl z) = (
        subst (λ y. IsExact (entry_at (begun l e t) y)) (sym z) (subst (λ m. IsExact m) (sym entry_new) (exact_is e d x)),
        (let a : entry_weight (begun l e t) c ≡ d = ap (λ y. entry_weight (begun l e t) y) z ∙ ew_new in omega arith),
      )
      go (inr z) = (
        subst (λ m. IsExact m) (sym (entry_old c z)) (g.exact.at_entry c (omega arith)),
        (let a = ew_old c (omega arith) in let b = g.exact.some_entry c (omega arith) in omega arith),
      )

  pub new_looking : Looking s (begun l e t) R l total
  unfolding begun with_nodes with_entries
  new_looking = record {
    links = subst (λ m. Links s (node_at (begun l e t)) (length (begun l e t).nodes) t.root m R (is l) (is (R l)) nil) (sym begun_entries)
        (subst (λ n. Links s (node_at (begun l e t)) n t.root (suc (length t.entries)) R (is l) (is (R l)) nil) (sym begun_nodes)
        (new_links g.links added h f));
    exact = record {
      at_node = (λ k q. subst (λ m. IsExact m) (sym (sum_same' k)) (g.exact.at_node k (subst (λ n. k < n) begun_nodes q)));
      at_entry = (λ c q. (entry_exact c (subst (λ n. c < n) begun_entries q)).0);
      some_entry = (λ c q. (entry_exact c (subst (λ n. c < n) begun_entries q)).1);
      small = g.exact.small;
    };
    weighs = record {
      sums = (λ k q. weight_same k ∙ g.sums k (subst (λ n. k < n) begun_nodes q) ∙ sym (new-own k (subst (λ n. k < n) begun_nodes q)));
      bound = (λ k q. subst (λ z. z ≤ total) (sym (weight_same k)) (g.bound k (subst (λ n. k < n) begun_nodes q)));
      whole-tree = weight_same t.root ∙ g.at_top;
    };
  }

-- ---- a leaf of a settled tree may be looked at

-- a settled tree may be looked at in any leaf
pub looking_of : (s : Settings) (t : Tree) (R : ℕ → ℕ) (l total : ℕ) → Settled s t R total → l < length t.nodes → (node_at t l).leaf ≡ true
    → Looking s t R l total
looking_of s t R l total g h f = record {
  links = record {
    root_in = g.links.root_in;
    root_top = g.links.root_top;
    kid = g.links.kid;
    grounded = g.links.grounded;
    nodes_once = g.links.nodes_once;
    entries_once = g.links.entries_once;
    caps = (λ k q. let a = g.links.caps k q in omega arith);
    filled = g.links.filled;
    top = g.links.top;
    grows = (λ r. let a = g.links.grows r in let z : is (R l) (suc r) ≡ 0 = is_other (R l) (suc r) (λ e. clash r (g.links.grounded l h f) e) in omega arith);
  };
  exact = g.exact;
  weighs = g.weighs;
}
  where
    clash : (r : ℕ) → R l ≡ 0 → R l ≡ suc r → ⊥
    clash r x y = omega arith

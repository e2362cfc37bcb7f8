-- The endings of a split, and all splits from a node upward: a tree looked at in one node becomes a settled tree.
use Prim.Native.Nat.{ℕ, zero, suc, ◌+◌, ◌≤◌, ◌<◌}
use Rattle.std.specs.Prelude.{◌≡◌, ◌⊎◌, ◌≢◌, Bool, true, not, T, Option, None, Some}
use Rattle.std.proofs.Math.Path.{refl, sym, ap, subst}
use Rattle.std.proofs.Common.{◌∙◌, inl, inr, leb→le}
use Rattle.std.proofs.Math.Bool.{false}
use mathlib.Core.List.{[], ◌∷◌}
use native.Mathlib.Omega.{arith}
use Rattle.std.proofs.Math.Dec.{nleb→lt}
use Rattle.std.proofs.Math.ListN.{length}
use Rattle.head.specs.declared.Settings.{Settings}
use Rattle.rules.specs.Tree.{Tree, node_at, entry_at, child, cap, with_nodes, with_root, row_count}
use Rattle.rules.specs.Split.{split, crowned, fitting, split_next, split_if, split_up, parted, gathered}
use Rattle.rules.specs.Lists.{occurs}
use Rattle.laws.specs.Invariant.Weights.{IsExact, Exactly, exact_count, exact_is, gather_exact, weight_of}
use Rattle.counting.specs.Count.{is, is_other, same?, lt_ne}
use Rattle.counting.specs.Sums.{over, occurs-cons}
use Rattle.laws.specs.Invariant.Links.{Links, leaf?, nil, parent_lists, no_parent_lem, put, put-at, put_off}
use Rattle.laws.specs.Splitting.Torn.{Parts}
use Rattle.laws.specs.Splitting.Tied.{tied_links}
use Rattle.laws.specs.Splitting.Crown.{crowned_links}
use Rattle.laws.specs.Splitting.Groups.{stay_list, move_list}
use Rattle.laws.specs.Splitting.Nodes.{split-length}
use Rattle.laws.specs.Splitting.Extended.{extended, extend_added, extend_sum, extend_length, crowned-length, crowned_n, crowned-sum, crowned_parts}
use Rattle.laws.specs.Invariant.Weigh.{Weighs, Short}
use Rattle.laws.specs.Splitting.Weighed.{tied_weighs, crown_weighs}
use Rattle.laws.specs.Invariant.Sound.{entry_weight, node_weight, Settled, Looking, Caps, cap-some}
use Rattle.laws.specs.Splitting.Split.{parts_of, short_of, torn_of, split_exact}

module _ {s : Settings} {t : Tree} {R : ℕ → ℕ} (i : ℕ) {total : ℕ} (g : Looking s t R i total) (l : i < length t.nodes) (c : Caps s)
    (many : 1 < length (node_at t i).list) where
  Q : ℕ → ℕ
  Q = put R (length t.nodes) (R i)

  at_old : (k : ℕ) → k < length t.nodes → put R (length t.nodes) (R i) k ≡ R k
  at_old k h = put_off R (length t.nodes) (R i) k (lt_ne k (length t.nodes) h)

  at_new : put R (length t.nodes) (R i) (length t.nodes) ≡ R i
  at_new = put-at R (length t.nodes) (R i)

  len : length (split s i t).nodes ≡ suc (length t.nodes)
  len = split-length s t i l

  li : i < length (split s i t).nodes
  li = let h = len in omega arith

  lj : length t.nodes < length (split s i t).nodes
  lj = let h = len in omega arith

  torn' : Links s (node_at (split s i t)) (length (split s i t).nodes) t.root (length t.entries) (put R (length t.nodes) (R i)) nil
      (is (suc (R i))) (is (length t.nodes))
  torn' =
      subst (λ m. Links s (node_at (split s i t)) m t.root (length t.entries) (put R (length t.nodes) (R i)) nil (is (suc (R i)))
      (is (length t.nodes))) (sym len) (torn_of i g l c many)

  short' : Short (node_at (split s i t)) (entry_weight t) (node_weight (split s i t)) (length (split s i t).nodes) t.root total i (length t.nodes)
  short' =
      subst (λ m. Short (node_at (split s i t)) (entry_weight t) (node_weight (split s i t)) m t.root total i (length t.nodes)) (sym len)
      (short_of i g l c many)

  parts : Parts (node_at t) (node_at (split s i t)) i (length t.nodes) (stay_list s t i) (move_list s t i)
  parts = parts_of i g l c many

  parent_i : (node_at (split s i t) i).parent ≡ (node_at t i).parent
  parent_i = parts.parent_kept i (lt_ne i (length t.nodes) l) (go (leaf? (node_at t i)))
    where
      go : ((node_at t i).leaf ≡ true) ⊎ ((node_at t i).leaf ≡ false) → ((node_at t i).leaf ≡ true) ⊎ (occurs i (move_list s t i) ≡ 0)
      go (inl e) = inl e
      go (inr e) = inr (zero? (same? (occurs i (move_list s t i)) 0))
        where
          no : R i ≡ suc (R i) → ⊥
          no q = omega arith

          zero? : (occurs i (move_list s t i) ≡ 0) ⊎ (occurs i (move_list s t i) ≢ 0) → occurs i (move_list s t i) ≡ 0
          zero? (inl z) = z
          zero? (inr z) = absurd (no (g.links.kid i i l e (let q = parts.both i in omega arith)).1)

  -- ---- no parent: a new root

  module _ (orphan : (node_at t i).parent ≡ None) where
    i_root : i ≡ t.root
    i_root = no_parent_lem g.links i l refl orphan

    links₀ : Links s (node_at (split s i t)) (length (split s i t).nodes) i (length t.entries) (put R (length t.nodes) (R i)) nil
        (is (suc (put R (length t.nodes) (R i) i))) (is (length t.nodes))
    links₀ =
        subst (λ r. Links s (node_at (split s i t)) (length (split s i t).nodes) r (length t.entries) (put R (length t.nodes) (R i)) nil
        (is (suc (put R (length t.nodes) (R i) i))) (is (length t.nodes))) (sym i_root)
        (subst (λ q. Links s (node_at (split s i t)) (length (split s i t).nodes) t.root (length t.entries) (put R (length t.nodes) (R i)) nil
        (is (suc q)) (is (length t.nodes))) (sym (at_old i l)) torn')

    short₀ : Short (node_at (split s i t)) (entry_weight t) (node_weight (split s i t)) (length (split s i t).nodes) i total i (length t.nodes)
    short₀ =
        subst (λ r. Short (node_at (split s i t)) (entry_weight t) (node_weight (split s i t)) (length (split s i t).nodes) r total i (length t.nodes))
        (sym i_root) short'

    u : Tree
    u = split s i t

    abbrev done : Tree
    done = crowned s i (length t.nodes) (split s i t)

    exact_top : Exactly (gathered s (split s i t) false (i ∷ length t.nodes ∷ [])) (over (weight_of (split s i t) false) (i ∷ length t.nodes ∷ []))
    unfolding over weight_of child node_weight
    exact_top = gather_exact s (split s i t) false (i ∷ length t.nodes ∷ []) here (let a = short₀.at_root refl in let b = g.exact.small in omega arith)
      where
        here : (x : ℕ) → 0 < occurs x (i ∷ length t.nodes ∷ []) → IsExact (node_at (split s i t) x).summary
        here x o = split_exact i g l c many x (go (same? x i) (same? x (length t.nodes)))
          where
            go : (x ≡ i) ⊎ (x ≢ i) → (x ≡ length t.nodes) ⊎ (x ≢ length t.nodes) → x < suc (length t.nodes)
            go (inl e) q = omega arith
            go (inr e) (inl q) = omega arith
            go (inr e) (inr q) =
                let a = occurs-cons x i (length t.nodes ∷ []) in
                let b = occurs-cons x (length t.nodes) [] in
                let d = is_other x i e in
                let f = is_other x (length t.nodes) q in
                let z : occurs x [] ≡ 0 = unfold occurs in refl in
                absurd (omega arith)

    top_weight : node_weight done (length (split s i t).nodes) ≡ node_weight (split s i t) i + node_weight (split s i t) (length t.nodes)
    unfolding node_weight weight_of child over
    top_weight =
        ap (λ m. row_count m.summary) (crowned_n s (split s i t) i (length t.nodes) li lj)
        ∙ exact_count (gathered s (split s i t) false (i ∷ length t.nodes ∷ [])) (over (weight_of (split s i t) false) (i ∷ length t.nodes ∷ [])) exact_top
        ∙ omega arith

    old_weight : (k : ℕ) → k ≢ length (split s i t).nodes → node_weight done k ≡ node_weight (split s i t) k
    unfolding node_weight
    old_weight k d = ap (λ m. row_count m) (crowned-sum s (split s i t) i (length t.nodes) li lj k d)

    pub R₀ : ℕ → ℕ
    R₀ = put (put R (length t.nodes) (R i)) (length (split s i t).nodes) (suc (put R (length t.nodes) (R i) i))

    links₁ : Links s (node_at done) (suc (length (split s i t).nodes)) (length (split s i t).nodes) (length t.entries) R₀ nil nil nil
    unfolding R₀
    links₁ = crowned_links links₀
        (crowned_parts s (split s i t) i (length t.nodes) li lj) lj (at_new ∙ sym (at_old i l)) c.inners

    weighs₁ : Weighs (node_at done) (entry_weight t) (node_weight done) (suc (length (split s i t).nodes)) (length (split s i t).nodes) total
    weighs₁ = crown_weighs (suc (put R (length t.nodes) (R i) i))
        (node_weight done) links₀ (crowned_parts s (split s i t) i (length t.nodes) li lj) lj short₀ old_weight top_weight

    exact₁ : (k : ℕ) → k < suc (length (split s i t).nodes) → IsExact (node_at done k).summary
    exact₁ k h = go (same? k (length (split s i t).nodes))
      where
        go : (k ≡ length (split s i t).nodes) ⊎ (k ≢ length (split s i t).nodes) → IsExact (node_at done k).summary
        go (inl e) =
            subst (λ z. IsExact (node_at done z).summary) (sym e)
            (subst (λ m. IsExact m.summary) (sym (crowned_n s (split s i t) i (length t.nodes) li lj))
            (exact_is (gathered s (split s i t) false (i ∷ length t.nodes ∷ [])) (over (weight_of (split s i t) false) (i ∷ length t.nodes ∷ []))
            exact_top))
        go (inr d) =
            subst (λ m. IsExact m) (sym (crowned-sum s (split s i t) i (length t.nodes) li lj k d)) (split_exact i g l c many k (let q = len in omega arith))

    done-length : length done.nodes ≡ suc (length (split s i t).nodes)
    done-length = crowned-length s (split s i t) i (length t.nodes) li lj

    pub crowned-settled : Settled s (crowned s i (length t.nodes) (split s i t)) R₀ total
    unfolding crowned split parted with_nodes with_root entry_weight entry_at
    crowned-settled = record {
      links = subst (λ m. Links s (node_at done) m (length (split s i t).nodes) (length t.entries) R₀ nil nil nil) (sym done-length) links₁;
      exact = record {
        at_node = subst (λ m. (k : ℕ) → k < m → IsExact (node_at done k).summary) (sym done-length) exact₁;
        at_entry = g.exact.at_entry;
        some_entry = g.exact.some_entry;
        small = g.exact.small;
      };
      weighs = subst (λ m. Weighs (node_at done) (entry_weight t) (node_weight done) m (length (split s i t).nodes) total) (sym done-length) weighs₁;
    }

  -- ---- a parent: it lists the new half

  module _ (p : ℕ) (child-of : (node_at t i).parent ≡ Some p) where
    i≢n : i ≢ length t.nodes
    i≢n = lt_ne i (length t.nodes) l

    Entry : (p < length (split s i t).nodes) × ((node_at (split s i t) p).leaf ≡ false) × (occurs i (node_at (split s i t) p).list ≡ 1)
        × (put R (length t.nodes) (R i) p ≡ suc (put R (length t.nodes) (R i) i))
    Entry = parent_lists torn' i p li
        (is_other (length t.nodes) i (λ e. i≢n (sym e))) (parent_i ∙ child-of)

    pub next_rank : put R (length t.nodes) (R i) p ≡ suc (R i)
    next_rank = Entry.3 ∙ ap suc (at_old i l)

    pub next_root : put R (length t.nodes) (R i) (extended p (length t.nodes) (split s i t)).root ≡ R t.root
    unfolding split parted with_nodes
    next_root = at_old t.root g.links.root_in

    abbrev next : Tree
    next = extended p (length t.nodes) (split s i t)

    next-length : length next.nodes ≡ length (split s i t).nodes
    next-length = extend_length p (length t.nodes) (split s i t)

    pub next_in : p < length (extended p (length t.nodes) (split s i t)).nodes
    next_in = subst (λ m. p < m) (sym next-length) Entry.0

    links₂ : Links s (node_at next) (length (split s i t).nodes) t.root (length t.entries) (put R (length t.nodes) (R i)) (is p)
        (is (put R (length t.nodes) (R i) p)) nil
    links₂ = tied_links (suc (R i)) torn'
        (extend_added (split s i t) p (length t.nodes) Entry.0) Entry.0 lj Entry.1 (parts.parent_n ∙ child-of) (next_rank ∙ ap suc (sym at_new))
        (sym next_rank)

    same_weight : (k : ℕ) → node_weight next k ≡ node_weight (split s i t) k
    unfolding node_weight
    same_weight k = ap (λ m. row_count m) (extend_sum (split s i t) p (length t.nodes) k)

    weighs₂ : Weighs (node_at next) (entry_weight t) (node_weight next) (length (split s i t).nodes) t.root total
    weighs₂ = tied_weighs (suc (R i))
        (node_weight next) torn' (extend_added (split s i t) p (length t.nodes) Entry.0) Entry.0 li Entry.1 i≢n (parent_i ∙ child-of) short'
        same_weight

    pub next_looking : Looking s (extended p (length t.nodes) (split s i t)) (put R (length t.nodes) (R i)) p total
    unfolding split parted with_nodes with_root entry_weight entry_at
    next_looking = record {
      links = subst (λ m. Links s (node_at next) m t.root (length t.entries) (put R (length t.nodes) (R i)) (is p)
          (is (put R (length t.nodes) (R i) p)) nil) (sym next-length) links₂;
      exact = record {
        at_node = subst (λ m. (k : ℕ) → k < m → IsExact (node_at next k).summary) (sym (next-length ∙ len))
            (λ k h. subst (λ m. IsExact m) (sym (extend_sum (split s i t) p (length t.nodes) k)) (split_exact i g l c many k h));
        at_entry = g.exact.at_entry;
        some_entry = g.exact.some_entry;
        small = g.exact.small;
      };
      weighs = subst (λ m. Weighs (node_at next) (entry_weight t) (node_weight next) m t.root total) (sym next-length) weighs₂;
    }

-- ---- a node that fits: settled

pub at_rest : (s : Settings) (t : Tree) (R : ℕ → ℕ) (i total : ℕ) → Looking s t R i total → length (node_at t i).list ≤ cap s (node_at t i).leaf
    → Settled s t R total
at_rest s t R i total g h = record {
  links = record {
    root_in = g.links.root_in;
    root_top = g.links.root_top;
    kid = g.links.kid;
    grounded = g.links.grounded;
    nodes_once = g.links.nodes_once;
    entries_once = g.links.entries_once;
    caps = (λ k q. go k q (same? k i));
    filled = g.links.filled;
    top = g.links.top;
    grows = (λ r. let q = g.links.grows r in omega arith);
  };
  exact = g.exact;
  weighs = g.weighs;
}
  where
    go : (k : ℕ) → k < length t.nodes → (k ≡ i) ⊎ (k ≢ i) → length (node_at t k).list ≤ cap s (node_at t k).leaf + 0
    go k q (inl e) = subst (λ z. length (node_at t z).list ≤ cap s (node_at t z).leaf + 0) (sym e) (omega arith)
    go k q (inr e) = let a = g.links.caps k q in let b : is i k ≡ 0 = is_other i k (λ z. e (sym z)) in omega arith

-- ---- all splits from a node upward

abbrev pub Restored : Settings → Tree → ℕ → Type 0
Restored s t total = (Q : ℕ → ℕ) × Settled s t Q total

pub split_up_lem : (s : Settings) (k i : ℕ) (t : Tree) (R : ℕ → ℕ) (total : ℕ) → Caps s → Looking s t R i total → i < length t.nodes → R t.root < R i + k
    → Restored s (split_up s k i t) total
unfolding split_up split_if split_next fitting
split_up_lem s zero i t R total c g l f = let h = g.links.top i l in absurd (omega arith)
split_up_lem s (suc k) i t R total c g l f = go (fitting s t i) refl (λ p u Q h q e. split_up_lem s k p u Q total c h q e)
  where
    next : (o : Option ℕ) → (node_at t i).parent ≡ o → 1 < length (node_at t i).list
        → ((p : ℕ) (u : Tree) (Q : ℕ → ℕ) → Looking s u Q p total → p < length u.nodes → Q u.root < Q p + k → Restored s (split_up s k p u) total)
        → Restored s (split_next s (λ p u. split_up s k p u) i (length t.nodes) o (split s i t)) total
    next None e m ih = (R₀ i g l c m e, crowned-settled i g l c m e)
    next (Some p) e m ih =
        ih p (extended p (length t.nodes) (split s i t)) (put R (length t.nodes) (R i)) (next_looking i g l c m p e) (next_in i g l c m p e)
        (let a = next_rank i g l c m p e in let b = next_root i g l c m p e in omega arith)

    go : (b : Bool) → fitting s t i ≡ b
        → ((p : ℕ) (u : Tree) (Q : ℕ → ℕ) → Looking s u Q p total → p < length u.nodes → Q u.root < Q p + k → Restored s (split_up s k p u) total)
        → Restored s (split_if s (λ p u. split_up s k p u) i b t) total
    go true e ih = (R, at_rest s t R i total g (leb→le (length (node_at t i).list) (cap s (node_at t i).leaf) (subst T (sym e) tt)))
    go false e ih =
        next (node_at t i).parent refl (let h = nleb→lt (length (node_at t i).list) (cap s (node_at t i).leaf) (subst (λ b. T (not b)) (sym e) tt) in
        let q = cap-some s (node_at t i).leaf c in omega arith) ih

-- The parent lists the new half: the links.
use Rattle.std.specs.Prelude.{ℕ, suc, ◌+◌, ◌-◌, ◌≤◌, ◌<◌, ◌≡◌, refl, ◌⊎◌, ◌≢◌, length, Some}
use Rattle.std.proofs.Math.Path.{sym, ap}
use Rattle.std.proofs.Common.{◌∙◌, subst, inl, inr, arith}
use Rattle.std.proofs.Math.Bool.{false, cond}
use Rattle.head.specs.declared.Settings.{Settings}
use Rattle.rules.specs.Lists.{snoc, occurs}
use Rattle.rules.specs.Tree.{Node, cap}
use Rattle.counting.specs.Sums.{is_sym, occurs-snoc, length-snoc, sum_to, sum_same, sum-change}
use Rattle.counting.specs.Count.{is, is_same, is_other, below, same?}
use Rattle.laws.specs.Invariant.Links.{Links, inner, held, inner_yes, held_no, nil, rank_count}

-- ---- the parent lists the new half

-- B is A with j last in node p's list
pub record Added (A B : ℕ → Node) (p j : ℕ) : Type 0 where
  pub kids_p : (B p).list ≡ snoc (A p).list j
  pub kids_o : (k : ℕ) → k ≢ p → (B k).list ≡ (A k).list
  pub leaf_o : (k : ℕ) → (B k).leaf ≡ (A k).leaf
  pub parent_o : (k : ℕ) → (B k).parent ≡ (A k).parent

-- p's list is longer by one, and no other
added_length : {A B : ℕ → Node} {p j : ℕ} → Added A B p j → (k : ℕ) → length (B k).list ≡ length (A k).list + is p k
added_length {A} {B} {p} {j} b k = go (same? k p)
  where
    go : (k ≡ p) ⊎ (k ≢ p) → length (B k).list ≡ length (A k).list + is p k
    go (inl e) =
        let a : length (B p).list ≡ suc (length (A p).list) = ap (λ z. length z) b.kids_p ∙ length-snoc (A p).list j in
        let c = is_same p p refl in
        subst (λ z. length (B z).list ≡ length (A z).list + is p z) (sym e) (omega arith)
    go (inr e) = let a = ap (λ z. length z) (b.kids_o k e) in let c = is_other p k (λ z. e (sym z)) in omega arith

-- so p may be over its cap by one, and every node lists something as before
module _ {s : Settings} {A B : ℕ → Node} {n root es : ℕ} {R y o : ℕ → ℕ} {p j : ℕ} (g : Links s A n root es R nil y o) (b : Added A B p j) where
  pub added_caps : (k : ℕ) → k < n → length (B k).list ≤ cap s (B k).leaf + is p k
  added_caps k h =
      let a = added_length b k in
      let d : cap s (B k).leaf ≡ cap s (A k).leaf = ap (λ z. cap s z) (b.leaf_o k) in
      let m = g.caps k h in
      omega arith

  pub added_filled : (k : ℕ) → k < n → 0 < length (B k).list
  added_filled k h = let a = added_length b k in let m = g.filled k h in omega arith

module _ {s : Settings} {A B : ℕ → Node} {n root es : ℕ} {R : ℕ → ℕ} (q : ℕ) {p j : ℕ} (g : Links s A n root es R nil (is q) (is j)) (b : Added A B p j)
    (lp : p < n) (lj : j < n) (fp : (A p).leaf ≡ false) (pj : (A j).parent ≡ Some p) (rj : R p ≡ suc (R j)) (rq : q ≡ R p) where
  tied_kid : (k c : ℕ) → k < n → (B k).leaf ≡ false → 0 < occurs c (B k).list → ((B c).parent ≡ Some k) × (R k ≡ suc (R c))
  tied_kid k c h f o = go (same? k p) (same? c j)
    where
      go : (k ≡ p) ⊎ (k ≢ p) → (c ≡ j) ⊎ (c ≢ j) → ((B c).parent ≡ Some k) × (R k ≡ suc (R c))
      go (inl e) (inl d) =
          (b.parent_o c ∙ ap (λ z. (A z).parent) d ∙ pj ∙ ap (λ z. Some z) (sym e), ap R e ∙ rj ∙ ap (λ z. suc (R z)) (sym d))
      go (inl e) (inr d) =
          let a : occurs c (B k).list ≡ occurs c (A p).list + is c j =
          ap (λ z. occurs c (B z).list) e ∙ ap (λ z. occurs c z) b.kids_p ∙ occurs-snoc c (A p).list j in
          let u : is c j ≡ 0 = is_other c j d in
          let w = g.kid p c lp fp (omega arith) in
          (b.parent_o c ∙ w.0 ∙ ap (λ z. Some z) (sym e), ap R e ∙ w.1)
      go (inr e) d =
          let a : occurs c (B k).list ≡ occurs c (A k).list = ap (λ z. occurs c z) (b.kids_o k e) in
          let w = g.kid k c h (sym (b.leaf_o k) ∙ f) (omega arith) in
          (b.parent_o c ∙ w.0, w.1)

  tied_inner : (c k : ℕ) → k ≢ p → inner (B k) c ≡ inner (A k) c
  unfolding inner
  tied_inner c k d = ap (λ z. cond z 0 (occurs c (B k).list)) (b.leaf_o k) ∙ ap (λ z. cond (A k).leaf 0 (occurs c z)) (b.kids_o k d)

  tied_held : (c k : ℕ) → held (B k) c ≡ held (A k) c
  unfolding held
  tied_held c k = go (same? k p)
    where
      go : (k ≡ p) ⊎ (k ≢ p) → held (B k) c ≡ held (A k) c
      go (inl e) =
          let f : (A k).leaf ≡ false = ap (λ z. (A z).leaf) e ∙ fp in
          held_no (B k) c (b.leaf_o k ∙ f) ∙ sym (held_no (A k) c f)
      go (inr d) = ap (λ z. cond z (occurs c (B k).list) 0) (b.leaf_o k) ∙ ap (λ z. cond (A k).leaf (occurs c z) 0) (b.kids_o k d)

  tied_nodes : (c : ℕ) → is c root + 0 + sum_to (λ k. inner (B k) c) n ≡ below c n
  tied_nodes c =
      let a : sum_to (λ k. inner (B k) c) n + inner (A p) c ≡ sum_to (λ k. inner (A k) c) n + inner (B p) c =
      sum-change (λ k. inner (A k) c) (λ k. inner (B k) c) p n lp (λ k h d. tied_inner c k d) in
      let u : inner (A p) c ≡ occurs c (A p).list = inner_yes (A p) c fp in
      let v : inner (B p) c ≡ occurs c (A p).list + is c j =
      inner_yes (B p) c (b.leaf_o p ∙ fp) ∙ ap (λ z. occurs c z) b.kids_p ∙ occurs-snoc c (A p).list j in
      let w : is c root + is j c + sum_to (λ k. inner (A k) c) n ≡ below c n = g.nodes_once c in
      let m = is_sym c j in
      omega arith

  -- the links after it, no orphan left
  pub tied_links : Links s B n root es R (is p) (is (R p)) nil
  tied_links = record {
    root_in = g.root_in;
    root_top = b.parent_o root ∙ g.root_top;
    kid = tied_kid;
    grounded = (λ k h f. g.grounded k h (sym (b.leaf_o k) ∙ f));
    nodes_once = tied_nodes;
    entries_once = (λ c. sum_same (λ k. held (A k) c) (λ k. held (B k) c) n (λ k h. tied_held c k) ∙ g.entries_once c);
    caps = added_caps g b;
    filled = added_filled g b;
    top = g.top;
    grows = (λ r. subst (λ z. rank_count R n (suc r) + is z (suc r) ≤ rank_count R n r - 1) rq (g.grows r));
  }

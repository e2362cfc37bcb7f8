-- An entry more, last in a leaf: the links.
use Rattle.std.specs.Prelude.{ℕ, suc, ◌+◌, ◌<◌, ◌≡◌, ◌⊎◌, ◌≢◌, true, false, Some}
use Rattle.std.proofs.Common.{sym, ◌∙◌, subst, inl, inr, arith}
use Rattle.std.proofs.Math.Path.{ap}
use Rattle.std.proofs.Math.Bool.{cond}
use Rattle.head.specs.declared.Settings.{Settings}
use Rattle.rules.specs.Lists.{occurs}
use Rattle.rules.specs.Tree.{Node}
use Rattle.counting.specs.Count.{is, is_other, same?, below, below-lt, below-le, below_suc}
use Rattle.counting.specs.Sums.{occurs-snoc, sum_to, sum_same, sum-change, sum-at, sum_two}
use Rattle.laws.specs.Invariant.Links.{Links, inner, held, inner_no, inner_yes, held_yes, leaf?, nil, not_both}
use Rattle.laws.specs.Splitting.Tied.{Added, added_caps, added_filled}

-- ---- links: entry number es is listed last in leaf l

module _ {s : Settings} {A B : ℕ → Node} {n root es : ℕ} {R : ℕ → ℕ} {l : ℕ} (g : Links s A n root es R nil nil nil) (b : Added A B l es) (h : l < n)
    (f : (A l).leaf ≡ true) where
  not_l : (k : ℕ) → (B k).leaf ≡ false → k ≢ l
  not_l k q e = not_both (A l).leaf f (ap (λ z. (A z).leaf) (sym e) ∙ sym (b.leaf_o k) ∙ q)

  new_kid : (k c : ℕ) → k < n → (B k).leaf ≡ false → 0 < occurs c (B k).list → ((B c).parent ≡ Some k) × (R k ≡ suc (R c))
  new_kid k c q u o =
      let r = g.kid k c q (sym (b.leaf_o k) ∙ u) (subst (λ z. 0 < occurs c z) (b.kids_o k (not_l k u)) o) in
      (b.parent_o c ∙ r.0, r.1)

  new-inner : (c k : ℕ) → inner (B k) c ≡ inner (A k) c
  new-inner c k = go (leaf? (A k))
    where
      go : ((A k).leaf ≡ true) ⊎ ((A k).leaf ≡ false) → inner (B k) c ≡ inner (A k) c
      go (inl e) = inner_no (B k) c (b.leaf_o k ∙ e) ∙ sym (inner_no (A k) c e)
      go (inr e) = inner_yes (B k) c (b.leaf_o k ∙ e) ∙ ap (λ z. occurs c z) (b.kids_o k (not_l k (b.leaf_o k ∙ e))) ∙ sym (inner_yes (A k) c e)

  new-held : (c k : ℕ) → k ≢ l → held (B k) c ≡ held (A k) c
  unfolding held
  new-held c k d = ap (λ z. cond z (occurs c (B k).list) 0) (b.leaf_o k) ∙ ap (λ z. cond (A k).leaf (occurs c z) 0) (b.kids_o k d)

  new_entries : (c : ℕ) → sum_to (λ k. held (B k) c) n ≡ below c (suc es)
  new_entries c =
      let a = sum-change (λ k. held (A k) c) (λ k. held (B k) c) l n h (λ k q d. new-held c k d) in
      let u : held (A l) c ≡ occurs c (A l).list = held_yes (A l) c f in
      let v : held (B l) c ≡ occurs c (A l).list + is c es =
      held_yes (B l) c (b.leaf_o l ∙ f) ∙ ap (λ z. occurs c z) b.kids_p ∙ occurs-snoc c (A l).list es in
      let w = g.entries_once c in
      let m = below_suc c es in
      omega arith

  pub new_links : Links s B n root (suc es) R (is l) (is (R l)) nil
  new_links = record {
    root_in = g.root_in;
    root_top = b.parent_o root ∙ g.root_top;
    kid = new_kid;
    grounded = (λ k q u. g.grounded k q (sym (b.leaf_o k) ∙ u));
    nodes_once = (λ c. ap (λ z. is c root + 0 + z) (sum_same (λ k. inner (A k) c) (λ k. inner (B k) c) n (λ k q. new-inner c k)) ∙ g.nodes_once c);
    entries_once = new_entries;
    caps = added_caps g b;
    filled = added_filled g b;
    top = g.top;
    grows = (λ r. let a = g.grows r in let z : is (R l) (suc r) ≡ 0 = is_other (R l) (suc r) (λ e. clash r (g.grounded l h f) e) in omega arith);
  }
    where
      clash : (r : ℕ) → R l ≡ 0 → R l ≡ suc r → ⊥
      clash r x y = omega arith

-- an entry of a leaf's list exists, and is in no other leaf's
pub held_in_lem : (s : Settings) (A : ℕ → Node) (n root es : ℕ) (R x y o : ℕ → ℕ) → Links s A n root es R x y o → (k c : ℕ) → k < n → (A k).leaf ≡ true
    → 0 < occurs c (A k).list → (c < es) × (occurs c (A k).list ≡ 1)
held_in_lem s A n root es R x y o g k c h f q =
    let a : held (A k) c ≡ occurs c (A k).list = held_yes (A k) c f in
    let b = sum-at (λ k. held (A k) c) k n h in
    let d = g.entries_once c in
    let e = below-le c es in
    (below-lt c es (omega arith), omega arith)

pub held_one : (s : Settings) (A : ℕ → Node) (n root es : ℕ) (R x y o : ℕ → ℕ) → Links s A n root es R x y o → (k l c : ℕ) → k < n → l < n → (A k).leaf ≡ true
    → (A l).leaf ≡ true → 0 < occurs c (A k).list → 0 < occurs c (A l).list → k ≡ l
held_one s A n root es R x y o g k l c hk hl fk fl qk ql = go (same? k l)
  where
    go : (k ≡ l) ⊎ (k ≢ l) → k ≡ l
    go (inl e) = e
    go (inr e) =
        let a : held (A k) c ≡ occurs c (A k).list = held_yes (A k) c fk in
        let b : held (A l) c ≡ occurs c (A l).list = held_yes (A l) c fl in
        let d = sum_two (λ k. held (A k) c) k l n hk hl e in
        let m = g.entries_once c in
        let u = below-le c es in
        absurd (omega arith)

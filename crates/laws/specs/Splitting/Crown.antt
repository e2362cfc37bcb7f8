-- A new root lists both halves: the links.
use Prim.Native.Nat.{ℕ, suc, ◌+◌, ◌-◌, ◌≤◌, ◌<◌}
use Rattle.std.specs.Prelude.{◌≡◌, ◌⊎◌, ◌≢◌, true, false, length, None, Some}
use Rattle.std.proofs.Common.{sym, ◌∙◌, inl, inr}
use Rattle.std.proofs.Math.Path.{ap}
use Rattle.std.proofs.Math.Bool.{cond}
use mathlib.Core.List.{[], ◌∷◌}
use Rattle.std.proofs.Math.Nat.{suc_inj}
use native.Mathlib.Omega.{arith}
use Rattle.head.specs.declared.Settings.{Settings}
use Rattle.rules.specs.Lists.{occurs}
use Rattle.rules.specs.Tree.{Node, cap}
use Rattle.counting.specs.Sums.{is_sym, occurs-cons, sum-none, sum_to, sum_same}
use Rattle.counting.specs.Count.{is, is_same, is_other, below, below_suc, same?, lt_ne}
use Rattle.laws.specs.Invariant.Links.{Links, inner, held, inner_yes, held_no, not_both, nil, rank_count, kid_in, put, put-at, put_off, rank_put}

-- ---- a new root lists both halves

-- B is A with a new root n over i and j
pub record Crowned (A B : ℕ → Node) (i j n : ℕ) : Type 0 where
  pub kids_n : (B n).list ≡ i ∷ j ∷ []
  pub leaf_n : (B n).leaf ≡ false
  pub parent_n : (B n).parent ≡ None
  pub kids_o : (k : ℕ) → k ≢ n → (B k).list ≡ (A k).list
  pub leaf_o : (k : ℕ) → k ≢ n → (B k).leaf ≡ (A k).leaf
  pub parent_i : (B i).parent ≡ Some n
  pub parent_j : (B j).parent ≡ Some n
  pub parent_o : (k : ℕ) → k ≢ n → k ≢ i → k ≢ j → (B k).parent ≡ (A k).parent

module _ {s : Settings} {A B : ℕ → Node} {n i es : ℕ} {R : ℕ → ℕ} {j : ℕ} (g : Links s A n i es R nil (is (suc (R i))) (is j)) (b : Crowned A B i j n)
    (lj : j < n) (rj : R j ≡ R i) (room : 2 ≤ cap s false) where
  rank_of : (k : ℕ) → k < n → put R n (suc (R i)) k ≡ R k
  rank_of k h = put_off R n (suc (R i)) k (lt_ne k n h)

  spot : (k : ℕ) → k < suc n → (k ≡ n) ⊎ (k < n)
  spot k h = go (same? k n)
    where
      go : (k ≡ n) ⊎ (k ≢ n) → (k ≡ n) ⊎ (k < n)
      go (inl e) = inl e
      go (inr e) = inr (omega arith)

  occurs_two : (c : ℕ) → occurs c (i ∷ j ∷ []) ≡ is c i + is c j
  unfolding occurs
  occurs_two c = let a = occurs-cons c i (j ∷ []) in let d : occurs c (j ∷ []) ≡ is c j + 0 = occurs-cons c j [] in omega arith

  crown_kid : (k c : ℕ) → k < suc n → (B k).leaf ≡ false → 0 < occurs c (B k).list
      → ((B c).parent ≡ Some k) × (put R n (suc (R i)) k ≡ suc (put R n (suc (R i)) c))
  crown_kid k c h f o = go (spot k h) (same? c i) (same? c j)
    where
      go : (k ≡ n) ⊎ (k < n) → (c ≡ i) ⊎ (c ≢ i) → (c ≡ j) ⊎ (c ≢ j) → ((B c).parent ≡ Some k) × (put R n (suc (R i)) k ≡ suc (put R n (suc (R i)) c))
      go (inl e) (inl d) m = (
        ap (λ z. (B z).parent) d ∙ b.parent_i ∙ ap (λ z. Some z) (sym e),
        ap (λ z. put R n (suc (R i)) z) e ∙ put-at R n (suc (R i)) ∙ ap suc (sym (rank_of i g.root_in) ∙ ap (λ z. put R n (suc (R i)) z) (sym d)),
      )
      go (inl e) (inr d) (inl m) = (
        ap (λ z. (B z).parent) m ∙ b.parent_j ∙ ap (λ z. Some z) (sym e),
        ap (λ z. put R n (suc (R i)) z) e ∙ put-at R n (suc (R i)) ∙ ap suc (sym rj ∙ sym (rank_of j lj) ∙ ap (λ z. put R n (suc (R i)) z) (sym m)),
      )
      go (inl e) (inr d) (inr m) =
          let a : occurs c (B k).list ≡ is c i + is c j = ap (λ z. occurs c (B z).list) e ∙ ap (λ z. occurs c z) b.kids_n ∙ occurs_two c in
          let u = is_other c i d in
          let v = is_other c j m in
          absurd (omega arith)
      go (inr e) d m =
          let ne : k ≢ n = lt_ne k n e in
          let a : occurs c (B k).list ≡ occurs c (A k).list = ap (λ z. occurs c z) (b.kids_o k ne) in
          let f' : (A k).leaf ≡ false = sym (b.leaf_o k ne) ∙ f in
          let w = g.kid k c e f' (omega arith) in
          let u = kid_in g k c e f' (omega arith) in (
            b.parent_o c (lt_ne c n u.0) u.2 (λ z. apart (is_same j c (sym z)) u.3) ∙ w.0,
            rank_of k e ∙ w.1 ∙ ap suc (sym (rank_of c u.0)),
          )
        where
          apart : is j c ≡ 1 → is j c ≡ 0 → ⊥
          apart p q = omega arith

  crown_ground : (k : ℕ) → k < suc n → (B k).leaf ≡ true → put R n (suc (R i)) k ≡ 0
  crown_ground k h f = go (spot k h)
    where
      go : (k ≡ n) ⊎ (k < n) → put R n (suc (R i)) k ≡ 0
      go (inl e) = absurd (not_both (B n).leaf (ap (λ z. (B z).leaf) (sym e) ∙ f) b.leaf_n)
      go (inr e) = rank_of k e ∙ g.grounded k e (sym (b.leaf_o k (lt_ne k n e)) ∙ f)

  crown_inner : (c k : ℕ) → k < n → inner (B k) c ≡ inner (A k) c
  unfolding inner
  crown_inner c k h =
      ap (λ z. cond z 0 (occurs c (B k).list)) (b.leaf_o k (lt_ne k n h)) ∙ ap (λ z. cond (A k).leaf 0 (occurs c z)) (b.kids_o k (lt_ne k n h))

  crown_held : (c k : ℕ) → k < n → held (B k) c ≡ held (A k) c
  unfolding held
  crown_held c k h =
      ap (λ z. cond z (occurs c (B k).list) 0) (b.leaf_o k (lt_ne k n h)) ∙ ap (λ z. cond (A k).leaf (occurs c z) 0) (b.kids_o k (lt_ne k n h))

  crown_nodes : (c : ℕ) → is c n + 0 + sum_to (λ k. inner (B k) c) (suc n) ≡ below c (suc n)
  unfolding sum_to
  crown_nodes c =
      let a : sum_to (λ k. inner (B k) c) n ≡ sum_to (λ k. inner (A k) c) n = sum_same (λ k. inner (A k) c) (λ k. inner (B k) c) n (λ k h. crown_inner c k h) in
      let u : inner (B n) c ≡ is c i + is c j = inner_yes (B n) c b.leaf_n ∙ ap (λ z. occurs c z) b.kids_n ∙ occurs_two c in
      let w : is c i + is j c + sum_to (λ k. inner (A k) c) n ≡ below c n = g.nodes_once c in
      let m = is_sym c j in
      let d = below_suc c n in
      omega arith

  crown_entries : (c : ℕ) → sum_to (λ k. held (B k) c) (suc n) ≡ below c es
  unfolding sum_to
  crown_entries c =
      let a : sum_to (λ k. held (B k) c) n ≡ sum_to (λ k. held (A k) c) n = sum_same (λ k. held (A k) c) (λ k. held (B k) c) n (λ k h. crown_held c k h) in
      let u : held (B n) c ≡ 0 = held_no (B n) c b.leaf_n in
      let w = g.entries_once c in
      omega arith

  crown_caps : (k : ℕ) → k < suc n → length (B k).list ≤ cap s (B k).leaf + 0
  crown_caps k h = go (spot k h)
    where
      go : (k ≡ n) ⊎ (k < n) → length (B k).list ≤ cap s (B k).leaf + 0
      go (inl e) =
          let a : length (B k).list ≡ 2 = ap (λ z. length (B z).list) e ∙ ap (λ z. length z) b.kids_n in
          let d : cap s (B k).leaf ≡ cap s false = ap (λ z. cap s (B z).leaf) e ∙ ap (λ z. cap s z) b.leaf_n in
          omega arith
      go (inr e) =
          let a : length (B k).list ≡ length (A k).list = ap (λ z. length z) (b.kids_o k (lt_ne k n e)) in
          let d : cap s (B k).leaf ≡ cap s (A k).leaf = ap (λ z. cap s z) (b.leaf_o k (lt_ne k n e)) in
          let m : length (A k).list ≤ cap s (A k).leaf + 0 = g.caps k e in
          omega arith

  crown_filled : (k : ℕ) → k < suc n → 0 < length (B k).list
  crown_filled k h = go (spot k h)
    where
      go : (k ≡ n) ⊎ (k < n) → 0 < length (B k).list
      go (inl e) = let a : length (B k).list ≡ 2 = ap (λ z. length (B z).list) e ∙ ap (λ z. length z) b.kids_n in omega arith
      go (inr e) = let a : length (B k).list ≡ length (A k).list = ap (λ z. length z) (b.kids_o k (lt_ne k n e)) in let m = g.filled k e in omega arith

  crown_top : (k : ℕ) → k < suc n → put R n (suc (R i)) k ≤ put R n (suc (R i)) n
  crown_top k h = go (spot k h) (put-at R n (suc (R i)))
    where
      go : (k ≡ n) ⊎ (k < n) → put R n (suc (R i)) n ≡ suc (R i) → put R n (suc (R i)) k ≤ put R n (suc (R i)) n
      go (inl e) t = let a : put R n (suc (R i)) k ≡ put R n (suc (R i)) n = ap (λ z. put R n (suc (R i)) z) e in omega arith
      go (inr e) t = let a = rank_of k e in let d = g.top k e in omega arith

  none_above : rank_count R n (suc (R i)) ≡ 0
  unfolding rank_count
  none_above = sum-none (λ k. is (suc (R i)) (R k)) n (λ k h. is_other (suc (R i)) (R k) (λ e. clash k (g.top k h) e))
    where
      clash : (k : ℕ) → R k ≤ R i → suc (R i) ≡ R k → ⊥
      clash k h e = omega arith

  crown_grows : (r : ℕ) → rank_count (put R n (suc (R i))) (suc n) (suc r) + 0 ≤ rank_count (put R n (suc (R i))) (suc n) r - 1
  crown_grows r = go (same? r (R i)) (same? r (suc (R i)))
    where
      a : rank_count (put R n (suc (R i))) (suc n) (suc r) ≡ rank_count R n (suc r) + is (suc r) (suc (R i))
      a = rank_put R n (suc (R i)) (suc r)

      m : rank_count (put R n (suc (R i))) (suc n) r ≡ rank_count R n r + is r (suc (R i))
      m = rank_put R n (suc (R i)) r

      d : rank_count R n (suc r) + is (suc (R i)) (suc r) ≤ rank_count R n r - 1
      d = g.grows r

      go : (r ≡ R i) ⊎ (r ≢ R i) → (r ≡ suc (R i)) ⊎ (r ≢ suc (R i))
          → rank_count (put R n (suc (R i))) (suc n) (suc r) + 0 ≤ rank_count (put R n (suc (R i))) (suc n) r - 1
      go (inl e) q =
          let u : is (suc r) (suc (R i)) ≡ 1 = is_same (suc r) (suc (R i)) (ap suc e) in
          let v : is (suc (R i)) (suc r) ≡ 1 = is_same (suc (R i)) (suc r) (ap suc (sym e)) in
          let w : rank_count R n (suc r) ≡ 0 = ap (λ z. rank_count R n (suc z)) e ∙ none_above in
          let x = a in let x' = m in let x'' = d in
          omega arith
      go (inr e) q =
          let u : is (suc r) (suc (R i)) ≡ 0 = is_other (suc r) (suc (R i)) (λ z. e (suc_inj z)) in
          let x = a in let x' = m in let x'' = d in
          omega arith

  -- the links after it, no orphan left
  pub crowned_links : Links s B (suc n) n es (put R n (suc (R i))) nil nil nil
  crowned_links = record {
    root_in = omega arith;
    root_top = b.parent_n;
    kid = crown_kid;
    grounded = crown_ground;
    nodes_once = crown_nodes;
    entries_once = crown_entries;
    caps = crown_caps;
    filled = crown_filled;
    top = crown_top;
    grows = crown_grows;
  }

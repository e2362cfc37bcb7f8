-- A split of an over-full node, before its second half is listed: the links.
use Rattle.std.specs.Prelude.{ℕ, suc, ◌+◌, ◌-◌, ◌≤◌, ◌<◌, ◌≡◌, ◌⊎◌, ◌≢◌, Bool, List, length, None, Some}
use Rattle.std.proofs.lemmas.Option.{same_Some}
use Rattle.std.proofs.Math.Path.{refl, ap}
use Rattle.std.proofs.Common.{sym, ◌∙◌, subst, inl, inr, lt_irrefl, arith}
use Rattle.std.proofs.Math.Bool.{true, false, cond}
use Rattle.std.proofs.Math.Nat.{suc_inj}
use Rattle.head.specs.declared.Settings.{Settings}
use Rattle.rules.specs.Lists.{occurs}
use Rattle.rules.specs.Tree.{Node, cap}
use Rattle.counting.specs.Sums.{sum_to, sum-part}
use Rattle.counting.specs.Count.{is, is_same, is_other, below, below_suc, same?, lt_ne}
use Rattle.laws.specs.Invariant.Links.{Links, inner, held, leaf?, nil, rank_count, kid_in, rank_some, put, put-at, put_off, rank_put}

-- B is A with node i's list parted: one stays at i, two is at the new node n, and moved inner nodes name n as their parent
pub record Parts (A B : ℕ → Node) (i n : ℕ) (one two : List ℕ) : Type 0 where
  pub kids_i : (B i).list ≡ one
  pub kids_n : (B n).list ≡ two
  pub kids_o : (k : ℕ) → k ≢ i → k ≢ n → (B k).list ≡ (A k).list
  pub leaf_n : (B n).leaf ≡ (A i).leaf
  pub leaf_o : (k : ℕ) → k ≢ n → (B k).leaf ≡ (A k).leaf
  pub parent_n : (B n).parent ≡ (A i).parent
  pub parent_moved : (k : ℕ) → k < n → (A i).leaf ≡ false → 0 < occurs k two → (B k).parent ≡ Some n
  pub parent_kept : (k : ℕ) → k ≢ n → ((A i).leaf ≡ true) ⊎ (occurs k two ≡ 0) → (B k).parent ≡ (A k).parent
  pub both : (c : ℕ) → occurs c one + occurs c two ≡ occurs c (A i).list
  pub sizes : length one + length two ≡ length (A i).list
  pub one-some : 0 < length one
  pub two_some : 0 < length two

module _ {s : Settings} {A B : ℕ → Node} {n root es : ℕ} {R : ℕ → ℕ} {i : ℕ} {one two : List ℕ} (g : Links s A n root es R (is i) (is (R i)) nil) (l : i < n)
    (p : Parts A B i n one two) where
  -- which of the three a node is
  which : (k : ℕ) → k < suc n → (k ≡ i) ⊎ ((k ≡ n) ⊎ ((k < n) × (k ≢ i)))
  which k h = go (same? k i) (same? k n)
    where
      go : (k ≡ i) ⊎ (k ≢ i) → (k ≡ n) ⊎ (k ≢ n) → (k ≡ i) ⊎ ((k ≡ n) ⊎ ((k < n) × (k ≢ i)))
      go (inl e) q = inl e
      go (inr d) (inl e) = inr (inl e)
      go (inr d) (inr e) = inr (inr (omega arith, d))

  i_ne : i ≢ n
  i_ne = lt_ne i n l

  leaf_i : (B i).leaf ≡ (A i).leaf
  leaf_i = p.leaf_o i i_ne

  rank_at : (k : ℕ) → k < n → put R n (R i) k ≡ R k
  rank_at k h = put_off R n (R i) k (lt_ne k n h)

  torn_kid : (k c : ℕ) → k < suc n → (B k).leaf ≡ false → 0 < occurs c (B k).list → ((B c).parent ≡ Some k) × (put R n (R i) k ≡ suc (put R n (R i) c))
  torn_kid k c h f o = go (which k h)
    where
      go : (k ≡ i) ⊎ ((k ≡ n) ⊎ ((k < n) × (k ≢ i))) → ((B c).parent ≡ Some k) × (put R n (R i) k ≡ suc (put R n (R i) c))
      go (inl e) =
          let f' : (A i).leaf ≡ false = sym leaf_i ∙ ap (λ z. (B z).leaf) (sym e) ∙ f in
          let q : occurs c (B k).list ≡ occurs c one = ap (λ z. occurs c (B z).list) e ∙ ap (λ z. occurs c z) p.kids_i in
          let b : occurs c one + occurs c two ≡ occurs c (A i).list = p.both c in
          let m = kid_in g i c l f' (omega arith) in
          let w = g.kid i c l f' (omega arith) in
          let u : occurs c (A i).list ≡ 1 = m.1 in (
            p.parent_kept c (lt_ne c n m.0) (inr (omega arith)) ∙ w.0 ∙ ap (λ z. Some z) (sym e),
            ap (λ z. put R n (R i) z) e ∙ rank_at i l ∙ w.1 ∙ ap suc (sym (rank_at c m.0)),
          )
      go (inr (inl e)) =
          let f' : (A i).leaf ≡ false = sym p.leaf_n ∙ ap (λ z. (B z).leaf) (sym e) ∙ f in
          let q : occurs c (B k).list ≡ occurs c two = ap (λ z. occurs c (B z).list) e ∙ ap (λ z. occurs c z) p.kids_n in
          let b : occurs c one + occurs c two ≡ occurs c (A i).list = p.both c in
          let m = kid_in g i c l f' (omega arith) in
          let w = g.kid i c l f' (omega arith) in (
            p.parent_moved c m.0 f' (omega arith) ∙ ap (λ z. Some z) (sym e),
            ap (λ z. put R n (R i) z) e ∙ put-at R n (R i) ∙ w.1 ∙ ap suc (sym (rank_at c m.0)),
          )
      go (inr (inr e)) =
          let d : k ≢ n = lt_ne k n e.0 in
          let f' : (A k).leaf ≡ false = sym (p.leaf_o k d) ∙ f in
          let q : occurs c (B k).list ≡ occurs c (A k).list = ap (λ z. occurs c z) (p.kids_o k e.1 d) in
          let m = kid_in g k c e.0 f' (omega arith) in
          let w = g.kid k c e.0 f' (omega arith) in (
            p.parent_kept c (lt_ne c n m.0) (stay (leaf? (A i)) w.0) ∙ w.0,
            rank_at k e.0 ∙ w.1 ∙ ap suc (sym (rank_at c m.0)),
          )
        where
          stay : ((A i).leaf ≡ true) ⊎ ((A i).leaf ≡ false) → (A c).parent ≡ Some k → ((A i).leaf ≡ true) ⊎ (occurs c two ≡ 0)
          stay (inl t) w = inl t
          stay (inr t) w = inr (zero? (same? (occurs c two) 0))
            where
              zero? : (occurs c two ≡ 0) ⊎ (occurs c two ≢ 0) → occurs c two ≡ 0
              zero? (inl z) = z
              zero? (inr z) =
                  let b : occurs c one + occurs c two ≡ occurs c (A i).list = p.both c in
                  absurd (e.1 (same_Some k i (sym w ∙ (g.kid i c l t (omega arith)).0)))

  torn_ground : (k : ℕ) → k < suc n → (B k).leaf ≡ true → put R n (R i) k ≡ 0
  torn_ground k h f = go (which k h)
    where
      go : (k ≡ i) ⊎ ((k ≡ n) ⊎ ((k < n) × (k ≢ i))) → put R n (R i) k ≡ 0
      go (inl e) = ap (λ z. put R n (R i) z) e ∙ rank_at i l ∙ g.grounded i l (sym leaf_i ∙ ap (λ z. (B z).leaf) (sym e) ∙ f)
      go (inr (inl e)) = ap (λ z. put R n (R i) z) e ∙ put-at R n (R i) ∙ g.grounded i l (sym p.leaf_n ∙ ap (λ z. (B z).leaf) (sym e) ∙ f)
      go (inr (inr e)) = rank_at k e.0 ∙ g.grounded k e.0 (sym (p.leaf_o k (lt_ne k n e.0)) ∙ f)

  inner_o : (c k : ℕ) → k < n → k ≢ i → inner (B k) c ≡ inner (A k) c
  unfolding inner
  inner_o c k h d =
      ap (λ b. cond b 0 (occurs c (B k).list)) (p.leaf_o k (lt_ne k n h)) ∙ ap (λ z. cond (A k).leaf 0 (occurs c z)) (p.kids_o k d (lt_ne k n h))

  held_o : (c k : ℕ) → k < n → k ≢ i → held (B k) c ≡ held (A k) c
  unfolding held
  held_o c k h d =
      ap (λ b. cond b (occurs c (B k).list) 0) (p.leaf_o k (lt_ne k n h)) ∙ ap (λ z. cond (A k).leaf (occurs c z) 0) (p.kids_o k d (lt_ne k n h))

  -- the halves list what the node listed
  halves : (c : ℕ) → occurs c (B i).list + occurs c (B n).list ≡ occurs c (A i).list
  halves c = rw (p.kids_i, p.kids_n) (p.both c)

  inner_both : (c : ℕ) → inner (B i) c + inner (B n) c ≡ inner (A i) c
  unfolding inner
  inner_both c = rw (leaf_i, p.leaf_n) (go (A i).leaf)
    where
      go : (b : Bool) → cond b 0 (occurs c (B i).list) + cond b 0 (occurs c (B n).list) ≡ cond b 0 (occurs c (A i).list)
      go true = refl
      go false = halves c

  held_both : (c : ℕ) → held (B i) c + held (B n) c ≡ held (A i) c
  unfolding held
  held_both c = rw (leaf_i, p.leaf_n) (go (A i).leaf)
    where
      go : (b : Bool) → cond b (occurs c (B i).list) 0 + cond b (occurs c (B n).list) 0 ≡ cond b (occurs c (A i).list) 0
      go true = halves c
      go false = refl

  torn_nodes : (c : ℕ) → is c root + is n c + sum_to (λ k. inner (B k) c) (suc n) ≡ below c (suc n)
  torn_nodes c =
      let a : sum_to (λ k. inner (B k) c) (suc n) ≡ sum_to (λ k. inner (A k) c) n =
      sum-part (λ k. inner (A k) c) (λ k. inner (B k) c) i n l (λ k h d. inner_o c k h d) (inner_both c) in
      let b : is c root + 0 + sum_to (λ k. inner (A k) c) n ≡ below c n = g.nodes_once c in
      let d = below_suc c n in
      let e : is n c ≡ is c n = flipped (same? n c) in
      omega arith
    where
      flipped : (n ≡ c) ⊎ (n ≢ c) → is n c ≡ is c n
      flipped (inl e) = is_same n c e ∙ sym (is_same c n (sym e))
      flipped (inr e) = is_other n c e ∙ sym (is_other c n (λ z. e (sym z)))

  torn_entries : (c : ℕ) → sum_to (λ k. held (B k) c) (suc n) ≡ below c es
  torn_entries c = sum-part (λ k. held (A k) c) (λ k. held (B k) c) i n l (λ k h d. held_o c k h d) (held_both c) ∙ g.entries_once c

  torn_caps : (k : ℕ) → k < suc n → length (B k).list ≤ cap s (B k).leaf + 0
  torn_caps k h = go (which k h)
    where
      go : (k ≡ i) ⊎ ((k ≡ n) ⊎ ((k < n) × (k ≢ i))) → length (B k).list ≤ cap s (B k).leaf + 0
      go (inl e) =
          let a : length (B k).list ≡ length one = ap (λ z. length (B z).list) e ∙ ap (λ z. length z) p.kids_i in
          let b : cap s (B k).leaf ≡ cap s (A i).leaf = ap (λ z. cap s (B z).leaf) e ∙ ap (λ z. cap s z) leaf_i in
          let d : length (A i).list ≤ cap s (A i).leaf + is i i = g.caps i l in
          let u : is i i ≡ 1 = is_same i i refl in
          let m = p.sizes in
          let w = p.two_some in
          omega arith
      go (inr (inl e)) =
          let a : length (B k).list ≡ length two = ap (λ z. length (B z).list) e ∙ ap (λ z. length z) p.kids_n in
          let b : cap s (B k).leaf ≡ cap s (A i).leaf = ap (λ z. cap s (B z).leaf) e ∙ ap (λ z. cap s z) p.leaf_n in
          let d : length (A i).list ≤ cap s (A i).leaf + is i i = g.caps i l in
          let u : is i i ≡ 1 = is_same i i refl in
          let m = p.sizes in
          let w = p.one-some in
          omega arith
      go (inr (inr e)) =
          let q : k ≢ n = lt_ne k n e.0 in
          let a : length (B k).list ≡ length (A k).list = ap (λ z. length z) (p.kids_o k e.1 q) in
          let b : cap s (B k).leaf ≡ cap s (A k).leaf = ap (λ z. cap s z) (p.leaf_o k q) in
          let d : length (A k).list ≤ cap s (A k).leaf + is i k = g.caps k e.0 in
          let u : is i k ≡ 0 = is_other i k (λ z. e.1 (sym z)) in
          omega arith

  torn_filled : (k : ℕ) → k < suc n → 0 < length (B k).list
  torn_filled k h = go (which k h)
    where
      go : (k ≡ i) ⊎ ((k ≡ n) ⊎ ((k < n) × (k ≢ i))) → 0 < length (B k).list
      go (inl e) = subst (λ z. 0 < z) (sym (ap (λ z. length (B z).list) e ∙ ap (λ z. length z) p.kids_i)) p.one-some
      go (inr (inl e)) = subst (λ z. 0 < z) (sym (ap (λ z. length (B z).list) e ∙ ap (λ z. length z) p.kids_n)) p.two_some
      go (inr (inr e)) = subst (λ z. 0 < z) (sym (ap (λ z. length z) (p.kids_o k e.1 (lt_ne k n e.0)))) (g.filled k e.0)

  torn_top : (k : ℕ) → k < suc n → put R n (R i) k ≤ put R n (R i) root
  torn_top k h = go (which k h)
    where
      r : put R n (R i) root ≡ R root
      r = rank_at root g.root_in

      go : (k ≡ i) ⊎ ((k ≡ n) ⊎ ((k < n) × (k ≢ i))) → put R n (R i) k ≤ put R n (R i) root
      go (inl e) = let a : put R n (R i) k ≡ R i = ap (λ z. put R n (R i) z) e ∙ rank_at i l in let b = g.top i l in let d = r in omega arith
      go (inr (inl e)) = let a : put R n (R i) k ≡ R i = ap (λ z. put R n (R i) z) e ∙ put-at R n (R i) in let b = g.top i l in let d = r in omega arith
      go (inr (inr e)) = let a : put R n (R i) k ≡ R k = rank_at k e.0 in let b = g.top k e.0 in let d = r in omega arith

  torn_grows : (r : ℕ) → rank_count (put R n (R i)) (suc n) (suc r) + is (suc (R i)) (suc r) ≤ rank_count (put R n (R i)) (suc n) r - 1
  torn_grows r = go (same? (suc r) (R i)) (same? r (R i))
    where
      a : rank_count (put R n (R i)) (suc n) (suc r) ≡ rank_count R n (suc r) + is (suc r) (R i)
      a = rank_put R n (R i) (suc r)

      b : rank_count (put R n (R i)) (suc n) r ≡ rank_count R n r + is r (R i)
      b = rank_put R n (R i) r

      d : rank_count R n (suc r) + is (R i) (suc r) ≤ rank_count R n r - 1
      d = g.grows r

      go : (suc r ≡ R i) ⊎ (suc r ≢ R i) → (r ≡ R i) ⊎ (r ≢ R i) → rank_count (put R n (R i)) (suc n) (suc r) + is (suc (R i)) (suc r)
          ≤ rank_count (put R n (R i)) (suc n) r - 1
      go (inl e) q =
          let u : is (suc r) (R i) ≡ 1 = is_same (suc r) (R i) e in
          let v : is (R i) (suc r) ≡ 1 = is_same (R i) (suc r) (sym e) in
          let w : is (suc (R i)) (suc r) ≡ 0 = is_other (suc (R i)) (suc r) (λ z. lt_irrefl r (let y : suc (R i) ≡ suc r = z in omega arith)) in
          let m = a in let m' = b in let m'' = d in
          omega arith
      go (inr e) (inl q) =
          let u : is (suc r) (R i) ≡ 0 = is_other (suc r) (R i) e in
          let u' : is r (R i) ≡ 1 = is_same r (R i) q in
          let v : is (suc (R i)) (suc r) ≡ 1 = is_same (suc (R i)) (suc r) (ap suc (sym q)) in
          let w : 0 < rank_count R n r = subst (λ z. 0 < rank_count R n z) (sym q) (rank_some g i l) in
          let m = a in let m' = b in let m'' = d in
          omega arith
      go (inr e) (inr q) =
          let u : is (suc r) (R i) ≡ 0 = is_other (suc r) (R i) e in
          let u' : is r (R i) ≡ 0 = is_other r (R i) q in
          let v : is (suc (R i)) (suc r) ≡ 0 = is_other (suc (R i)) (suc r) (λ z. q (sym (suc_inj z))) in
          let m = a in let m' = b in let m'' = d in
          omega arith

  torn_root : (B root).parent ≡ None
  torn_root = p.parent_kept root (lt_ne root n g.root_in) (go (leaf? (A i))) ∙ g.root_top
    where
      go : ((A i).leaf ≡ true) ⊎ ((A i).leaf ≡ false) → ((A i).leaf ≡ true) ⊎ (occurs root two ≡ 0)
      go (inl t) = inl t
      go (inr t) = inr (zero? (same? (occurs root two) 0))
        where
          zero? : (occurs root two ≡ 0) ⊎ (occurs root two ≢ 0) → occurs root two ≡ 0
          zero? (inl z) = z
          zero? (inr z) =
              let b : occurs root one + occurs root two ≡ occurs root (A i).list = p.both root in
              absurd ((kid_in g i root l t (omega arith)).2 refl)

  -- the links after it, the second half an orphan
  pub torn_links : Links s B (suc n) root es (put R n (R i)) nil (is (suc (R i))) (is n)
  torn_links = record {
    root_in = (let h = g.root_in in omega arith);
    root_top = torn_root;
    kid = torn_kid;
    grounded = torn_ground;
    nodes_once = torn_nodes;
    entries_once = torn_entries;
    caps = torn_caps;
    filled = torn_filled;
    top = torn_top;
    grows = torn_grows;
  }

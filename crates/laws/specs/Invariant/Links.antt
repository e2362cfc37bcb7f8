-- The links of a tree as a local law with a rank for each node. The nodes are seen as a function from numbers.
use Rattle.std.specs.Prelude.{ℕ, suc, ◌+◌, ◌-◌, ◌≤◌, ◌<◌, ◌≡◌, ◌⊎◌, ◌≢◌, Bool, true, false, cond, eqb, length, None, Some}
use Rattle.std.proofs.lemmas.Option.{none-some, same_Some}
use Rattle.std.proofs.Math.Path.{refl}
use Rattle.std.proofs.Common.{sym, ap, ◌∙◌, subst, inl, inr, true≢false}
use native.Mathlib.Omega.{arith}
use Rattle.head.specs.declared.Settings.{Settings}
use Rattle.rules.specs.Tree.{Node, cap}
use Rattle.rules.specs.Lists.{occurs}
use Rattle.counting.specs.Count.{is, is_same, is_other, below, below_in, below-lt, below-le, same?, eq_test}
use Rattle.counting.specs.Sums.{sum_to, sum_same, sum-at, sum-some}

-- how often an inner node's list names c, and a leaf's
unfoldable pub inner : Node → ℕ → ℕ
inner m c = cond m.leaf 0 (occurs c m.list)

unfoldable pub held : Node → ℕ → ℕ
held m c = cond m.leaf (occurs c m.list) 0

-- how many of the first n nodes have rank r
unfoldable pub rank_count : (ℕ → ℕ) → ℕ → ℕ → ℕ
rank_count R n r = sum_to (λ k. is r (R k)) n

-- A: the nodes, n of them; es entries; R: the ranks. More than its cap by x at a node; less growth by y at a rank; o: nodes that no list names yet
pub record Links (s : Settings) (A : ℕ → Node) (n root es : ℕ) (R : ℕ → ℕ) (x y o : ℕ → ℕ) : Type 0 where
  pub root_in : root < n
  pub root_top : (A root).parent ≡ None
  pub kid : (i c : ℕ) → i < n → (A i).leaf ≡ false → 0 < occurs c (A i).list → ((A c).parent ≡ Some i) × (R i ≡ suc (R c))
  pub grounded : (i : ℕ) → i < n → (A i).leaf ≡ true → R i ≡ 0
  pub nodes_once : (c : ℕ) → is c root + o c + sum_to (λ i. inner (A i) c) n ≡ below c n
  pub entries_once : (c : ℕ) → sum_to (λ i. held (A i) c) n ≡ below c es
  pub caps : (i : ℕ) → i < n → length (A i).list ≤ cap s (A i).leaf + x i
  pub filled : (i : ℕ) → i < n → 0 < length (A i).list
  pub top : (i : ℕ) → i < n → R i ≤ R root
  pub grows : (r : ℕ) → rank_count R n (suc r) + y (suc r) ≤ rank_count R n r - 1

abbrev pub nil : ℕ → ℕ
nil k = 0

pub inner_no : (m : Node) (c : ℕ) → m.leaf ≡ true → inner m c ≡ 0
unfolding inner
inner_no m c e = ap (λ b. cond b 0 (occurs c m.list)) e

pub inner_yes : (m : Node) (c : ℕ) → m.leaf ≡ false → inner m c ≡ occurs c m.list
unfolding inner
inner_yes m c e = ap (λ b. cond b 0 (occurs c m.list)) e

pub held_no : (m : Node) (c : ℕ) → m.leaf ≡ false → held m c ≡ 0
unfolding held
held_no m c e = ap (λ b. cond b (occurs c m.list) 0) e

pub held_yes : (m : Node) (c : ℕ) → m.leaf ≡ true → held m c ≡ occurs c m.list
unfolding held
held_yes m c e = ap (λ b. cond b (occurs c m.list) 0) e

pub leaf? : (m : Node) → (m.leaf ≡ true) ⊎ (m.leaf ≡ false)
leaf? m = go m.leaf refl
  where
    go : (b : Bool) → m.leaf ≡ b → (m.leaf ≡ true) ⊎ (m.leaf ≡ false)
    go true e = inl e
    go false e = inr e

pub not_both : (b : Bool) → b ≡ true → b ≡ false → ⊥
not_both b p q = true≢false (sym p ∙ q)

module _ {s : Settings} {A : ℕ → Node} {n root es : ℕ} {R x y o : ℕ → ℕ} (g : Links s A n root es R x y o) where
  -- a kid of an inner node is a node, listed there once, not the root
  pub kid_in : (i c : ℕ) → i < n → (A i).leaf ≡ false → 0 < occurs c (A i).list → (c < n) × (occurs c (A i).list ≡ 1) × (c ≢ root) × (o c ≡ 0)
  kid_in i c l f h =
      let a : inner (A i) c ≡ occurs c (A i).list = inner_yes (A i) c f in
      let b : inner (A i) c ≤ sum_to (λ k. inner (A k) c) n = sum-at (λ k. inner (A k) c) i n l in
      let d : is c root + o c + sum_to (λ i. inner (A i) c) n ≡ below c n = g.nodes_once c in
      let e : below c n ≤ 1 = below-le c n in
      (below-lt c n (omega arith), omega arith, (λ q. never (is_same c root q)), omega arith)
    where
      never : is c root ≡ 1 → ⊥
      never q =
          let a : inner (A i) c ≡ occurs c (A i).list = inner_yes (A i) c f in
          let b : inner (A i) c ≤ sum_to (λ k. inner (A k) c) n = sum-at (λ k. inner (A k) c) i n l in
          let d : is c root + o c + sum_to (λ i. inner (A i) c) n ≡ below c n = g.nodes_once c in
          let e : below c n ≤ 1 = below-le c n in
          omega arith

  -- whom no list names is the root
  pub lister : (c : ℕ) → c < n → c ≢ root → o c ≡ 0 → (i : ℕ) × (i < n) × ((A i).leaf ≡ false) × (occurs c (A i).list ≡ 1)
  lister c l d z =
      let a : is c root ≡ 0 = is_other c root d in
      let b : is c root + o c + sum_to (λ i. inner (A i) c) n ≡ below c n = g.nodes_once c in
      let e : below c n ≡ 1 = below_in c n l in
      let r = sum-some (λ k. inner (A k) c) n (omega arith) in
      let q = go r.0 r.1 r.2 (leaf? (A r.0)) in
      (r.0, r.1, q.0, q.1)
    where
      go : (i : ℕ) → i < n → 0 < inner (A i) c → ((A i).leaf ≡ true) ⊎ ((A i).leaf ≡ false) → ((A i).leaf ≡ false) × (occurs c (A i).list ≡ 1)
      go i l h (inl e) = let q = inner_no (A i) c e in absurd (omega arith)
      go i l h (inr e) = let q = inner_yes (A i) c e in (e, (kid_in i c l e (omega arith)).1)

  -- a node that names a parent is in its list
  pub parent_lists : (c p : ℕ) → c < n → o c ≡ 0 → (A c).parent ≡ Some p → (p < n) × ((A p).leaf ≡ false) × (occurs c (A p).list ≡ 1) × (R p ≡ suc (R c))
  parent_lists c p l z e =
      let r = lister c l (λ q. none-some p (sym g.root_top ∙ ap (λ k. (A k).parent) (sym q) ∙ e)) z in
      let k = g.kid r.0 c r.1 r.2 (let q = r.3 in omega arith) in
      let ip : r.0 ≡ p = same_Some r.0 p (sym k.0 ∙ e) in (
        subst (λ j. j < n) ip r.1,
        subst (λ j. (A j).leaf ≡ false) ip r.2,
        subst (λ j. occurs c (A j).list ≡ 1) ip r.3,
        subst (λ j. R j ≡ suc (R c))
            ip k.1,
      )

  pub no_parent_lem : (c : ℕ) → c < n → o c ≡ 0 → (A c).parent ≡ None → c ≡ root
  no_parent_lem c l z e = go (same? c root)
    where
      go : (c ≡ root) ⊎ (c ≢ root) → c ≡ root
      go (inl q) = q
      go (inr q) =
          let r = lister c l q z in
          let k = g.kid r.0 c r.1 r.2 (let q = r.3 in omega arith) in
          absurd (none-some r.0 (sym e ∙ k.0))

  pub rank_some : (c : ℕ) → c < n → 0 < rank_count R n (R c)
  unfolding rank_count
  rank_some c l =
      let a : is (R c) (R c) ≤ sum_to (λ k. is (R c) (R k)) n = sum-at (λ k. is (R c) (R k)) c n l in
      let b : is (R c) (R c) ≡ 1 = is_same (R c) (R c) refl in
      omega arith

-- ---- a function changed at one place

unfoldable pub put : (ℕ → ℕ) → ℕ → ℕ → ℕ → ℕ
put R n v k = cond (eqb k n) v (R k)

pub put-at : (R : ℕ → ℕ) (n v : ℕ) → put R n v n ≡ v
unfolding put
put-at R n v = go (eqb n n) refl
  where
    go : (b : Bool) → eqb n n ≡ b → cond b v (R n) ≡ v
    go true e = refl
    go false e = absurd ((eq_test n n false e).1 refl refl)

pub put_off : (R : ℕ → ℕ) (n v k : ℕ) → k ≢ n → put R n v k ≡ R k
unfolding put
put_off R n v k h = go (eqb k n) refl
  where
    go : (b : Bool) → eqb k n ≡ b → cond b v (R k) ≡ R k
    go true e = absurd (h ((eq_test k n true e).0 refl))
    go false e = refl

-- one more node, of rank v
pub rank_put : (R : ℕ → ℕ) (n v r : ℕ) → rank_count (put R n v) (suc n) r ≡ rank_count R n r + is r v
unfolding rank_count sum_to
rank_put R n v r =
    let a : sum_to (λ k. is r (put R n v k)) n ≡ sum_to (λ k. is r (R k)) n =
    sum_same (λ k. is r (R k)) (λ k. is r (put R n v k)) n (λ k l. ap (λ q. is r q) (put_off R n v k (λ e. differ k l e))) in
    let b : is r (put R n v n) ≡ is r v = ap (λ q. is r q) (put-at R n v) in
    omega arith
  where
    differ : (k : ℕ) → k < n → k ≡ n → ⊥
    differ k l e = omega arith

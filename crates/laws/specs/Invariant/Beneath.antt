-- Sums over a whole tree: over all lists, and over the nodes beneath one.
use Prim.Native.Nat.{ℕ, zero, suc, ◌+◌, ◌*◌, ◌≤◌, ◌<◌}
use Rattle.std.specs.Prelude.{◌≡◌, ◌⊎◌, ◌≢◌, Bool, true, not, cond, T, ltb, Some}
use Rattle.std.proofs.Math.Path.{refl, ap}
use Rattle.std.proofs.Common.{sym, ◌∙◌, inl, inr, zero-mul, one-mul, ltb→lt, nltb→le}
use Rattle.std.proofs.Math.Bool.{false}
use native.Mathlib.Omega.{arith}
use Rattle.head.specs.declared.Settings.{Settings}
use Rattle.rules.specs.Tree.{Node}
use Rattle.rules.specs.Lists.{occurs}
use Rattle.counting.specs.Count.{is, is_same, is_other, below, below_in, below-lt, same?, lt?}
use Rattle.counting.specs.Sums.{over, over-same, sum_to, sum_same, sum-at, sum-none, sum-some, over_zero}
use Rattle.laws.specs.Invariant.Height.{sum_swap}
use Rattle.laws.specs.Invariant.Links.{Links, inner, held, inner_no, inner_yes, held_no, held_yes, leaf?, nil}
use Rattle.counting.specs.Only.{only, only_at, only_off}
use Rattle.counting.specs.Totals.{sum_plus, sum-only, over-sum, sum-times}

-- the links without caps, filling and growth
pub record Frame (A : ℕ → Node) (n root es : ℕ) (R : ℕ → ℕ) : Type 0 where
  pub root_in : root < n
  pub kid : (i c : ℕ) → i < n → (A i).leaf ≡ false → 0 < occurs c (A i).list → ((A c).parent ≡ Some i) × (R i ≡ suc (R c))
  pub grounded : (i : ℕ) → i < n → (A i).leaf ≡ true → R i ≡ 0
  pub nodes_once : (c : ℕ) → is c root + sum_to (λ i. inner (A i) c) n ≡ below c n
  pub entries_once : (c : ℕ) → sum_to (λ i. held (A i) c) n ≡ below c es
  pub top : (i : ℕ) → i < n → R i ≤ R root

pub frame-of : (s : Settings) (A : ℕ → Node) (n root es : ℕ) (R x y : ℕ → ℕ) → Links s A n root es R x y nil → Frame A n root es R
frame-of s A n root es R x y g = record {
  root_in = g.root_in;
  kid = g.kid;
  grounded = g.grounded;
  nodes_once = (λ c. let a = g.nodes_once c in omega arith);
  entries_once = g.entries_once;
  top = g.top;
}

module _ {A : ℕ → Node} {n root es : ℕ} {R : ℕ → ℕ} (g : Frame A n root es R) where
  pub kid_below : (i c : ℕ) → i < n → (A i).leaf ≡ false → 0 < occurs c (A i).list → c < n
  kid_below i c l f o =
      let a : inner (A i) c ≡ occurs c (A i).list = inner_yes (A i) c f in
      let b = sum-at (λ k. inner (A k) c) i n l in
      let d = g.nodes_once c in
      below-lt c n (omega arith)

  pub entry_below : (i c : ℕ) → i < n → (A i).leaf ≡ true → 0 < occurs c (A i).list → c < es
  entry_below i c l f o =
      let a : held (A i) c ≡ occurs c (A i).list = held_yes (A i) c f in
      let b = sum-at (λ k. held (A k) c) i n l in
      let d = g.entries_once c in
      below-lt c es (omega arith)

  inner-over : (v : ℕ → ℕ) (k : ℕ) → k < n → cond (A k).leaf 0 (over v (A k).list) ≡ sum_to (λ c. inner (A k) c * v c) n
  inner-over v k l = go (leaf? (A k))
    where
      go : ((A k).leaf ≡ true) ⊎ ((A k).leaf ≡ false) → cond (A k).leaf 0 (over v (A k).list) ≡ sum_to (λ c. inner (A k) c * v c) n
      go (inl f) =
          ap (λ b. cond b 0 (over v (A k).list)) f
          ∙ sym (sum-none (λ c. inner (A k) c * v c) n (λ c q. ap (λ z. z * v c) (inner_no (A k) c f) ∙ zero-mul (v c)))
      go (inr f) =
          ap (λ b. cond b 0 (over v (A k).list)) f ∙ over-sum v n (A k).list (λ c o. kid_below k c l f o)
          ∙ sum_same (λ c. inner (A k) c * v c) (λ c. occurs c (A k).list * v c) n (λ c q. ap (λ z. z * v c) (sym (inner_yes (A k) c f)))

  leaf-over : (v : ℕ → ℕ) (k : ℕ) → k < n → cond (A k).leaf (over v (A k).list) 0 ≡ sum_to (λ c. held (A k) c * v c) es
  leaf-over v k l = go (leaf? (A k))
    where
      go : ((A k).leaf ≡ true) ⊎ ((A k).leaf ≡ false) → cond (A k).leaf (over v (A k).list) 0 ≡ sum_to (λ c. held (A k) c * v c) es
      go (inr f) =
          ap (λ b. cond b (over v (A k).list) 0) f
          ∙ sym (sum-none (λ c. held (A k) c * v c) es (λ c q. ap (λ z. z * v c) (held_no (A k) c f) ∙ zero-mul (v c)))
      go (inl f) =
          ap (λ b. cond b (over v (A k).list) 0) f ∙ over-sum v es (A k).list (λ c o. entry_below k c l f o)
          ∙ sum_same (λ c. held (A k) c * v c) (λ c. occurs c (A k).list * v c) es (λ c q. ap (λ z. z * v c) (sym (held_yes (A k) c f)))

  -- v over all leaves' lists is v over the entries
  pub leaves_sum : (v : ℕ → ℕ) → sum_to (λ k. cond (A k).leaf (over v (A k).list) 0) n ≡ sum_to v es
  leaves_sum v =
      sum_same (λ k. sum_to (λ c. held (A k) c * v c) es) (λ k. cond (A k).leaf (over v (A k).list) 0) n (λ k q. leaf-over v k q)
      ∙ sum_swap (λ k c. held (A k) c * v c) n es
      ∙ sum_same v (λ c. sum_to (λ k. held (A k) c * v c) n) es (λ c q. sum-times (λ k. held (A k) c) (v c) n
      ∙ ap (λ z. z * v c) (g.entries_once c ∙ below_in c es q) ∙ one-mul (v c))

  -- v over all inner nodes' lists, and the root's, is v over the nodes
  pub inners_sum : (v : ℕ → ℕ) → v root + sum_to (λ k. cond (A k).leaf 0 (over v (A k).list)) n ≡ sum_to v n
  inners_sum v =
      let a : sum_to (λ k. cond (A k).leaf 0 (over v (A k).list)) n ≡ sum_to (λ c. sum_to (λ k. inner (A k) c) n * v c) n =
      sum_same (λ k. sum_to (λ c. inner (A k) c * v c) n) (λ k. cond (A k).leaf 0 (over v (A k).list)) n (λ k q. inner-over v k q)
      ∙ sum_swap (λ k c. inner (A k) c * v c) n n
      ∙ sum_same (λ c. sum_to (λ k. inner (A k) c) n * v c) (λ c. sum_to (λ k. inner (A k) c * v c) n) n (λ c q. sum-times (λ k. inner (A k) c) (v c) n) in
      let b : sum_to (λ c. only (v root) root c + sum_to (λ k. inner (A k) c) n * v c) n ≡ sum_to v n =
      sum_same v (λ c. only (v root) root c + sum_to (λ k. inner (A k) c) n * v c) n (λ c q. each c q (same? c root)) in
      let d = sum_plus (λ c. only (v root) root c) (λ c. sum_to (λ k. inner (A k) c) n * v c) n in
      let e = sum-only (v root) root n g.root_in in
      omega arith
    where
      each : (c : ℕ) → c < n → (c ≡ root) ⊎ (c ≢ root) → only (v root) root c + sum_to (λ k. inner (A k) c) n * v c ≡ v c
      each c q (inl e) =
          let a : sum_to (λ k. inner (A k) c) n ≡ 0 = (let x = g.nodes_once c in let y = below_in c n q in let z = is_same c root e in omega arith) in
          let b : sum_to (λ k. inner (A k) c) n * v c ≡ 0 = ap (λ z. z * v c) a ∙ zero-mul (v c) in
          let d = only_at (v root) root c e in
          let f : v root ≡ v c = ap v (sym e) in
          omega arith
      each c q (inr e) =
          let a : sum_to (λ k. inner (A k) c) n ≡ 1 = (let x = g.nodes_once c in let y = below_in c n q in let z = is_other c root e in omega arith) in
          let b : sum_to (λ k. inner (A k) c) n * v c ≡ v c = ap (λ z. z * v c) a ∙ one-mul (v c) in
          let d = only_off (v root) root c e in
          omega arith

-- ---- the sum over all beneath a node, h levels down

unfoldable pub deep : (ℕ → Node) → (ℕ → ℕ) → ℕ → ℕ → ℕ
deep A f zero m = f m
deep A f (suc h) m = f m + cond (A m).leaf 0 (over (deep A f h) (A m).list)

-- v where h is below r
unfoldable pub higher : ℕ → ℕ → ℕ → ℕ
higher v h r = cond (ltb h r) v 0

higher_yes : (v h r : ℕ) → h < r → higher v h r ≡ v
unfolding higher
higher_yes v h r l = go (ltb h r) (nltb→le h r)
  where
    go : (b : Bool) → (T (not b) → r ≤ h) → cond b v 0 ≡ v
    go true f = refl
    go false f = let q = f tt in absurd (omega arith)

higher_no : (v h r : ℕ) → r ≤ h → higher v h r ≡ 0
unfolding higher
higher_no v h r l = go (ltb h r) (ltb→lt h r)
  where
    go : (b : Bool) → (T b → h < r) → cond b v 0 ≡ 0
    go true f = let q = f tt in absurd (omega arith)
    go false f = refl

module _ {A : ℕ → Node} {n root es : ℕ} {R : ℕ → ℕ} (g : Frame A n root es R) (f : ℕ → ℕ) where
  -- the nodes of rank h with all beneath them, and each node above by itself
  unfoldable pub part : ℕ → ℕ → ℕ
  part h k = only (deep A f h k) h (R k) + higher (f k) h (R k)

  start : (k : ℕ) → part 0 k ≡ f k
  unfolding part deep
  start k = go (same? (R k) 0)
    where
      go : (R k ≡ 0) ⊎ (R k ≢ 0) → only (deep A f 0 k) 0 (R k) + higher (f k) 0 (R k) ≡ f k
      go (inl e) = let a = only_at (f k) 0 (R k) e in let b = higher_no (f k) 0 (R k) (omega arith) in omega arith
      go (inr e) = let a = only_off (f k) 0 (R k) e in let b = higher_yes (f k) 0 (R k) (omega arith) in omega arith

  -- the next level: what its lists name is the level below
  step_up : (h k : ℕ) → k < n → part (suc h) k ≡ higher (f k) h (R k) + cond (A k).leaf 0 (over (λ m. only (deep A f h m) h (R m)) (A k).list)
  unfolding part deep
  step_up h k l = go (same? (R k) (suc h)) (leaf? (A k))
    where
      lists : (A k).leaf ≡ false → R k ≡ suc h → over (λ m. only (deep A f h m) h (R m)) (A k).list ≡ over (deep A f h) (A k).list
      lists u e =
          over-same (λ m. only (deep A f h m) h (R m)) (deep A f h) (A k).list
          (λ c o. only_at (deep A f h c) h (R c) (let q = (g.kid k c l u o).1 in omega arith))

      none_of : (A k).leaf ≡ false → R k ≢ suc h → over (λ m. only (deep A f h m) h (R m)) (A k).list ≡ 0
      none_of u e =
          over-same (λ m. only (deep A f h m) h (R m)) (λ _. 0) (A k).list (λ c o. only_off (deep A f h c) h (R c) (λ z. e ((g.kid k c l u o).1 ∙ ap suc z)))
          ∙ over_zero (A k).list

      high : higher (f k) (suc h) (R k) + only (f k) (suc h) (R k) ≡ higher (f k) h (R k)
      high = by (same? (R k) (suc h)) (lt? h (R k))
        where
          by : (R k ≡ suc h) ⊎ (R k ≢ suc h) → (h < R k) ⊎ (R k ≤ h) → higher (f k) (suc h) (R k) + only (f k) (suc h) (R k) ≡ higher (f k) h (R k)
          by (inl e) q =
              let a = higher_no (f k) (suc h) (R k) (omega arith) in
              let b = only_at (f k) (suc h) (R k) e in
              let c = higher_yes (f k) h (R k) (omega arith) in
              omega arith
          by (inr e) (inl q) =
              let a = higher_yes (f k) (suc h) (R k) (omega arith) in
              let b = only_off (f k) (suc h) (R k) e in
              let c = higher_yes (f k) h (R k) q in
              omega arith
          by (inr e) (inr q) =
              let a = higher_no (f k) (suc h) (R k) (omega arith) in
              let b = only_off (f k) (suc h) (R k) e in
              let c = higher_no (f k) h (R k) q in
              omega arith

      go : (R k ≡ suc h) ⊎ (R k ≢ suc h) → ((A k).leaf ≡ true) ⊎ ((A k).leaf ≡ false)
          → only (f k + cond (A k).leaf 0 (over (deep A f h) (A k).list)) (suc h) (R k) + higher (f k) (suc h) (R k)
          ≡ higher (f k) h (R k) + cond (A k).leaf 0 (over (λ m. only (deep A f h m) h (R m)) (A k).list)
      go (inl e) (inl u) = let z = g.grounded k l u in absurd (omega arith)
      go (inl e) (inr u) =
          let a = only_at (f k + cond (A k).leaf 0 (over (deep A f h) (A k).list)) (suc h) (R k) e in
          let b = only_at (f k) (suc h) (R k) e in
          let c : cond (A k).leaf 0 (over (deep A f h) (A k).list) ≡ over (deep A f h) (A k).list = ap (λ b. cond b 0 (over (deep A f h) (A k).list)) u in
          let d : cond (A k).leaf 0 (over (λ m. only (deep A f h m) h (R m)) (A k).list) ≡ over (deep A f h) (A k).list =
          ap (λ b. cond b 0 (over (λ m. only (deep A f h m) h (R m)) (A k).list)) u ∙ lists u e in
          let x = high in
          omega arith
      go (inr e) (inl u) =
          let a = only_off (f k + cond (A k).leaf 0 (over (deep A f h) (A k).list)) (suc h) (R k) e in
          let b = only_off (f k) (suc h) (R k) e in
          let d : cond (A k).leaf 0 (over (λ m. only (deep A f h m) h (R m)) (A k).list) ≡ 0 =
          ap (λ b. cond b 0 (over (λ m. only (deep A f h m) h (R m)) (A k).list)) u in
          let x = high in
          omega arith
      go (inr e) (inr u) =
          let a = only_off (f k + cond (A k).leaf 0 (over (deep A f h) (A k).list)) (suc h) (R k) e in
          let b = only_off (f k) (suc h) (R k) e in
          let d : cond (A k).leaf 0 (over (λ m. only (deep A f h m) h (R m)) (A k).list) ≡ 0 =
          ap (λ b. cond b 0 (over (λ m. only (deep A f h m) h (R m)) (A k).list)) u ∙ none_of u e in
          let x = high in
          omega arith

  pub all_parts : (h : ℕ) → h ≤ R root → sum_to (part h) n ≡ sum_to f n
  all_parts zero l = sum_same f (part 0) n (λ k q. start k)
  all_parts (suc h) l =
      let a : sum_to (part (suc h)) n ≡ sum_to (λ k. higher (f k) h (R k) + cond (A k).leaf 0 (over (λ m. only (deep A f h m) h (R m)) (A k).list)) n =
      sum_same (λ k. higher (f k) h (R k) + cond (A k).leaf 0 (over (λ m. only (deep A f h m) h (R m)) (A k).list)) (part (suc h)) n (λ k q. step_up h k q) in
      let b = sum_plus (λ k. higher (f k) h (R k)) (λ k. cond (A k).leaf 0 (over (λ m. only (deep A f h m) h (R m)) (A k).list)) n in
      let c = inners_sum g (λ m. only (deep A f h m) h (R m)) in
      let d : only (deep A f h root) h (R root) ≡ 0 = only_off (deep A f h root) h (R root) (differ l) in
      let e : sum_to (part h) n ≡ sum_to (λ m. only (deep A f h m) h (R m)) n + sum_to (λ k. higher (f k) h (R k)) n = opened h in
      let i = all_parts h (omega arith) in
      omega arith
    where
      differ : suc h ≤ R root → R root ≢ h
      differ l e = omega arith

      opened : (h : ℕ) → sum_to (part h) n ≡ sum_to (λ m. only (deep A f h m) h (R m)) n + sum_to (λ k. higher (f k) h (R k)) n
      opened h = unfold part in sum_plus (λ m. only (deep A f h m) h (R m)) (λ k. higher (f k) h (R k)) n

  -- only the root has the top rank
  pub alone : (k : ℕ) → k < n → R k ≡ R root → k ≡ root
  alone k l e = go (same? k root)
    where
      go : (k ≡ root) ⊎ (k ≢ root) → k ≡ root
      go (inl q) = q
      go (inr q) = absurd (never (same? (sum_to (λ i. inner (A i) k) n) 0))
        where
          never : (sum_to (λ i. inner (A i) k) n ≡ 0) ⊎ (sum_to (λ i. inner (A i) k) n ≢ 0) → ⊥
          never (inl z) = let a = g.nodes_once k in let b = below_in k n l in let c = is_other k root q in omega arith
          never (inr z) =
              let r = sum-some (λ i. inner (A i) k) n (omega arith) in
              by r.0 r.1 r.2 (leaf? (A r.0))
            where
              by : (i : ℕ) → i < n → 0 < inner (A i) k → ((A i).leaf ≡ true) ⊎ ((A i).leaf ≡ false) → ⊥
              by i li o (inl u) = let w = inner_no (A i) k u in omega arith
              by i li o (inr u) = let w = inner_yes (A i) k u in let x = (g.kid i k li u (omega arith)).1 in let y = g.top i li in omega arith

  -- all beneath the root is all
  pub deep_root : deep A f (R root) root ≡ sum_to f n
  unfolding part
  deep_root =
      let a : sum_to (λ k. only (deep A f (R root) k) (R root) (R k) + higher (f k) (R root) (R k)) n ≡ sum_to f n = all_parts (R root) (omega arith) in
      let b : sum_to (λ k. only (deep A f (R root) k) (R root) (R k) + higher (f k) (R root) (R k)) n ≡ sum_to (λ k. only (deep A f (R root) root) root k) n =
      sum_same (λ k. only (deep A f (R root) root) root k) (λ k. only (deep A f (R root) k) (R root) (R k) + higher (f k) (R root) (R k)) n
      (λ k q. each k q (same? k root)) in
      let c = sum-only (deep A f (R root) root) root n g.root_in in
      omega arith
    where
      each : (k : ℕ) → k < n → (k ≡ root) ⊎ (k ≢ root) → only (deep A f (R root) k) (R root) (R k) + higher (f k) (R root) (R k)
          ≡ only (deep A f (R root) root) root k
      each k q (inl e) =
          let a = only_at (deep A f (R root) k) (R root) (R k) (ap R e) in
          let b = higher_no (f k) (R root) (R k) (g.top k q) in
          let c = only_at (deep A f (R root) root) root k e in
          let d : deep A f (R root) k ≡ deep A f (R root) root = ap (λ z. deep A f (R root) z) e in
          omega arith
      each k q (inr e) =
          let a = only_off (deep A f (R root) k) (R root) (R k) (λ z. e (alone k q z)) in
          let b = higher_no (f k) (R root) (R k) (g.top k q) in
          let c = only_off (deep A f (R root) root) root k e in
          omega arith

  -- what is beneath one node is at most all
  pub deep-le : (k : ℕ) → k < n → deep A f (R k) k ≤ sum_to f n
  unfolding part
  deep-le k l =
      let a : sum_to (λ k'. only (deep A f (R k) k') (R k) (R k') + higher (f k') (R k) (R k')) n ≡ sum_to f n = all_parts (R k) (g.top k l) in
      let b = sum-at (λ k'. only (deep A f (R k) k') (R k) (R k') + higher (f k') (R k) (R k')) k n l in
      let c = only_at (deep A f (R k) k) (R k) (R k) refl in
      omega arith

-- Ranks are fewer than nodes, and e entries need at most e(e+1)/2 nodes.
use Prim.Native.Nat.{ℕ, zero, suc, ◌+◌, ◌-◌, ◌*◌, ◌≤◌, ◌<◌}
use Rattle.std.specs.Prelude.{◌≡◌, refl, ◌⊎◌, ◌≢◌, true, false}
use Rattle.std.proofs.Common.{sym, ap, ◌∙◌, subst, inl, inr}
use native.Mathlib.Omega.{arith}
use Rattle.head.specs.declared.Settings.{Settings}
use Rattle.rules.specs.Tree.{Node}
use Rattle.rules.specs.Lists.{occurs}
use Rattle.counting.specs.Count.{is, is_other, is_le, below, below_in, below-lt, below-le, below_out, below_suc, same?}
use Rattle.counting.specs.Sums.{sum_to, sum_same, sum-at, sum-none, is_sym, sum_ones, first_of}
use Rattle.laws.specs.Invariant.Links.{Links, held, held_yes, leaf?, rank_count, rank_some}

sum-add : (f g : ℕ → ℕ) (n : ℕ) → sum_to (λ k. f k + g k) n ≡ sum_to f n + sum_to g n
unfolding sum_to
sum-add f g zero = refl
sum-add f g (suc n) = let h = sum-add f g n in omega arith

pub sum-le : (f g : ℕ → ℕ) (n : ℕ) → ((k : ℕ) → k < n → f k ≤ g k) → sum_to f n ≤ sum_to g n
unfolding sum_to
sum-le f g zero h = omega arith
sum-le f g (suc n) h = let a = sum-le f g n (λ k q. h k (omega arith)) in let b = h n (omega arith) in omega arith

pub sum_swap : (f : ℕ → ℕ → ℕ) (m n : ℕ) → sum_to (λ i. sum_to (λ j. f i j) n) m ≡ sum_to (λ j. sum_to (λ i. f i j) m) n
unfolding sum_to
sum_swap f zero n = sym (sum-none (λ j. 0) n (λ k q. refl))
sum_swap f (suc m) n =
    ap (λ z. z + sum_to (λ j. f m j) n) (sum_swap f m n)
    ∙ sym (sum-add (λ j. sum_to (λ i. f i j) m) (λ j. f m j) n)

is_below : (v m : ℕ) → sum_to (λ r. is r v) m ≡ below v m
unfolding sum_to
is_below v zero = sym (below_out v 0 (omega arith))
is_below v (suc m) = let a = is_below v m in let b = below_suc v m in let c = is_sym m v in omega arith

-- the nodes counted level by level
pub levels-sum : (R : ℕ → ℕ) (n m : ℕ) → sum_to (λ r. rank_count R n r) m ≡ sum_to (λ k. below (R k) m) n
unfolding rank_count
levels-sum R n m = sum_swap (λ r k. is r (R k)) m n ∙ sum_same (λ k. below (R k) m) (λ k. sum_to (λ r. is r (R k)) m) n (λ k q. is_below (R k) m)

module _ {s : Settings} {A : ℕ → Node} {n root es : ℕ} {R x y o : ℕ → ℕ} (g : Links s A n root es R x y o) where
  -- no level below the root's is empty
  pub levels-some : (d r : ℕ) → r + d ≡ R root → 0 < rank_count R n r
  levels-some zero r e = subst (λ z. 0 < rank_count R n z) (let q : R root ≡ r = omega arith in q) (rank_some g root g.root_in)
  levels-some (suc d) r e = let h = levels-some d (suc r) (omega arith) in let q = g.grows r in omega arith

  levels_many : (m : ℕ) → m ≤ suc (R root) → m ≤ sum_to (λ r. rank_count R n r) m
  unfolding sum_to
  levels_many zero h = omega arith
  levels_many (suc m) h = let a = levels_many m (omega arith) in let b = levels-some (R root - m) m (omega arith) in omega arith

  pub height : R root < n
  height =
      let a = levels_many (suc (R root)) (omega arith) in
      let b = levels-sum R n (suc (R root)) in
      let c : sum_to (λ k. below (R k) (suc (R root))) n ≤ sum_to (λ _. 1) n =
      sum-le (λ k. below (R k) (suc (R root))) (λ _. 1) n (λ k q. below-le (R k) (suc (R root))) in
      let d = sum_ones n in
      omega arith

  levels-all : sum_to (λ r. rank_count R n r) (suc (R root)) ≡ n
  levels-all =
      levels-sum R n (suc (R root))
      ∙ sum_same (λ _. 1) (λ k. below (R k) (suc (R root))) n (λ k q. below_in (R k) (suc (R root)) (let h = g.top k q in omega arith))
      ∙ sum_ones n

  -- a rank 0 node is a leaf, and holds an entry
  pub rank_zero : (k : ℕ) → k < n → R k ≡ 0 → (A k).leaf ≡ true
  rank_zero k l e = go (leaf? (A k))
    where
      go : ((A k).leaf ≡ true) ⊎ ((A k).leaf ≡ false) → (A k).leaf ≡ true
      go (inl t) = t
      go (inr t) = let c = first_of (A k).list (g.filled k l) in let q = (g.kid k c.0 l t c.1).1 in absurd (omega arith)

  holds_one : (k : ℕ) → k < n → is 0 (R k) ≤ sum_to (λ c. held (A k) c) es
  holds_one k l = go (same? 0 (R k))
    where
      go : (0 ≡ R k) ⊎ (0 ≢ R k) → is 0 (R k) ≤ sum_to (λ c. held (A k) c) es
      go (inr d) = let a = is_other 0 (R k) d in omega arith
      go (inl e) =
          let t : (A k).leaf ≡ true = rank_zero k l (sym e) in
          let c = first_of (A k).list (g.filled k l) in
          let h : held (A k) c.0 ≡ occurs c.0 (A k).list = held_yes (A k) c.0 t in
          let p = c.1 in
          let q : held (A k) c.0 ≤ sum_to (λ i. held (A i) c.0) n = sum-at (λ i. held (A i) c.0) k n l in
          let w = g.entries_once c.0 in
          let inside : c.0 < es = below-lt c.0 es (omega arith) in
          let z : held (A k) c.0 ≤ sum_to (λ c. held (A k) c) es = sum-at (λ c. held (A k) c) c.0 es inside in
          let m = is_le 0 (R k) in
          omega arith

  pub leaves_few : rank_count R n 0 ≤ es
  unfolding rank_count
  leaves_few =
      let a = sum-le (λ k. is 0 (R k)) (λ k. sum_to (λ c. held (A k) c) es) n holds_one in
      let b = sum_swap (λ k c. held (A k) c) n es in
      let c : sum_to (λ c. sum_to (λ k. held (A k) c) n) es ≡ sum_to (λ _. 1) es =
      sum_same (λ _. 1) (λ c. sum_to (λ k. held (A k) c) n) es (λ c q. g.entries_once c ∙ below_in c es q) in
      let d = sum_ones es in
      omega arith

pub sum_first : (f : ℕ → ℕ) (m : ℕ) → sum_to f (suc m) ≡ f 0 + sum_to (λ r. f (suc r)) m
unfolding sum_to
sum_first f zero = omega arith
sum_first f (suc m) = let h = sum_first f m in omega arith

triangle : (m e : ℕ) (f : ℕ → ℕ) → f 0 ≤ e → ((r : ℕ) → f (suc r) ≤ f r - 1) → 2 * sum_to f m ≤ e * (e + 1)
unfolding sum_to
triangle zero e f h k = omega arith
triangle (suc m) zero f h k =
    let a = triangle m 0 (λ r. f (suc r)) (let q = k 0 in omega arith) (λ r. k (suc r)) in
    let b = sum_first f m in
    omega arith
triangle (suc m) (suc e) f h k =
    let a : 2 * sum_to (λ r. f (suc r)) m ≤ e * (e + 1) = triangle m e (λ r. f (suc r)) (let q = k 0 in omega arith) (λ r. k (suc r)) in
    let b = sum_first f m in
    omega arith

-- e entries: at most e(e+1)/2 nodes
pub nodes_few : (s : Settings) (A : ℕ → Node) (n root es : ℕ) (R x y o : ℕ → ℕ) → Links s A n root es R x y o → 2 * n ≤ es * (es + 1)
nodes_few s A n root es R x y o g =
    let a : 2 * sum_to (λ r. rank_count R n r) (suc (R root)) ≤ es * (es + 1) =
    triangle (suc (R root)) es (λ r. rank_count R n r) (leaves_few g) (λ r. let q = g.grows r in omega arith) in
    let b = levels-all g in
    omega arith

-- A walk that comes to its end: each node that it meets, once.
use Prim.Native.Nat.{ℕ, zero, suc, ◌+◌, ◌-◌, ◌≤◌, ◌<◌}
use Rattle.std.specs.Prelude.{◌≡◌, ◌⊎◌, ◌≢◌}
use Rattle.std.proofs.Math.Path.{refl, ap, subst}
use Rattle.std.proofs.Common.{sym, ◌∙◌, inl, inr}
use native.Mathlib.Omega.{arith}
use Rattle.rules.specs.Tree.{Tree}
use Rattle.counting.specs.Count.{same?, lt?, is, is_same, is_other, below_in}
use Rattle.counting.specs.Sums.{sum_to, sum_same, sum-zero, is_sym}
use Rattle.counting.specs.Totals.{sum_plus}
use Rattle.counting.specs.Flags.{is_sum}
use Rattle.tour.specs.Walking.{step_of}
use Rattle.tour.specs.Steps.{down_end, up_end, down_up, down_same, up_same}
use Rattle.tour.specs.declared.Step.{Step}
use Rattle.tour.specs.declared.Step.TheVariants.{Down, Up, End, Astray}

-- a sum over the nodes that a step and the steps after it meet, by depth and node
unfoldable pub tally_on : (ℕ → ℕ → ℕ) → (ℕ → ℕ → ℕ → ℕ) → Step → ℕ → ℕ
tally_on v on (Down c) d = v (suc d) c + on c 0 (suc d)
tally_on v on (Up p j) d = on p j (d - 1)
tally_on v on End d = 0
tally_on v on Astray d = 0

-- in m steps from node i, d deep, with k of its list done
unfoldable pub tally : Tree → (ℕ → ℕ → ℕ) → ℕ → ℕ → ℕ → ℕ → ℕ
tally t v zero i k d = 0
tally t v (suc m) i k d = tally_on v (tally t v m) (step_of t i k) d

-- how often the walk meets node c, and how many it meets
abbrev pub is_node : ℕ → ℕ → ℕ → ℕ
is_node c d x = is c x

abbrev pub one : ℕ → ℕ → ℕ
one d x = 1

module _ (t : Tree) where
  -- m steps on, the walk is at its end
  abbrev pub Ends : ℕ → ℕ → ℕ → Type 0
  Ends zero i k = step_of t i k ≡ End
  Ends (suc m) i k = ((c : ℕ) × (step_of t i k ≡ Down c) × Ends m c 0) ⊎ ((p : ℕ) × (j : ℕ) × (step_of t i k ≡ Up p j) × Ends m p j)

  pub tally_down : (v : ℕ → ℕ → ℕ) (m i k d c : ℕ) → step_of t i k ≡ Down c → tally t v (suc m) i k d ≡ v (suc d) c + tally t v m c 0 (suc d)
  unfolding tally tally_on
  tally_down v m i k d c e = ap (λ x. tally_on v (tally t v m) x d) e

  pub tally_up : (v : ℕ → ℕ → ℕ) (m i k d p j : ℕ) → step_of t i k ≡ Up p j → tally t v (suc m) i k d ≡ tally t v m p j (d - 1)
  unfolding tally tally_on
  tally_up v m i k d p j e = ap (λ x. tally_on v (tally t v m) x d) e

  -- it ends after one number of steps
  pub ends_once : (m n i k : ℕ) → Ends m i k → Ends n i k → m ≡ n
  ends_once zero zero i k e f = refl
  ends_once zero (suc n) i k e (inl (c, f, g)) = absurd (down_end (sym f ∙ e))
  ends_once zero (suc n) i k e (inr (p, j, f, g)) = absurd (up_end (sym f ∙ e))
  ends_once (suc m) zero i k (inl (c, f, g)) e = absurd (down_end (sym f ∙ e))
  ends_once (suc m) zero i k (inr (p, j, f, g)) e = absurd (up_end (sym f ∙ e))
  ends_once (suc m) (suc n) i k (inl (c, f, g)) (inl (x, y, z)) = ap suc (ends_once m n c 0 g (subst (λ w. Ends n w 0) (down_same (sym y ∙ f)) z))
  ends_once (suc m) (suc n) i k (inl (c, f, g)) (inr (p, j, y, z)) = absurd (down_up (sym f ∙ y))
  ends_once (suc m) (suc n) i k (inr (p, j, y, z)) (inl (c, f, g)) = absurd (down_up (sym f ∙ y))
  ends_once (suc m) (suc n) i k (inr (p, j, f, g)) (inr (q, l, y, z)) =
      let (a, b) = up_same (sym y ∙ f) in ap suc (ends_once m n p j g (subst (λ w. Ends n p w) b (subst (λ w. Ends n w l) a z)))

  -- from a node that it meets it goes to the end in fewer steps
  pub met_ends : (c m i k d : ℕ) → Ends m i k → 0 < tally t (is_node c) m i k d → (n : ℕ) × (n < m) × Ends n c 0
  met_ends c zero i k d e h = absurd (let z : tally t (is_node c) 0 i k d ≡ 0 = unfold tally in refl in omega arith)
  met_ends c (suc m) i k d (inl (x, f, g)) h = go (same? c x) (λ q. met_ends c m x 0 (suc d) g q)
    where
      go : (c ≡ x) ⊎ (c ≢ x) → (0 < tally t (is_node c) m x 0 (suc d) → (n : ℕ) × (n < m) × Ends n c 0) → (n : ℕ) × (n < suc m) × Ends n c 0
      go (inl w) ih = (m, omega arith, subst (λ y. Ends m y 0) (sym w) g)
      go (inr w) ih =
          let a = tally_down (is_node c) m i k d x f in
          let b = is_other c x w in
          let (n, l, z) = ih (omega arith) in
          (n, omega arith, z)
  met_ends c (suc m) i k d (inr (p, j, f, g)) h =
      let a = tally_up (is_node c) m i k d p j f in let (n, l, z) = met_ends c m p j (d - 1) g (omega arith) in (n, omega arith, z)

  -- no node twice
  pub met-most : (c m i k d : ℕ) → Ends m i k → tally t (is_node c) m i k d ≤ 1
  met-most c zero i k d e = let z : tally t (is_node c) 0 i k d ≡ 0 = unfold tally in refl in omega arith
  met-most c (suc m) i k d (inl (x, f, g)) = go (same? c x) (lt? 0 (tally t (is_node c) m x 0 (suc d))) (met-most c m x 0 (suc d) g)
    where
      a : tally t (is_node c) (suc m) i k d ≡ is c x + tally t (is_node c) m x 0 (suc d)
      a = tally_down (is_node c) m i k d x f

      go : (c ≡ x) ⊎ (c ≢ x) → (0 < tally t (is_node c) m x 0 (suc d)) ⊎ (tally t (is_node c) m x 0 (suc d) ≤ 0) → tally t (is_node c) m x 0 (suc d) ≤ 1
          → tally t (is_node c) (suc m) i k d ≤ 1
      go (inl w) (inl q) ih =
          let (n, l, z) = met_ends c m x 0 (suc d) g q in
          let s = ends_once n m x 0 (subst (λ y. Ends n y 0) w z) g in
          absurd (omega arith)
      go (inl w) (inr q) ih = let b = is_same c x w in let e = a in omega arith
      go (inr w) q ih = let b = is_other c x w in let e = a in omega arith
  met-most c (suc m) i k d (inr (p, j, f, g)) = let a = tally_up (is_node c) m i k d p j f in let b = met-most c m p j (d - 1) g in omega arith

  -- the nodes met, number by number
  pub met-sum : (n m i k d : ℕ) → Ends m i k → ((i k c : ℕ) → step_of t i k ≡ Down c → c < n)
      → sum_to (λ c. tally t (is_node c) m i k d) n ≡ tally t one m i k d
  met-sum n zero i k d e h = unfold tally in sum-zero n
  met-sum n (suc m) i k d (inl (x, f, g)) h =
      let a = sum_same (λ c. is c x + tally t (is_node c) m x 0 (suc d)) (λ c. tally t (is_node c) (suc m) i k d) n
      (λ c q. tally_down (is_node c) m i k d x f) in
      let b = sum_plus (λ c. is c x) (λ c. tally t (is_node c) m x 0 (suc d)) n in
      let r = sum_same (λ c. is x c) (λ c. is c x) n (λ c q. is_sym c x) in
      let s = is_sum x n in
      let u = below_in x n (h i k x f) in
      let v = met-sum n m x 0 (suc d) g h in
      let w = tally_down one m i k d x f in
      omega arith
  met-sum n (suc m) i k d (inr (p, j, f, g)) h =
      let a = sum_same (λ c. tally t (is_node c) m p j (d - 1)) (λ c. tally t (is_node c) (suc m) i k d) n (λ c q. tally_up (is_node c) m i k d p j f) in
      let v = met-sum n m p j (d - 1) g h in
      let w = tally_up one m i k d p j f in
      omega arith

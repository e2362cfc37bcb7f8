-- Numbers that are the same, and numbers below another, as 1 and 0.
use Rattle.std.specs.Prelude.{ℕ, suc, ◌+◌, ◌≤◌, ◌<◌, ◌≡◌, refl, ◌⊎◌, ◌≢◌, Bool, true, false, not, cond, T, ltb, eqb}
use Rattle.std.proofs.Common.{sym, ap, ◌∙◌, subst, inl, inr, true≢false, arith, eqb→eq, ltb→lt, lt→ltb, nltb→le}
use Rattle.std.proofs.lemmas.Bool.{false≢true}
use Rattle.std.proofs.Math.Dec.{eqb_refl}

-- what holds of both branches holds of the choice
pub either : {A : Type 0} (P : A → Type 0) (b : Bool) (u v : A) → P u → P v → P (cond b u v)
either P true u v hu hv = hu
either P false u v hu hv = hv

abbrev pub bit : Bool → ℕ
bit true = 1
bit false = 0

-- ---- 1 where two numbers are the same, and else 0

pub eq_test : (i j : ℕ) (b : Bool) → eqb i j ≡ b → (b ≡ true → i ≡ j) × (b ≡ false → i ≢ j)
eq_test i j true e = ((λ _. eqb→eq i j (subst T (sym e) tt)), (λ q. absurd (true≢false q)))
eq_test i j false e = ((λ q. absurd (false≢true q)), (λ _ q. subst T (ap (λ k. eqb i k) q ∙ e) (eqb_refl i)))

pub same? : (i j : ℕ) → (i ≡ j) ⊎ (i ≢ j)
same? i j = go (eqb i j) refl
  where
    go : (b : Bool) → eqb i j ≡ b → (i ≡ j) ⊎ (i ≢ j)
    go true e = inl ((eq_test i j true e).0 refl)
    go false e = inr ((eq_test i j false e).1 refl)

unfoldable pub is : ℕ → ℕ → ℕ
is i j = bit (eqb i j)

pub is_same : (i j : ℕ) → i ≡ j → is i j ≡ 1
unfolding is
is_same i j e = go (eqb i j) refl
  where
    go : (b : Bool) → eqb i j ≡ b → bit b ≡ 1
    go true q = refl
    go false q = absurd ((eq_test i j false q).1 refl e)

pub is_other : (i j : ℕ) → i ≢ j → is i j ≡ 0
unfolding is
is_other i j e = go (eqb i j) refl
  where
    go : (b : Bool) → eqb i j ≡ b → bit b ≡ 0
    go false q = refl
    go true q = absurd (e ((eq_test i j true q).0 refl))

pub is_le : (i j : ℕ) → is i j ≤ 1
unfolding is
is_le i j = go (eqb i j)
  where
    go : (b : Bool) → bit b ≤ 1
    go true = omega arith
    go false = omega arith

pub is_eq : (i j : ℕ) → 0 < is i j → i ≡ j
is_eq i j h = go (same? i j)
  where
    go : (i ≡ j) ⊎ (i ≢ j) → i ≡ j
    go (inl e) = e
    go (inr e) = let z : is i j ≡ 0 = is_other i j e in absurd (omega arith)

-- 1 below n
unfoldable pub below : ℕ → ℕ → ℕ
below c n = bit (ltb c n)

pub below_in : (c n : ℕ) → c < n → below c n ≡ 1
unfolding below
below_in c n h = go (ltb c n) (lt→ltb c n h)
  where
    go : (b : Bool) → T b → bit b ≡ 1
    go true t = refl
    go false t = absurd t

pub below_out : (c n : ℕ) → n ≤ c → below c n ≡ 0
unfolding below
below_out c n h = go (ltb c n) (ltb→lt c n)
  where
    go : (b : Bool) → (T b → c < n) → bit b ≡ 0
    go true t = let q : c < n = t tt in absurd (omega arith)
    go false t = refl

pub lt? : (c n : ℕ) → (c < n) ⊎ (n ≤ c)
lt? c n = go (ltb c n) (ltb→lt c n) (nltb→le c n)
  where
    go : (b : Bool) → (T b → c < n) → (T (not b) → n ≤ c) → (c < n) ⊎ (n ≤ c)
    go true f g = inl (f tt)
    go false f g = inr (g tt)

pub lt_ne : (k n : ℕ) → k < n → k ≢ n
lt_ne k n l e = omega arith

pub below-lt : (c n : ℕ) → 0 < below c n → c < n
below-lt c n h = go (lt? c n)
  where
    go : (c < n) ⊎ (n ≤ c) → c < n
    go (inl k) = k
    go (inr k) = let z : below c n ≡ 0 = below_out c n k in absurd (omega arith)

pub below-le : (c n : ℕ) → below c n ≤ 1
unfolding below
below-le c n = go (ltb c n)
  where
    go : (b : Bool) → bit b ≤ 1
    go true = omega arith
    go false = omega arith

pub below_suc : (c n : ℕ) → below c (suc n) ≡ below c n + is c n
below_suc c n = go (same? c n) (lt? c n)
  where
    go : (c ≡ n) ⊎ (c ≢ n) → (c < n) ⊎ (n ≤ c) → below c (suc n) ≡ below c n + is c n
    go (inl e) q =
        let a : below c (suc n) ≡ 1 = below_in c (suc n) (omega arith) in
        let b : below c n ≡ 0 = below_out c n (omega arith) in
        let d : is c n ≡ 1 = is_same c n e in
        omega arith
    go (inr e) (inl q) =
        let a : below c (suc n) ≡ 1 = below_in c (suc n) (omega arith) in
        let b : below c n ≡ 1 = below_in c n q in
        let d : is c n ≡ 0 = is_other c n e in
        omega arith
    go (inr e) (inr q) =
        let a : below c (suc n) ≡ 0 = below_out c (suc n) (omega arith) in
        let b : below c n ≡ 0 = below_out c n q in
        let d : is c n ≡ 0 = is_other c n e in
        omega arith

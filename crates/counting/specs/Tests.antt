-- A test that every element passes, read at one of them.
use Rattle.std.specs.Prelude.{ℕ, zero, suc, ◌+◌, ◌≤◌, ◌<◌, ◌≡◌, ◌⊎◌, ◌≢◌, Bool, List, [], ◌∷◌, T, length, get_or}
use Rattle.std.proofs.Common.{sym, subst, inl, inr, not-suc-le-zero, arith}
use Rattle.std.specs.Float.Ieee.Fits.{and_l, and_r}
use Rattle.rules.specs.Lists.{up_from, every, occurs}
use Rattle.counting.specs.Count.{is, is_other, same?}
use Rattle.counting.specs.Sums.{occurs-cons}

pub every-at : {A : Type 0} (f : A → Bool) (d : A) (l : List A) → T (every f l) → (i : ℕ) → i < length l → T (f (get_or l i d))
unfolding every
every-at f d [] h i q = absurd (not-suc-le-zero q)
every-at f d (x ∷ l) h zero q = and_l (f x) (every f l) h
every-at f d (x ∷ l) h (suc i) q = every-at f d l (and_r (f x) (every f l) h) i (omega arith)

pub up_at : (f : ℕ → Bool) (n i : ℕ) → T (every f (up_from n i)) → (c : ℕ) → i ≤ c → c < i + n → T (f c)
unfolding every up_from
up_at f zero i h c a b = absurd (omega arith)
up_at f (suc n) i h c a b = go (same? c i) (λ q. up_at f n (suc i) (and_r (f i) (every f (up_from n (suc i))) h) c q (omega arith))
  where
    go : (c ≡ i) ⊎ (c ≢ i) → (suc i ≤ c → T (f c)) → T (f c)
    go (inl e) ih = subst (λ z. T (f z)) (sym e) (and_l (f i) (every f (up_from n (suc i))) h)
    go (inr e) ih = ih (omega arith)

pub in_at : (f : ℕ → Bool) (l : List ℕ) → T (every f l) → (c : ℕ) → 0 < occurs c l → T (f c)
unfolding every occurs
in_at f [] h c o = absurd (not-suc-le-zero o)
in_at f (x ∷ l) h c o = go (same? c x) (λ p. in_at f l (and_r (f x) (every f l) h) c p)
  where
    go : (c ≡ x) ⊎ (c ≢ x) → (0 < occurs c l → T (f c)) → T (f c)
    go (inl e) ih = subst (λ z. T (f z)) (sym e) (and_l (f x) (every f l) h)
    go (inr e) ih = let a : occurs c (x ∷ l) ≡ is c x + occurs c l = occurs-cons c x l in let b = is_other c x e in ih (omega arith)

-- The weight after push and merge is exact for whole weights, and an empty summary on either side of a merge changes nothing.
use Rattle.std.specs.Prelude.{◌≡◌, List, true, false, eqb, Float}
use Rattle.std.proofs.Common.{sym, ◌∙◌, arith, ne_eqb}
use Rattle.std.proofs.Math.Path.{ap, ap₂}
use Prim.Native.Nat.{ℕ, zero, suc, ◌+◌, ◌≤◌}
use Rattle.std.specs.Float.Ieee.{le}
use Rattle.binary64.specs.Operators.{◌⊕◌, f0, f1}
use Rattle.binary64.specs.Whole.{whole, most, whole_0, add-whole, add_row}
use Rattle.binary64.specs.Order.{le-zero}
use Rattle.feature.specs.Summaries.{blank}
use Rattle.feature.specs.Steps.{pushed, blended, merged}
use Rattle.feature.specs.declared.Feature.{Feature}
use Rattle.feature.specs.declared.Summary.{Summary}

pub blank_weight : blank.weight ≡ whole 0
unfolding blank
blank_weight = sym whole_0

pub zero_low : {w : Float} → w ≡ whole 0 → le w f0 ≡ true
zero_low e = ap (λ w. le w f0) e ∙ le-zero 0 (omega arith)

some : (n : ℕ) → eqb (suc n) 0 ≡ false
some n = ne_eqb (suc n) 0 (λ e. omega arith)

module _ (f : Feature) (n : ℕ) where
  pub pushed_weight : (s : Summary) (x : List Float) (a : ℕ) → a ≤ most → s.weight ≡ whole a → (pushed f n s x).weight ≡ whole (a + 1)
  unfolding pushed
  pushed_weight s x a h e = ap (λ w. w ⊕ f1) e ∙ add_row a h

  -- nothing to merge
  pub merged-none : (s o : Summary) → o.weight ≡ whole 0 → merged f n s o ≡ s
  unfolding merged
  merged-none s o e = rw (e, le-zero 0 (omega arith))

  -- nothing to merge into, a zero of either sign: a copy
  pub merged_copy : (s o : Summary) (b : ℕ) → suc b ≤ most → le s.weight f0 ≡ true → o.weight ≡ whole (suc b) → merged f n s o ≡ o
  unfolding merged
  merged_copy s o b h p q = rw (q, le-zero (suc b) h, some b, p)

  pub merged_joined : (s o : Summary) (a b : ℕ) → suc a ≤ most → suc b ≤ most
      → s.weight ≡ whole (suc a) → o.weight ≡ whole (suc b) → merged f n s o ≡ blended f n s o
  unfolding merged
  merged_joined s o a b h k p q = rw (q, le-zero (suc b) k, some b, p, le-zero (suc a) h, some a)

  pub merged_weight : (s o : Summary) (a b : ℕ) → a ≤ most → b ≤ most → s.weight ≡ whole a → o.weight ≡ whole b → (merged f n s o).weight ≡ whole (a + b)
  unfolding blended
  merged_weight s o a zero h k p q = ap (λ z. z.weight) (merged-none s o q) ∙ p ∙ ap whole (omega arith)
  merged_weight s o zero (suc b) h k p q = ap (λ z. z.weight) (merged_copy s o b k (zero_low p) q) ∙ q ∙ ap whole (omega arith)
  merged_weight s o (suc a) (suc b) h k p q =
      ap (λ z. z.weight) (merged_joined s o a b h k p q) ∙ ap₂ (λ v w. v ⊕ w) p q ∙ add-whole (suc a) (suc b) h k

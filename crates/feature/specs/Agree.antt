-- Spherical and Diagonal agree on weight and mean: a feature decides deviations alone.
use Rattle.std.specs.Prelude.{◌≡◌, Bool, cond, List, ℕ, Float}
use Rattle.std.proofs.Math.Path.{ap, ap₂, subst}
use Rattle.std.proofs.Math.Bool.{true, false}
use Rattle.std.specs.Float.Ieee.{le}
use Rattle.binary64.specs.Operators.{◌⊕◌, ◌⊘◌, f0, f1}
use Rattle.kernels.specs.Channels.{up_to}
use Rattle.feature.specs.Steps.{moved_at, pushed, blended, merged}
use Rattle.feature.specs.declared.Feature.{Feature}
use Rattle.feature.specs.declared.Summary.{Summary}

pub record Agree (a b : Summary) : Type 0 where
  pub weights : a.weight ≡ b.weight
  pub means : a.mean ≡ b.mean

module _ (f g : Feature) (n : ℕ) where
  pub pushed_agree : (a b : Summary) (x : List Float) → Agree a b → Agree (pushed f n a x) (pushed g n b x)
  unfolding pushed
  pushed_agree a b x h = record {
    weights = ap (λ w. w ⊕ f1) h.weights;
    means = ap₂ (λ w m. up_to (moved_at (f1 ⊘ (w ⊕ f1)) m x) n m) h.weights h.means;
  }

  joined_agree : (a b c d : Summary) → Agree a b → Agree c d → Agree (blended f n a c) (blended g n b d)
  unfolding blended
  joined_agree a b c d h k = record { weights = ap₂ (λ v w. v ⊕ w) h.weights k.weights; means = rw (h.weights, h.means, k.weights, k.means) }

  pub merged_agree : (a b c d : Summary) → Agree a b → Agree c d → Agree (merged f n a c) (merged g n b d)
  unfolding merged
  merged_agree a b c d h k =
      subst (λ p. Agree (merged f n a c) (cond p b (cond (le b.weight f0) d (blended g n b d)))) (ap (λ w. le w f0) k.weights)
      (subst (λ q. Agree (merged f n a c) (cond (le c.weight f0) b (cond q d (blended g n b d)))) (ap (λ w. le w f0) h.weights) (same (le c.weight f0) (le a.weight f0)))
    where
      same : (p q : Bool) → Agree (cond p a (cond q c (blended f n a c))) (cond p b (cond q d (blended g n b d)))
      same true q = h
      same false true = k
      same false false = joined_agree a b c d h k

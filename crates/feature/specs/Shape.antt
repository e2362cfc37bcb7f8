-- A summary's shape: eight channels, of which those past dim and the deviations that a feature does not keep are 0. Push and merge keep it.
use Rattle.std.specs.Prelude.{◌≡◌, refl, Bool, cond, List, ℕ, ◌≤◌, ◌<◌, length, replicate, Float}
use Rattle.std.proofs.Common.{◌∙◌, arith, length-set, get_or-set_other}
use Rattle.std.proofs.Math.Bool.{true, false}
use Rattle.std.proofs.lemmas.List.{get_or-replicate}
use Rattle.std.specs.Float.{nan}
use Rattle.std.specs.Float.Ieee.{le}
use Rattle.binary64.specs.Operators.{f0}
use Rattle.kernels.specs.Channels.{at, up_to}
use Rattle.kernels.specs.Laws.{length-up_to, up_to_past}
use Rattle.feature.specs.Summaries.{slots_of, blank}
use Rattle.feature.specs.Steps.{deviated, pushed, blended, merged}
use Rattle.feature.specs.declared.Feature.{Feature}
use Rattle.feature.specs.declared.Feature.TheVariants.{Spherical, Diagonal}
use Rattle.feature.specs.declared.Summary.{Summary}

-- eight numbers, 0 from n on
pub record Eight (l : List Float) (n : ℕ) : Type 0 where
  pub long : length l ≡ 8
  pub zeros : (k : ℕ) → n ≤ k → k < 8 → at l k ≡ f0

pub record Shaped (f : Feature) (n : ℕ) (s : Summary) : Type 0 where
  pub means : Eight s.mean n
  pub deviations : Eight s.deviation (slots_of f n)

-- ---- lists

zero-at : (k : ℕ) → k < 8 → at (replicate 8 f0) k ≡ f0
zero-at k h = get_or-replicate 8 k f0 nan h

eight-up_to : (r : ℕ → Float) (n : ℕ) (l : List Float) → Eight l n → Eight (up_to r n l) n
eight-up_to r n l e = record { long = length-up_to r n l ∙ e.long; zeros = λ k p q. up_to_past r n l k p ∙ e.zeros k p q }

eight-deviated : (f : Feature) (n : ℕ) (c : Float) (m v x : List Float) → Eight v (slots_of f n) → Eight (deviated f n c m v x) (slots_of f n)
unfolding deviated slots_of
eight-deviated Spherical n c m v x e =
    record { long = length-set v 0 _ ∙ e.long; zeros = λ k p q. get_or-set_other v 0 k _ nan (λ z. omega arith) ∙ e.zeros k p q }
eight-deviated Diagonal n c m v x e = eight-up_to _ n v e

-- ---- summaries

module _ (f : Feature) (n : ℕ) where
  pub blank_shaped : Shaped f n blank
  unfolding blank
  blank_shaped = record { means = eight n; deviations = eight (slots_of f n) }
    where
      eight : (m : ℕ) → Eight (replicate 8 f0) m
      eight m = record { long = refl; zeros = λ k p q. zero-at k q }

  pub pushed_shaped : (s : Summary) (x : List Float) → Shaped f n s → Shaped f n (pushed f n s x)
  unfolding pushed
  pushed_shaped s x h = record { means = eight-up_to _ n s.mean h.means; deviations = eight-deviated f n _ _ _ _ h.deviations }

  joined_shaped : (s o : Summary) → Shaped f n s → Shaped f n (blended f n s o)
  unfolding blended
  joined_shaped s o h =
      record {
        means = eight-up_to _ n s.mean h.means;
        deviations = eight-deviated f n _ _ _ _ (eight-up_to _ (slots_of f n) s.deviation h.deviations);
      }

  pub merged_shaped : (s o : Summary) → Shaped f n s → Shaped f n o → Shaped f n (merged f n s o)
  unfolding merged
  merged_shaped s o h k = go (le o.weight f0) (le s.weight f0)
    where
      go : (a b : Bool) → Shaped f n (cond a s (cond b o (blended f n s o)))
      go true b = h
      go false true = k
      go false false = joined_shaped s o h

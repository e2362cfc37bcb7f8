-- The numbers of an entry's spread, one by one.
use Rattle.std.specs.Prelude.{ℕ, ◌≤◌, ◌<◌, ◌≡◌, refl, List, length, take, Float}
use Rattle.std.proofs.Common.{sym, ◌∙◌, arith, length-take-le, get_or-take, ext_get_or}
use Rattle.std.proofs.lemmas.List.{length-map, get_or-replicate}
use Rattle.std.proofs.Math.ListN.{length-replicate}
use Rattle.std.specs.Float.Ieee.{nan}
use Rattle.binary64.specs.Operators.{◌⊘◌}
use Rattle.binary64.specs.Whole.{whole}
use Rattle.kernels.specs.Channels.{at, up_to}
use Rattle.kernels.specs.Laws.{length-up_to, up_to-below}
use Rattle.feature.specs.Shape.{Shaped}
use Rattle.feature.specs.declared.Summary.{Summary}
use Rattle.feature.specs.declared.Feature.{Feature}
use Rattle.feature.specs.declared.Feature.TheVariants.{Spherical, Diagonal}
use Rattle.rules.specs.ListLaws.{map_at}
use Rattle.rules.specs.Spread.{spread_of}

module _ (f : Feature) (n : ℕ) (few : n ≤ 8) (e : Summary) (h : Shaped f n e) where
  kept : length (take n e.deviation) ≡ n
  kept = length-take-le n e.deviation (rw h.deviations.long few)

  pub spherical-at : (k : ℕ) → f ≡ Spherical → k < n → at e.deviation 0 ⊘ e.weight ⊘ whole n ≡ at (spread_of f n e) k
  unfolding spread_of
  spherical-at k q l = rw q (sym (get_or-replicate n k (at e.deviation 0 ⊘ e.weight ⊘ whole n) nan l))

  pub diagonal-at : (k : ℕ) → f ≡ Diagonal → k < n → at e.deviation k ⊘ e.weight ≡ at (spread_of f n e) k
  unfolding spread_of
  diagonal-at k q l =
      rw q (sym (map_at (λ (d : Float). d ⊘ e.weight) (take n e.deviation) k nan nan (rw kept l) ∙ rw (get_or-take n e.deviation k nan l)))

  pub spread_long : length (spread_of f n e) ≡ n
  spread_long = go f refl
    where
      go : (g : Feature) → f ≡ g → length (spread_of f n e) ≡ n
      go Spherical q = rw q (unfold spread_of in length-replicate n (at e.deviation 0 ⊘ e.weight ⊘ whole n))
      go Diagonal q = rw q (unfold spread_of in (length-map (take n e.deviation) (λ (d : Float). d ⊘ e.weight) ∙ kept))

  -- all of them written
  pub spread_written_lem : (k : ℕ) (old : List Float) → length old ≡ n → n ≤ k → k ≤ n → up_to (at (spread_of f n e)) k old ≡ spread_of f n e
  spread_written_lem k old long l m =
      ext_get_or nan (up_to (at (spread_of f n e)) k old) (spread_of f n e) (length-up_to _ k old ∙ long ∙ sym spread_long)
      (λ i p. let q : i < length old = rw (length-up_to (at (spread_of f n e)) k old) at p in up_to-below (at (spread_of f n e)) k old i (omega arith) (omega arith))

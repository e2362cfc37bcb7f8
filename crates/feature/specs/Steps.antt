-- Push and merge, each operation rounded once, in document 01's order.
use Rattle.std.specs.Prelude.{ℕ, List, cond, set, Float}
use Rattle.std.specs.Float.Ieee.{le}
use Rattle.binary64.specs.Operators.{◌⊕◌, ◌⊖◌, ◌⊗◌, ◌⊘◌, f0, f1}
use Rattle.kernels.specs.Channels.{at, sum_to, up_to, square_at}
use Rattle.feature.specs.Summaries.{slots_of}
use Rattle.feature.specs.declared.Feature.{Feature}
use Rattle.feature.specs.declared.Feature.TheVariants.{Spherical, Diagonal}
use Rattle.feature.specs.declared.Summary.{Summary}

-- the mean m at a channel, moved towards x by the factor k
abbrev pub moved_at : Float → List Float → List Float → ℕ → Float
moved_at k m x i = at m i ⊕ k ⊗ (at x i ⊖ at m i)

-- the deviation v at a channel, with what a step of the mean m towards x adds
abbrev pub added_at : Float → List Float → List Float → List Float → ℕ → Float
added_at c m v x i = at v i ⊕ (c ⊗ (at x i ⊖ at m i)) ⊗ (at x i ⊖ at m i)

abbrev pub both_at : List Float → List Float → ℕ → Float
both_at a b i = at a i ⊕ at b i

-- the deviations v after a step of the mean m towards x: Spherical adds c times the sum of squares, Diagonal (c·d)·d to each channel
unfoldable pub deviated : Feature → ℕ → Float → List Float → List Float → List Float → List Float
deviated Spherical n c m v x = set v 0 (at v 0 ⊕ c ⊗ sum_to (square_at x m) n)
deviated Diagonal n c m v x = up_to (added_at c m v x) n v

-- Push of weight 1: the row x into s
unfoldable pub pushed : Feature → ℕ → Summary → List Float → Summary
pushed f n s x =
    let w = s.weight ⊕ f1 in
    record {
      weight = w;
      mean = up_to (moved_at (f1 ⊘ w) s.mean x) n s.mean;
      deviation = deviated f n (f1 ⊖ f1 ⊘ w) s.mean s.deviation x;
    }

-- o merged into s, where both have weight
unfoldable pub blended : Feature → ℕ → Summary → Summary → Summary
blended f n s o =
    let w = s.weight ⊕ o.weight in
    let sum = up_to (both_at s.deviation o.deviation) (slots_of f n) s.deviation in
    record {
      weight = w;
      mean = up_to (moved_at (o.weight ⊘ w) s.mean o.mean) n s.mean;
      deviation = deviated f n (s.weight ⊗ o.weight ⊘ w) s.mean sum o.mean;
    }

-- Merge of o into s: nothing if o's weight is ≤ 0; a copy of o if s's is ≤ 0
unfoldable pub merged : Feature → ℕ → Summary → Summary → Summary
merged f n s o = cond (le o.weight f0) s (cond (le s.weight f0) o (blended f n s o))

-- The head of a new tree, and the settings that a head's numbers choose.
use Rattle.std.specs.Prelude.{ℕ, zero, suc, Float}
use Rattle.feature.specs.declared.Feature.{Feature}
use Rattle.feature.specs.declared.Feature.TheVariants.{Spherical, Diagonal}
use Rattle.distance.specs.declared.Distance.{Distance}
use Rattle.distance.specs.declared.Distance.TheVariants.{CentroidEuclidean, CentroidManhattan, AverageIntercluster, AverageIntracluster, VarianceIncrease, Radius}
use Rattle.head.specs.declared.Counters.{Counters}
use Rattle.head.specs.declared.Head.{Head}
use Rattle.head.specs.declared.Settings.{Settings}
use Rattle.head.specs.Counting.{new_running}

-- one node, a leaf with nothing in it
unfoldable pub new_counters : Float → Counters
new_counters threshold = record { nodes = 1; entries = 0; root = 0; running = new_running threshold }

unfoldable pub new_head : ℕ → ℕ → ℕ → ℕ → ℕ → ℕ → ℕ → Float → Head
new_head dim branching leafCap maxLeaves feature dist abs threshold =
    record { dim = dim; branching = branching; leaf_cap = leafCap; max_leaves = maxLeaves; feature = feature; dist = dist; abs = abs; counters = new_counters threshold }

unfoldable pub feature_at : ℕ → Feature
feature_at zero = Spherical
feature_at (suc n) = Diagonal

unfoldable pub distance_at : ℕ → Distance
distance_at zero = CentroidEuclidean
distance_at (suc zero) = CentroidManhattan
distance_at (suc (suc zero)) = AverageIntercluster
distance_at (suc (suc (suc zero))) = AverageIntracluster
distance_at (suc (suc (suc (suc zero)))) = VarianceIncrease
distance_at (suc (suc (suc (suc (suc n))))) = Radius

unfoldable pub settings_of : Head → Settings
settings_of h =
    record {
      dim = h.dim;
      branching = h.branching;
      leaf_cap = h.leaf_cap;
      max_leaves = h.max_leaves;
      feature = feature_at h.feature;
      dist = distance_at h.dist;
      abs = distance_at h.abs;
    }

unfoldable pub with_counters : Head → Counters → Head
with_counters h n =
    record {
      dim = h.dim;
      branching = h.branching;
      leaf_cap = h.leaf_cap;
      max_leaves = h.max_leaves;
      feature = h.feature;
      dist = h.dist;
      abs = h.abs;
      counters = n;
    }

-- The formulas of the Rust's distance.rs, operators left to right as Rust reads them, with their zero answers for small weights.
use Rattle.std.specs.Prelude.{ℕ, List, cond, Float}
use Rattle.std.specs.Float.Ieee.{le}
use Rattle.binary64.specs.Operators.{◌⊕◌, ◌⊖◌, ◌⊗◌, ◌⊘◌, f0, f1, f2}
use Rattle.kernels.specs.Channels.{at, sum_to, square_at, size_at}
use Rattle.feature.specs.declared.Feature.{Feature}
use Rattle.feature.specs.declared.Feature.TheVariants.{Spherical, Diagonal}
use Rattle.feature.specs.declared.Summary.{Summary}
use Rattle.distance.specs.declared.Distance.{Distance}
use Rattle.distance.specs.declared.Distance.TheVariants.{CentroidEuclidean, CentroidManhattan, AverageIntercluster}
use Rattle.distance.specs.declared.Distance.TheVariants.{AverageIntracluster, VarianceIncrease, Radius}

-- the squared Euclidean sum over the first n channels
unfoldable pub squared_gap : ℕ → List Float → List Float → Float
squared_gap n a b = sum_to (square_at a b) n

-- the sum over the channels that a distance goes by
unfoldable pub gap_of : Distance → ℕ → List Float → List Float → Float
gap_of CentroidEuclidean n a b = squared_gap n a b
gap_of CentroidManhattan n a b = sum_to (size_at a b) n
gap_of AverageIntercluster n a b = squared_gap n a b
gap_of AverageIntracluster n a b = squared_gap n a b
gap_of VarianceIncrease n a b = squared_gap n a b
gap_of Radius n a b = squared_gap n a b

-- the total squared deviation: Spherical's one number, or Diagonal's sum from 0
unfoldable pub ssd_of : Feature → ℕ → List Float → Float
ssd_of Spherical n v = at v 0
ssd_of Diagonal n v = sum_to (at v) n

-- ---- to a row, from a summary of weight n, gap q and total deviation v

unfoldable pub to_row : Distance → Float → Float → Float → Float
to_row CentroidEuclidean n q v = q
to_row CentroidManhattan n q v = q
to_row AverageIntercluster n q v = cond (le n f0) f0 (q ⊕ v ⊘ n)
to_row AverageIntracluster n q v = cond (le n f0) f0 (f2 ⊗ (v ⊕ q ⊗ n ⊘ (n ⊕ f1)) ⊘ n)
to_row VarianceIncrease n q v = cond (le n f0) f0 (q ⊗ n ⊘ (n ⊕ f1))
to_row Radius n q v = cond (le n f0) f0 ((n ⊗ q ⊕ (n ⊕ f1) ⊗ v) ⊘ ((n ⊕ f1) ⊗ (n ⊕ f1)))

-- ---- between two summaries of weights m and n, gap q and total deviations u and v

-- what a merge adds to the squared deviation: ((q·m)·n) / (m + n)
unfoldable pub increase_of : Float → Float → Float → Float
increase_of m n q = cond (le (m ⊕ n) f0) f0 (q ⊗ m ⊗ n ⊘ (m ⊕ n))

unfoldable pub to_summary : Distance → Float → Float → Float → Float → Float → Float
to_summary CentroidEuclidean m n q u v = q
to_summary CentroidManhattan m n q u v = q
to_summary AverageIntercluster m n q u v = cond (le m f0) f0 (cond (le n f0) f0 (q ⊕ u ⊘ m ⊕ v ⊘ n))
to_summary AverageIntracluster m n q u v = cond (le (m ⊕ n) f1) f0 (f2 ⊗ (u ⊕ v ⊕ q ⊗ m ⊗ n ⊘ (m ⊕ n)) ⊘ (m ⊕ n ⊖ f1))
to_summary VarianceIncrease m n q u v = increase_of m n q
to_summary Radius m n q u v = cond (le (m ⊕ n) f0) f0 ((m ⊗ n ⊗ q ⊕ (m ⊕ n) ⊗ (u ⊕ v)) ⊘ ((m ⊕ n) ⊗ (m ⊕ n)))

-- ---- the distance k from s to the row x, and between a and b

unfoldable pub point_of : Distance → Feature → ℕ → Summary → List Float → Float
point_of k f n s x = to_row k s.weight (gap_of k n s.mean x) (ssd_of f n s.deviation)

unfoldable pub between_of : Distance → Feature → ℕ → Summary → Summary → Float
between_of k f n a b = to_summary k a.weight b.weight (gap_of k n a.mean b.mean) (ssd_of f n a.deviation) (ssd_of f n b.deviation)

-- what merging a and b costs a rebuild, whatever the distances chosen
unfoldable pub merge_cost : ℕ → Summary → Summary → Float
merge_cost n a b = increase_of a.weight b.weight (squared_gap n a.mean b.mean)

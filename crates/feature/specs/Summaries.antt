-- The form of a summary.
use Rattle.std.specs.Prelude.{ℕ, ◌≤◌, replicate}
use Rattle.std.proofs.Common.{arith}
use Rattle.binary64.specs.Operators.{f0}
use Rattle.feature.specs.declared.Feature.{Feature}
use Rattle.feature.specs.declared.Feature.TheVariants.{Spherical, Diagonal}
use Rattle.feature.specs.declared.Summary.{Summary}

-- the channels of a row: 1 to 8
abbrev pub Dim : ℕ → Type 0
Dim n = (1 ≤ n) × (n ≤ 8)

-- how many deviations a feature keeps
unfoldable pub slots_of : Feature → ℕ → ℕ
slots_of Spherical n = 1
slots_of Diagonal n = n

pub slots_few : (f : Feature) (n : ℕ) → Dim n → slots_of f n ≤ 8
unfolding slots_of
slots_few Spherical n h = omega arith
slots_few Diagonal n h = h.1

-- the summary of no rows
unfoldable pub blank : Summary
blank = record { weight = f0; mean = replicate 8 f0; deviation = replicate 8 f0 }

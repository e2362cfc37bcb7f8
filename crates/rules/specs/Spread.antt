-- The spread of an entry, added by the port.
use Rattle.std.specs.Prelude.{ℕ, List, map, take, replicate, Float}
use Rattle.binary64.specs.Operators.{◌⊘◌}
use Rattle.binary64.specs.Whole.{whole}
use Rattle.kernels.specs.Channels.{at}
use Rattle.feature.specs.declared.Summary.{Summary}
use Rattle.feature.specs.declared.Feature.{Feature}
use Rattle.feature.specs.declared.Feature.TheVariants.{Spherical, Diagonal}

-- squared deviation over weight; Spherical also divides by dim, and its number is repeated
unfoldable pub spread_of : Feature → ℕ → Summary → List Float
spread_of Spherical n e = replicate n (at e.deviation 0 ⊘ e.weight ⊘ whole n)
spread_of Diagonal n e = map (λ d. d ⊘ e.weight) (take n e.deviation)

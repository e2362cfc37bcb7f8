-- Document 01's readings that need only a summary, computed.
use Rattle.std.specs.Prelude.{◌≡◌, refl, List, [], ◌∷◌, replicate, Float}
use Rattle.std.specs.Float.{nan, binary64}
use Rattle.std.specs.Float.Ieee.{add, sub, mul, div, of_bits}
use Rattle.binary64.specs.Operators.{f0, f1, f2}
use Rattle.kernels.specs.Channels.{at, up_to, sum_to}
use Rattle.feature.specs.Summaries.{blank}
use Rattle.feature.specs.Steps.{pushed, deviated}
use Rattle.feature.specs.declared.Summary.{Summary}
use Rattle.feature.specs.declared.Feature.{Feature}
use Rattle.feature.specs.declared.Feature.TheVariants.{Spherical, Diagonal}

-- the summary of rows of one channel, the last row first
abbrev of : Feature → List Float → Summary
of f [] = blank
of f (x ∷ xs) = pushed f 1 (of f xs) (x ∷ [])

abbrev half : Float
half = of_bits binary64 0x3fe0_0000_0000_0000

abbrev 1e200 : Float
1e200 = of_bits binary64 0x6974_e718_d7d7_625a

abbrev halves : Summary
halves = record { weight = f2; mean = half ∷ replicate 7 f0; deviation = half ∷ replicate 7 f0 }

-- rows 0, 1 in one summary: weight 2, mean 0.5, deviation 0.5
two_rows : of Spherical (f1 ∷ f0 ∷ []) ≡ halves
unfolding blank pushed deviated up_to sum_to add sub mul div of_bits
two_rows = refl

two_rows_diagonal : of Diagonal (f1 ∷ f0 ∷ []) ≡ halves
unfolding blank pushed deviated up_to sum_to add sub mul div of_bits
two_rows_diagonal = refl

-- one row 1e200: Spherical deviation NaN, Diagonal 0
far_row : at (of Spherical (1e200 ∷ [])).deviation 0 ≡ nan
unfolding blank pushed deviated up_to sum_to add sub mul div of_bits
far_row = refl

far_row_diagonal : at (of Diagonal (1e200 ∷ [])).deviation 0 ≡ f0
unfolding blank pushed deviated up_to sum_to add sub mul div of_bits
far_row_diagonal = refl

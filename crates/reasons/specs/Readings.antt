-- Reasons of some bad lines, computed.
use Rattle.std.specs.Prelude.{ℕ, List, [], ◌∷◌, ◌++◌, ◌≡◌, refl}
use Prim.Native.String.{String}
use Rattle.rules.specs.Computes.{computes}
use Rattle.rules.specs.Listing.{bytes}
use Rattle.reasons.specs.declared.Reason.TheVariants as R
use Rattle.reasons.specs.Reasons.{ends_in_return, size_in, setting_at, float_at, wrong_at, reason_of, first_reason, row_reason}

-- words parted by tabs
unfoldable tabbed : List String → List ℕ
tabbed [] = []
tabbed (w ∷ []) = bytes w
tabbed (w ∷ v ∷ ws) = bytes w ++ (9 ∷ tabbed (v ∷ ws))

-- line 1 with dim, M, feature and threshold
abbrev line : String → String → String → String → List ℕ
line dim most feature threshold =
    tabbed (dim ∷ "2" ∷ "4" ∷ most ∷ feature ∷ "euclidean" ∷ "radius" ∷ threshold ∷ [])

unfoldable reasons : Unit {0}
unfolding computes tabbed ends_in_return size_in setting_at float_at wrong_at reason_of first_reason row_reason
reasons = tt

first-reasons :
    (first_reason (bytes "x") ≡ R.Fields 1)
    × (first_reason (line "9" "24" "diagonal" "0000000000000000") ≡ R.Setting 1)
    × (first_reason (line "01" "25" "diagonal" "0000000000000000") ≡ R.Setting 1)
    × (first_reason (line "8" "25" "full" "0000000000000000") ≡ R.Setting 4)
    × (first_reason (line "8" "24" "full" "7ff0000000000000") ≡ R.Setting 5)
    × (first_reason (line "8" "24" "spherical" "7FF0000000000000") ≡ R.Setting 8)
    × (first_reason (line "8" "24" "spherical" "7ff0000000000000") ≡ R.Threshold)
    × (first_reason (line "9" "24" "spherical" "0000000000000000" ++ (13 ∷ [])) ≡ R.Return)
unfolding reasons
first-reasons = (refl, refl, refl, refl, refl, refl, refl, refl)

row-reasons :
    (row_reason [] ≡ R.Float 1)
    × (row_reason (tabbed ("3ff0000000000000" ∷ "3FF0000000000000" ∷ [])) ≡ R.Float 2)
    × (row_reason (tabbed ("3ff0000000000000" ∷ "4000000000000000" ∷ [])) ≡ R.Shape 2)
    × (row_reason (tabbed ("3ff0000000000000" ∷ []) ++ (13 ∷ [])) ≡ R.Return)
unfolding reasons
row-reasons = (refl, refl, refl, refl)

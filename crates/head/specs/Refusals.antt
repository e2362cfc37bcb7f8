-- The seven refusals and the tree check's eight conditions: document 01's number and values for each.
use Rattle.std.specs.Prelude.{ℕ, ◌≡◌, refl, List, [], ◌∷◌, map, Result}
use Rattle.head.specs.declared.refusal.Condition.{Condition}
use Rattle.head.specs.declared.refusal.Condition.TheVariants.{Counts, Root, Lists, Links, Filled, Level, Weights, Merged}
use Rattle.head.specs.declared.refusal.Refusal.{Refusal}
use Rattle.head.specs.declared.refusal.Refusal.TheVariants.{Settings, Room, Tree, Shape, Empty, Full, Output}

-- what a call answers
abbrev pub Answer : Type 0
Answer = Result (Unit {0}) Refusal

unfoldable pub number_of_condition : Condition → ℕ
number_of_condition Counts = 1
number_of_condition Root = 2
number_of_condition Lists = 3
number_of_condition Links = 4
number_of_condition Filled = 5
number_of_condition Level = 6
number_of_condition Weights = 7
number_of_condition Merged = 8

pub eight_numbers : map number_of_condition (Counts ∷ Root ∷ Lists ∷ Links ∷ Filled ∷ Level ∷ Weights ∷ Merged ∷ [])
    ≡ 1 ∷ 2 ∷ 3 ∷ 4 ∷ 5 ∷ 6 ∷ 7 ∷ 8 ∷ []
unfolding number_of_condition
eight_numbers = refl

unfoldable pub number_of : Refusal → ℕ
number_of Settings = 1
number_of Room = 2
number_of (Tree condition) = 3
number_of (Shape dim length) = 4
number_of Empty = 5
number_of Full = 6
number_of Output = 7

-- what is returned beside the number
unfoldable pub values_of : Refusal → List ℕ
values_of Settings = []
values_of Room = []
values_of (Tree condition) = condition ∷ []
values_of (Shape dim length) = dim ∷ length ∷ []
values_of Empty = []
values_of Full = []
values_of Output = []

-- The rows that a weight counts: a whole number from 1 to 2 ^ 53.
use Rattle.std.specs.Prelude.{◌≡◌, ℕ, ◌≤◌, Bool, true, false, ◌&&◌, Float, Option, Some, None}
use Rattle.std.specs.Float.Ieee.{le, eq, to_unsigned}
use Rattle.binary64.specs.Operators.{f1, f2^53}
use Rattle.binary64.specs.Whole.{whole, most}

-- from 1 to 2 ^ 53, and equal to its whole part
unfoldable pub is_count : Float → Bool
is_count w = le f1 w && (le w f2^53 && eq (whole (to_unsigned 64 w)) w)

unfoldable pub told : Bool → ℕ → Option ℕ
told true n = Some n
told false n = None

unfoldable pub count_of : Float → Option ℕ
count_of w = told (is_count w) (to_unsigned 64 w)

-- w is the float of n, a whole number from 1 to 2 ^ 53
pub record Counts (w : Float) (n : ℕ) : Type 0 where
  pub some : 1 ≤ n
  pub few : n ≤ most
  pub is : w ≡ whole n

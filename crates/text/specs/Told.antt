-- A number as code reads it.
use Rattle.std.specs.Prelude.{ℕ, cond, leb, Option, None, Some}

-- up to a thousand million
unfoldable pub few : Option ℕ → Option ℕ
few None = None
few (Some n) = cond (leb n 1_000_000_000) (Some n) None

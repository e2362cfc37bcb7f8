-- What a call is lent.
use Rattle.std.specs.Prelude.{ℕ, ◌≡◌, List, length, Float}
use Rattle.rules.specs.Tree.{Tree}
use Rattle.rules.specs.Calls.{Lent}

-- to a changing call, four slices
abbrev pub lending : List Float → List ℕ → List Float → List ℕ → Lent
lending fs ls sf sl = record { floats = fs; links = ls; scratch_floats = sf; scratch_links = sl }

-- P of every tree with so many entries
abbrev pub AnyTree : ℕ → (Tree → Type 0) → Type 0
AnyTree entries P = (t : Tree) → length t.entries ≡ entries → P t

use Rattle.std.proofs.Common.{◌≡◌, ℕ, ◌<◌, length, get_or, Float}
use Rattle.rules.specs.Descent.{closest}
use Rattle.descent.specs.Nearest.{Gives, behind, nearest_from}
use Rattle.descent.proofs.nearest.nearest.Given as goal

-- what is left of the list, from the nearest so far, leads to the nearest of the whole
abbrev pub invariant-loop-c : goal.invariant-loop-c
invariant-loop-c g l = record {
  left : (f : ℕ → Float) → Gives (goal.F-post g l.distance) f l.list → nearest_from f (behind l.list) l.c-index l.best l.least ≡ closest f l.list;
  listed : (k : ℕ) × (k < length l.list) × (l.best ≡ get_or l.list k 0);
}

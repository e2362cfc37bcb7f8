-- `every_below` meets its contract: the test holds of the numbers passed.
use Rattle.std.proofs.Common.{ℕ, true, ◌<◌}
use Rattle.lists.proofs.every_below.Given as goal

abbrev pub invariant-loop-k : goal.invariant-loop-k
invariant-loop-k g l = (k : ℕ) → k < l.k → goal.F-post g l.test k true

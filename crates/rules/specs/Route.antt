-- Routing: the entry that a tree gives a row.
use Rattle.std.specs.Prelude.{ℕ, List, Float}
use Rattle.head.specs.declared.Settings.{Settings}
use Rattle.rules.specs.Tree.{Tree, dist_to, node_at, entry_at}
use Rattle.rules.specs.Descent.{closest, leaf_for}

abbrev pub Route : Type 0
Route = Tree → List Float → ℕ

-- the first of the leaf's list, then any later one strictly closer: a row with no distance below infinity goes to the first
unfoldable pub greedy : Settings → Route
greedy s t x = closest (λ e. dist_to s (entry_at t e) x) (node_at t (leaf_for t (λ c. dist_to s c x))).list

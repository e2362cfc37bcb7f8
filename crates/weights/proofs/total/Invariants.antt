-- `total` meets its contract: so many rows are in the entries passed.
use Rattle.std.proofs.Common.{◌≡◌, ◌*◌, ◌≤◌}
use Rattle.rules.specs.Tree.{entry_at, row_count}
use Rattle.counting.specs.Sums.{sum_to}
use Rattle.arena.specs.Trees.{AnyLinks}
use Rattle.weights.proofs.total.Given as goal

abbrev pub invariant-loop-e : goal.invariant-loop-e
invariant-loop-e l = record {
  few : l.rows ≤ 9007199254740992 * l.e;
  summed : AnyLinks l.s l.n l.floats (λ t. l.rows ≡ sum_to (λ k. row_count (entry_at t k)) l.e);
}

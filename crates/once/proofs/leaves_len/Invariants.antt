-- `once::leaves_len` meets its contract: the lists of the nodes passed are so long.
use Rattle.std.proofs.Common.{◌≡◌, ◌*◌, ◌≤◌, length}
use Rattle.rules.specs.Tree.{node_at}
use Rattle.counting.specs.Sums.{sum_to}
use Rattle.arena.specs.Trees.{AnyFloats}
use Rattle.lists.specs.Lent.{leaf_list}
use Rattle.once.proofs.leaves_len.Given as goal

abbrev pub invariant-loop-i : goal.invariant-loop-i
invariant-loop-i l = record {
  few : l.sum ≤ 17 * l.i;
  summed : AnyFloats l.s l.n l.links (λ t. l.sum ≡ sum_to (λ k. length (leaf_list (node_at t k))) l.i);
}

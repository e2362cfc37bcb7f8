-- A slot is at most 17 floats further each turn, and a block 19 links.
use Rattle.std.proofs.Common.{◌*◌, ◌≤◌}
use Rattle.replay_trees.proofs.vectors.read_nodes.Given as goal

abbrev pub invariant-loop : goal.invariant-loop
invariant-loop g l = (l.slot ≤ 17 * l.counter) × (l.block ≤ 19 * l.counter)

-- A slot is at most 17 floats further each turn.
use Rattle.std.proofs.Common.{◌+◌, ◌*◌, ◌≤◌}
use Rattle.replay_trees.proofs.vectors.read_entries.Given as goal

abbrev pub invariant-loop : goal.invariant-loop
invariant-loop g l = l.slot ≤ 563601 + 17 * l.counter

-- No more differ than were counted, one a turn.
use Rattle.std.proofs.Common.{◌≡◌, ◌≤◌}
use Rattle.replay.proofs.report.Given as goal

abbrev pub invariant-loop : goal.invariant-loop
invariant-loop g l = goal.F-IsAlwaysCallable g l.next × (l.differ ≤ l.count) × (l.count ≡ l.counter)

use Rattle.std.proofs.Common.{◌≡◌, ◌+◌, ◌-◌, ◌++◌, drop, length}
use Rattle.reinsert.specs.Waiting.{waiting}
use Rattle.reinsert.proofs.collect.stack_list.Given as goal

-- after k turns the last k of the list stand on top
abbrev pub invariant-loop-k : goal.invariant-loop-k
invariant-loop-k l = waiting l.stack (l.high + l.k) ≡ drop (length l.list - l.k) l.list ++ waiting l.fn.stack l.high

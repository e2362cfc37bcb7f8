-- The bytes before b stand in the line behind those before them.
use Rattle.std.proofs.Common.{◌≡◌, ◌+◌, ◌≤◌, take}
use Rattle.lines.specs.Lines.{Copied, long_to}
use Rattle.lines.proofs.copy.Given as goal

abbrev pub invariant-loop-b : goal.invariant-loop-b
invariant-loop-b l = record {
  place : l.long ≡ l.run.long + l.b-index;
  short : l.long ≤ 200;
  copied : Copied l.run l.initial.line (take l.b-index l.bytes) (long_to l.run l.long) l.line;
}

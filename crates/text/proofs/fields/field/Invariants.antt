-- Field `counter` begins at `from`.
use Rattle.std.proofs.Common.{◌≤◌, length}
use Rattle.text.specs.Fields.{Begins}
use Rattle.text.proofs.fields.field.Given as goal

abbrev pub invariant-loop : goal.invariant-loop
invariant-loop l = record { inside : l.from ≤ length l.line; begins : Begins l.line l.counter l.from }

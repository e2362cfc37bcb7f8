-- The run stays one that can go on, chunk after chunk.
use Rattle.lines.specs.Runs.{Reading}
use Rattle.rowlist.proofs.read.Given as goal

abbrev pub invariant-loop : goal.invariant-loop
invariant-loop g l = Reading l.run l.floats l.links

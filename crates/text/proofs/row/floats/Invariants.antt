-- The first k fields are the first k of the row.
use Rattle.rules.specs.Listing.{fields_of}
use Rattle.text.specs.Rows.{FrontRead}
use Rattle.text.proofs.row.floats.Given as goal

abbrev pub invariant-loop-k : goal.invariant-loop-k
invariant-loop-k l = FrontRead (fields_of l.line) l.initial.row l.row l.k

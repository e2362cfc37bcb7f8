-- What reads the rest of the chunk reads all of it.
use Rattle.std.proofs.Common.{ℕ, List, length}
use Rattle.lines.specs.Runs.{Reading, Reads, printed}
use Rattle.listing.proofs.feed.Given as goal

abbrev pub invariant-loop-rest : goal.invariant-loop-rest
invariant-loop-rest l = record {
  reading : Reading l.r l.floats l.links;
  reads : (after : List ℕ → List ℕ) → Reads (printed l.r l.line l.floats l.links) l.rest after
      → Reads (printed l.initial.r l.initial.line l.initial.floats l.initial.links) l.chunk after;
}

abbrev pub decreases-loop-rest : goal.decreases-loop-rest
decreases-loop-rest l = length l.rest

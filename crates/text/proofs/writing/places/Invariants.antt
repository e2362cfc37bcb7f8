-- k − 1 digits are behind, and `rest` has the others.
use Rattle.std.proofs.Common.{◌≡◌, ◌+◌, ◌-◌}
use Rattle.rules.specs.Listing.{places_of}
use Rattle.text.proofs.writing.places.Given as goal

abbrev pub invariant-loop-k : goal.invariant-loop-k
invariant-loop-k l = l.k + places_of (20 - l.k) l.rest ≡ places_of 19 l.n + 1

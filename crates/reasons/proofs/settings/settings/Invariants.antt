-- The fields before k are as asked.
use Rattle.std.proofs.Common.{◌≡◌, drop}
use Rattle.rules.specs.Listing.{fields_of}
use Rattle.reasons.specs.Reasons.{setting_at, wrong_at}
use Rattle.reasons.proofs.settings.settings.Given as goal

abbrev pub invariant-loop-k : goal.invariant-loop-k
invariant-loop-k l = wrong_at setting_at l.k (drop l.k (fields_of l.line)) ≡ wrong_at setting_at 0 (fields_of l.line)

-- n and the digits from b on spell the field's number.
use Rattle.std.proofs.Common.{◌≡◌, ◌≤◌, drop}
use Rattle.rules.specs.Listing.{digit, number_from}
use Rattle.text.proofs.numbers.of_tens.Given as goal

abbrev pub invariant-loop-b : goal.invariant-loop-b
invariant-loop-b l = (l.n ≤ 1_000_000_000) × (number_from digit 10 l.n (drop l.b-index l.field) ≡ number_from digit 10 0 l.field)

-- n, of as many digits as are behind, and the digits from b on spell the field's number.
use Rattle.std.proofs.Common.{◌≡◌, ◌<◌, drop}
use Rattle.rules.specs.Listing.{hex_digit, number_from}
use Rattle.text.specs.Numbers.{sixteens}
use Rattle.text.proofs.numbers.of_sixteens.Given as goal

abbrev pub invariant-loop-b : goal.invariant-loop-b
invariant-loop-b l = (l.n < sixteens l.b-index) × (number_from hex_digit 16 l.n (drop l.b-index l.field) ≡ number_from hex_digit 16 0 l.field)

-- The numbers so far and those of the places left are all.
use Rattle.std.proofs.Common.{◌≡◌, ◌≤◌, ◌++◌, drop, length}
use mathlib.Core.List.{filter_map}
use Rattle.merging.specs.Numbering.{number_in}
use Rattle.merging.proofs.dropping.kept.Given as goal

abbrev pub invariant-loop-i : goal.invariant-loop-i
invariant-loop-i l =
    (length l.new.items ≤ l.i-index)
    × (l.new.items ++ filter_map (number_in l.numbers) (drop l.i-index l.list) ≡ filter_map (number_in l.numbers) l.list)

-- The floats before x are written, up to the place `end`.
use Rattle.std.proofs.Common.{take}
use mathlib.Core.List.{map}
use Rattle.rules.specs.Listing.{hex_of}
use Rattle.reports.specs.Lines.{Wrote, tabbed}
use Rattle.reports.proofs.fields.hexes.Given as goal

abbrev pub invariant-loop-x : goal.invariant-loop-x
invariant-loop-x l = Wrote l.at (tabbed (map hex_of (take l.x-index (take l.k l.xs)))) l.initial.out l.out l.end

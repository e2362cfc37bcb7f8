-- The lines of the first i entries are written, none longer than 314 bytes.
use Rattle.std.proofs.Common.{◌+◌, ◌*◌, ◌≤◌}
use Rattle.rules.specs.Slices.{tree_of}
use Rattle.reports.specs.Lines.{Wrote}
use Rattle.reports.specs.Entries.{lines_to}
use Rattle.reports.proofs.entries.write_entries.Given as goal

abbrev pub invariant-loop-i : goal.invariant-loop-i
invariant-loop-i l = record {
  short : l.end ≤ l.at + 314 * l.i;
  written : Wrote l.at (lines_to l.s (tree_of l.s l.n l.floats l.links) l.i) l.initial.out l.out l.end;
}

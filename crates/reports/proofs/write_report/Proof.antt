-- `reports::write_report` meets its contract: the first line, and the entries' lines behind it.
use mathlib.Core.Path.{ap}
use native.Mathlib.Omega.{arith}
use borrow.Author.Rules.{rules}
use Rattle.reports.specs.Lines.{wrote_long, wrote_both, wrote_is, counts_short}
use Rattle.rules.specs.Listing.{entry_lines}
use Rattle.reports.specs.Entries.{report-is}
use Rattle.rules.specs.Slices.{tree_of}
use Rattle.rules.specs.Calls.{lent_tree}
use Rattle.head.specs.declared.Settings.{Settings}
use Rattle.reports.proofs.write_report.Statement.{statement}
use Rattle.reports.proofs.write_report.Tie as tie

write-entries-requires : tie.Need-write_entries-requires
write-entries-requires c κs =
    let write-counts = c.before.before.before.before in
    let start = write-counts.before.before.before.before.before.before in
    let a = start.args in
    let counts = write-counts.write_counts-at.ensures in
    let short = counts_short a.h.counters.entries a.h.counters.running.threshold a.h.counters.running.rebuilds a.total in
    (rw c.settings.ensures start.requires.0.entries, omega (arith, counts.end, wrote_long counts, short))

returns : tie.Need-returns
unfolding lent_tree
returns c =
    let settings = c.before.before.before.before in
    let write-counts = settings.before.before.before in
    let start = write-counts.before.before.before.before.before.before in
    let a = start.args in
    let lines : Settings → _ = λ s. entry_lines s 0 (tree_of s a.h.counters a.floats.now a.links.now).entries in
    wrote_is (report-is start.requires.0) (wrote_both write-counts.write_counts-at.ensures (wrote_is (ap lines settings.settings.ensures)
    c.write_entries.ensures))

pub write_report_spec : {M : Type 1} → statement M
write_report_spec = tie.close (tie.spec (λ c κs. search rules) (λ c κs. search rules) write-entries-requires (λ c. search rules) returns)

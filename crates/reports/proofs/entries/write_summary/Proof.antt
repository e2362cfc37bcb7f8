-- `reports::entries::write_summary` meets its contract: the deviations behind the means, 17 bytes each.
use mathlib.Core.Path.{ap}
use native.Mathlib.Omega.{arith}
use borrow.Author.Rules.{rules}
use lib.ListN.{take}
use Rattle.reports.specs.Lines.{wrote_long, wrote_both, wrote_is, tabbed}
use mathlib.Core.List.{map}
use Rattle.rules.specs.Listing.{hex_of}
use Rattle.reports.specs.Entries.{slots_few, deviations_in, means_short, summary-is}
use Rattle.reports.proofs.entries.write_summary.Statement.{statement}
use Rattle.reports.proofs.entries.write_summary.Tie as tie

hexes-requires-2 : tie.Need-hexes-requires
hexes-requires-2 c κs =
    let hexes = c.before.before.before.before in
    let at_slots = hexes.before.before.before.before.before in
    let start = at_slots in
    let slots = at_slots.slots-slots.ensures in
    let e = hexes.hexes-end.ensures in
    let f = start.requires.0 in
    (omega (arith, slots, deviations_in _ _ f), omega (arith, slots, e.end, wrote_long e, means_short _ _ f, slots_few _ f.sized))

returns : tie.Need-returns
returns c =
    let hexes = c.before.before.before.before.before.before.before in
    let slots = hexes.before.before.before.before.before in
    let start = slots in
    let more = wrote_is (ap (λ k. tabbed (map hex_of (take k start.args.e.deviation))) slots.slots-slots.ensures) c.hexes.ensures in
    wrote_is (summary-is _ _ start.requires.0) (wrote_both hexes.hexes-end.ensures more)

pub write_summary_spec : {M : Type 1} → statement M
write_summary_spec =
    tie.close (tie.spec (λ c κs. search rules) (λ c. search rules) (λ c κs. search rules) (λ c. search rules) hexes-requires-2 (λ c. search rules) returns)

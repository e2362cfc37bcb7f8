-- The line of entry i stands behind those before it.
use Rattle.std.proofs.Common.{arith, sym}
use Rattle.arena.specs.Trees.{count_entries_lem}
use Rattle.reports.specs.Lines.{wrote_none, wrote_is}
use Rattle.reports.specs.Entries.{lines_none, lines-all, entry_fits, wrote_entry}
use Rattle.reports.proofs.entries.write_entries.Goals as goal

pub loop-i-init : goal.loop-i-init
loop-i-init c = record { short = omega arith; written = wrote_is (sym (lines_none _ _)) (wrote_none _ _ (omega arith)) }

pub write_entry-end-requires : goal.write_entry-end-requires
write_entry-end-requires c =
    let few = c.requires.0.few in
    (rw (c.summary-e.ensures c.args.links.now) (entry_fits c.requires.0 c.loop-i.i (omega arith)), omega arith)

pub loop-i-preserved : goal.loop-i-preserved
loop-i-preserved c =
    let loop = c.loop-i in
    let more = wrote_entry c.requires.0 loop.i (omega arith) loop.invariant.written loop.invariant.short (c.summary-e.ensures c.args.links.now) c.write_entry-end.ensures in
    record { short = more.0; written = more.1 }

pub returns : goal.returns
returns c =
    let long = count_entries_lem c.args.s c.args.n c.args.floats.now c.args.links.now in
    wrote_is (lines-all c.args.s _ c.loop-i.i (omega arith)) c.loop-i.invariant.written

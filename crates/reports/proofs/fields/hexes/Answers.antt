-- A float takes 17 bytes.
use Rattle.std.proofs.Common.{arith, ap, take, take_all}
use mathlib.Core.List.{map}
use Rattle.rules.specs.Listing.{hex_of}
use Rattle.std.proofs.Math.Seq.{length-take-le}
use Rattle.reports.specs.Lines.{wrote_none, wrote_both, wrote_is, tabbed, hexes_long, hexes_more}
use Rattle.reports.proofs.fields.hexes.Goals as goal

pub loop-x-init : goal.loop-x-init
unfolding tabbed
loop-x-init c = wrote_none _ _ (omega arith)

pub hex-end-requires : goal.hex-end-requires
hex-end-requires c =
    let xs = take c.args.k c.args.xs.now in
    let l = length-take-le c.args.k c.args.xs.now (omega arith) in
    let i = c.loop-x.x-index in
    omega (arith, c.loop-x.invariant.end, hexes_long (take i xs), length-take-le i xs (omega arith))

pub loop-x-preserved : goal.loop-x-preserved
loop-x-preserved c = wrote_is (hexes_more _ c.loop-x.x-index _ (omega arith)) (wrote_both c.loop-x.invariant c.hex-end.ensures)

pub returns : goal.returns
returns c = wrote_is (ap (λ xs. tabbed (map hex_of xs)) (take_all c.loop-x.x-index (take c.args.k c.args.xs.now) (omega arith))) c.loop-x.invariant

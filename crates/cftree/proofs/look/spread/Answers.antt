-- `cftree::look::spread` meets its contract: refused, the output is as lent; accepted, the entries' spread stands in front.
use Rattle.std.proofs.Common.{sym}
use Rattle.cftree.specs.Looks.{unwritten, front_written}
use Rattle.cftree.specs.Seen.{spread_seen}
use Rattle.rules.specs.Calls.{lent_tree, spread_written}
use Rattle.cftree.proofs.look.spread.Goals as goal

pub returns-in_err-spread : goal.returns-in_err-spread
unfolding spread_written
returns-in_err-spread c = unwritten _ _ _ _ c.from_residual.ensures.1 c.in_err-spread.ensures

pub write_spread-requires : goal.write_spread-requires
write_spread-requires c = let g = spread_seen _ _ _ _ (sym c.in_ok-spread.ensures) in rw c.settings.ensures (g.0.floats_in_lem, g.1)

pub returns : goal.returns
unfolding spread_written lent_tree
returns c = front_written _ _ _ c.in_ok-spread.ensures (rw c.settings.ensures at (c.write_spread.ensures c.args.links.now))

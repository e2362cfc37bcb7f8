-- `cftree::look::route` meets its contract: refused, the output is as lent; accepted, the rows' entries stand in front.
use Rattle.std.proofs.Common.{sym}
use Rattle.cftree.specs.Looks.{unwritten, front_written}
use Rattle.cftree.specs.Seen.{readable_seen, routable}
use Rattle.cftree.specs.Accepted.{rows_in}
use Rattle.rules.specs.Calls.{lent_tree, routed}
use Rattle.rules.specs.CallLaws.{route_taken}
use Rattle.cftree.proofs.look.route.Goals as goal

pub returns-in_err-route : goal.returns-in_err-route
unfolding routed
returns-in_err-route c = unwritten _ _ _ _ c.from_residual.ensures.1 c.in_err-route.ensures

pub nonzero_div-rows : goal.nonzero_div-rows
nonzero_div-rows c = rw c.settings-s.ensures (route_taken _ _ _ _ _ (sym c.in_ok-route.ensures)).readable.roomy.sized.dim_some

pub write_routes-requires : goal.write_routes-requires
unfolding lent_tree
write_routes-requires c =
    let a = c.args in
    let g = route_taken _ _ _ _ _ (sym c.in_ok-route.ensures) in
    let seen = readable_seen a.h a.floats.now a.links.now g.readable in
    rw c.settings-s.ensures record {
      floats = (seen.floats_in_lem, seen.links_in, rows_in _ _, g.room);
      routable = λ some. routable a.h a.floats.now a.links.now seen _ c.type_inv.floats (g.some some);
    }

pub returns : goal.returns
unfolding routed lent_tree
returns c = front_written _ _ _ c.in_ok-route.ensures (rw c.settings-s.ensures at c.write_routes.ensures)

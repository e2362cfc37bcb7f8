-- `refusals::look::route` meets its contract: the batch's shape after the tree, then an entry, then the output.
use Rattle.std.proofs.Common.{sym, ◌∙◌}
use Rattle.head.specs.Heads.{settings_of}
use Rattle.arena.specs.Trees.{count_entries_lem}
use Rattle.refusals.specs.Granted.{look_grants}
use Rattle.refusals.specs.Each.{passed_up, refused_first, others_answer}
use Rattle.rules.specs.Calls.{lent_tree, route_asked, route_refusals}
use Rattle.refusals.proofs.look.route.Goals as goal

pub returns-in_err-look : goal.returns-in_err-look
unfolding route_refusals
returns-in_err-look c = passed_up c.from_residual.ensures.1 ∙ refused_first _ _ c.in_err-look.ensures

pub shape-requires : goal.shape-requires
unfolding settings_of
shape-requires c = (look_grants _ _ _ (sym c.in_ok-look.ensures)).roomy.sized.dim_some

pub returns-in_err-shape : goal.returns-in_err-shape
unfolding settings_of route_refusals route_asked
returns-in_err-shape c = passed_up c.from_residual-in_err-shape.ensures.1 ∙ others_answer _ _ c.in_ok-look.ensures (refused_first _ _ c.in_err-shape.ensures)

pub nonzero_div-rows : goal.nonzero_div-rows
unfolding settings_of
nonzero_div-rows c = (look_grants _ _ _ (sym c.in_ok-look.ensures)).roomy.sized.dim_some

pub returns : goal.returns
unfolding settings_of lent_tree route_refusals route_asked
returns c =
    let a = c.args in
    let routes = c.routes.ensures _ (count_entries_lem (settings_of a.h) a.h.counters a.floats.now a.links.now) in
    others_answer _ _ c.in_ok-look.ensures (others_answer _ _ c.in_ok-shape.ensures routes)

-- `refusals::lent::look` meets its contract: the tree after settings and room.
use Rattle.std.proofs.Common.{sym, ◌∙◌}
use Rattle.refusals.specs.Granted.{create_grants}
use Rattle.refusals.specs.Each.{passed_up, refused_first, others_answer}
use Rattle.rules.specs.Calls.{tree_refusals, lent_tree}
use Rattle.refusals.proofs.lent.look.Goals as goal

pub returns-in_err-create : goal.returns-in_err-create
unfolding tree_refusals
returns-in_err-create c = passed_up c.from_residual.ensures.1 ∙ refused_first _ _ c.in_err-create.ensures

pub tree_check-requires : goal.tree_check-requires
tree_check-requires c = let g = create_grants _ _ _ (sym c.in_ok-create.ensures) in rw c.settings.ensures (g.sized, g.floats_room, g.links_room)

pub returns : goal.returns
unfolding tree_refusals lent_tree
returns c = others_answer _ _ c.in_ok-create.ensures (rw c.settings.ensures at c.tree_check.ensures)

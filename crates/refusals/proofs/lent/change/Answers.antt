-- `refusals::lent::change` meets its contract: scratch after the slices of the tree, and then the tree.
use Rattle.std.proofs.Common.{sym, ap, ◌∙◌}
use Rattle.refusals.specs.Granted.{create_grants, change_parts}
use Rattle.refusals.specs.Each.{passed_up, refused_first, others_answer}
use Rattle.rules.specs.Calls.{answer_of, lent_tree}
use Rattle.refusals.proofs.lent.change.Goals as goal

pub returns-in_err-create : goal.returns-in_err-create
returns-in_err-create c = passed_up c.from_residual.ensures.1 ∙ refused_first _ _ c.in_err-create.ensures ∙ ap answer_of (change_parts _ _)

pub scratch_floats_needed-requires : goal.scratch_floats_needed-requires
scratch_floats_needed-requires c = rw c.settings-s.ensures (create_grants _ _ _ (sym c.in_ok-create.ensures)).sized

pub scratch_links_needed-requires : goal.scratch_links_needed-requires
scratch_links_needed-requires c = rw c.settings-s.ensures (create_grants _ _ _ (sym c.in_ok-create.ensures)).sized

pub returns-in_err-room : goal.returns-in_err-room
returns-in_err-room c =
    let scratch = rw (c.scratch_links_needed.ensures, c.scratch_floats_needed.ensures, c.settings-s.ensures) at c.in_err-room.ensures in
    passed_up c.from_residual-in_err-room.ensures.1
    ∙ others_answer _ _ c.in_ok-create.ensures (refused_first _ _ scratch) ∙ ap answer_of (change_parts _ _)

pub tree_check-requires : goal.tree_check-requires
tree_check-requires c = let g = create_grants _ _ _ (sym c.in_ok-create.ensures) in rw c.settings-s.ensures (g.sized, g.floats_room, g.links_room)

pub returns : goal.returns
unfolding lent_tree
returns c =
    let scratch = rw (c.scratch_links_needed.ensures, c.scratch_floats_needed.ensures, c.settings-s.ensures) at c.in_ok-room.ensures in
    let tree = rw c.settings-s.ensures at c.tree_check.ensures in
    others_answer _ _ c.in_ok-create.ensures (others_answer _ _ scratch tree) ∙ ap answer_of (change_parts _ _)

-- The summary and then the list of one node are written.
use Rattle.std.proofs.Common.{◌∙◌, ap}
use Rattle.rules.specs.Tree.{with_list}
use Rattle.arena.specs.Trees.{on_node}
use Rattle.split.specs.Parts.{refill_is}
use Rattle.split.proofs.part.refill.Goals as goal

pub returns : goal.returns
returns c =
    let a = c.args in
    c.set_list.ensures _ ∙ ap (on_node (with_list a.list.now) a.i) (c.put.ensures a.links.now) ∙ refill_is a.c a.list.now a.i _

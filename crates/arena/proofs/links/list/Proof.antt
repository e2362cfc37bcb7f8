-- `arena::links::list` meets its contract: read from block i.
use mathlib.Core.Path.{ap, ◌∙◌}
use Rattle.rules.specs.Slices.{node_in, slot_at}
use Rattle.arena.specs.Trees.{part_at, node_block}
use Rattle.arena.specs.Numbered.{block_at_lem}
use Rattle.arena.proofs.links.list.Statement.{statement}
use Rattle.arena.proofs.links.list.Tie as tie

part-requires : tie.Need-part-requires
part-requires c κs = let start = c.before in node_block start.args.s start.args.n _ start.args.i start.requires.0 start.requires.1

list-requires : tie.Need-list-requires
list-requires c κs =
    let start = c.before.before in
    rw c.part.ensures
    (block_at_lem start.args.s start.args.links.now start.args.i
    (node_block start.args.s start.args.n _ start.args.i start.requires.0 start.requires.1))

returns : tie.Need-returns
returns c =
    let start = c.before.before.before in
    let s = start.args.s in
    λ fs. let p = slot_at s fs start.args.i in
    c.list.ensures p ∙ ap (λ b. (node_in s p b).list) c.part.ensures
    ∙ part_at s start.args.n fs start.args.links.now (λ m. m.list) start.args.i start.requires.1

pub list_spec : {M : Type 1} → statement M
list_spec = tie.close (tie.spec part-requires list-requires returns)

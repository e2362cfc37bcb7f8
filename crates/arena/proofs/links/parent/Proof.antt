-- `arena::links::parent` meets its contract: read from block i.
use mathlib.Core.Path.{ap, ◌∙◌}
use Rattle.rules.specs.Slices.{node_in, slot_at}
use Rattle.rules.specs.Tree.{Node}
use Rattle.arena.specs.Trees.{part_at, node_block}
use Rattle.arena.specs.Numbered.{block_at_lem}
use Rattle.arena.proofs.links.parent.Statement.{statement}
use Rattle.arena.proofs.links.parent.Tie as tie

part-requires : tie.Need-part-requires
part-requires c κs = let start = c.before in node_block start.args.s start.args.n _ start.args.i start.requires.0 start.requires.1

parent-of-requires : tie.Need-parent_of-requires
parent-of-requires c κs =
    let start = c.before.before in
    rw c.part.ensures (block_at_lem start.args.s start.args.links.now start.args.i
    (node_block start.args.s start.args.n _ start.args.i start.requires.0 start.requires.1))

returns : tie.Need-returns
returns c =
    let start = c.before.before.before in
    let s = start.args.s in
    let part : Node → _ = λ m. m.parent in
    λ fs. let p = slot_at s fs start.args.i in
    c.parent_of.ensures p ∙ ap (λ b. part (node_in s p b)) c.part.ensures ∙ part_at s start.args.n fs start.args.links.now part
    start.args.i start.requires.1

pub parent_spec : {M : Type 1} → statement M
parent_spec = tie.close (tie.spec part-requires parent-of-requires returns)

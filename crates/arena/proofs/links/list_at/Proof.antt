-- `arena::links::list_at` meets its contract: read from block i.
use Prim.Native.Nat.{ℕ, ◌<◌}
use mathlib.Core.Path.{ap, ◌∙◌}
use lib.ListN.{length, get_or}
use Rattle.rules.specs.Slices.{node_in, slot_at}
use Rattle.rules.specs.Tree.{Node}
use Rattle.arena.specs.Trees.{part_at, list_there, node_block}
use Rattle.arena.specs.Numbered.{block_at_lem}
use Rattle.arena.proofs.links.list_at.Statement.{statement}
use Rattle.arena.proofs.links.list_at.Tie as tie

part-requires : tie.Need-part-requires
part-requires c κs = let start = c.before in node_block start.args.s start.args.n _ start.args.i start.requires.0 start.requires.1

list-at-requires : tie.Need-list_at-requires
list-at-requires c κs =
    let start = c.before.before in
    rw c.part.ensures (
      block_at_lem start.args.s start.args.links.now start.args.i
          (node_block start.args.s start.args.n _ start.args.i start.requires.0 start.requires.1),
      list_there start.args.s start.args.n
          start.args.links.now start.args.i start.requires.1 (λ l. start.args.k < length l) start.requires.2,
    )

returns : tie.Need-returns
returns c =
    let start = c.before.before.before in
    let s = start.args.s in
    let part : Node → ℕ = λ m. get_or m.list start.args.k 0 in (
      λ fs. let p = slot_at s fs start.args.i in c.list_at.ensures.0 p ∙ ap (λ b. part (node_in s p b)) c.part.ensures ∙ part_at s
          start.args.n fs start.args.links.now part start.args.i start.requires.1,
      c.list_at.ensures.1,
    )

pub list_at_spec : {M : Type 1} → statement M
list_at_spec = tie.close (tie.spec part-requires list-at-requires returns)

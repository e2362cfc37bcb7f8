-- `arena::children::between` meets its contract: both children stand in their slots.
use mathlib.Core.Path.{sym, ap, ◌∙◌, ap₂}
use Rattle.distance.specs.Distances.{between_of}
use Rattle.arena.specs.Trees.{child_small, child_slot_lem, child-at}
use Rattle.arena.specs.Numbered.{summary_at}
use Rattle.arena.proofs.children.between.Statement.{statement}
use Rattle.arena.proofs.children.between.Tie as tie

place-requires : tie.Need-place-a-requires
place-requires c κs =
    let start = c.before in
    (start.requires.0.sized, child_small start.args.s start.args.n _ start.args.leaf start.args.i start.requires.0 start.requires.1)

place-requires-2 : tie.Need-place-b-requires
place-requires-2 c κs =
    let start = c.before.before in
    (start.requires.0.sized, child_small start.args.s start.args.n _ start.args.leaf start.args.j start.requires.0 start.requires.2)

between-requires : tie.Need-between-requires
between-requires c κs =
    let start = c.before.before.before in
    let slot = child_slot_lem start.args.s start.args.n _ start.args.leaf in (
      rw c.place-a.ensures (slot start.args.i start.requires.0 start.requires.1),
      rw c.place-b.ensures
          (slot start.args.j start.requires.0 start.requires.2),
    )

returns : tie.Need-returns
returns c =
    let start = c.before.before.before.before in
    let s = start.args.s in
    let fs = start.args.floats.now in
    let leaf = start.args.leaf in
    λ ls. c.between.ensures ∙ ap₂ (λ x y. between_of start.args.k s.feature s.dim x y)
    (ap (summary_at s fs) c.place-a.ensures ∙ sym (child-at s start.args.n fs ls leaf start.args.i start.requires.1))
    (ap (summary_at s fs) c.place-b.ensures ∙ sym (child-at s start.args.n fs ls leaf start.args.j start.requires.2))

pub between_spec : {M : Type 1} → statement M
between_spec = tie.close (tie.spec place-requires place-requires-2 between-requires returns)

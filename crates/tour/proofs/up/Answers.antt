-- To the parent, where there is one.
use Rattle.std.proofs.Common.{◌∙◌, sym, ap, []}
use Rattle.arena.specs.Trees.{count_nodes_lem}
use Rattle.tour.specs.Walking.{place_after, up_of}
use Rattle.tour.specs.declared.Step.TheVariants.{Up}
use Rattle.tour.proofs.up.Goals as goal

pub list-requires : goal.list-requires
list-requires c = (
  c.requires.0,
  rw (← count_nodes_lem c.args.s c.args.n [] c.args.links.now) (c.requires.2 [] c.in-Some.p (sym (c.in-Some.ensures []))),
)

pub returns-in-Some : goal.returns-in-Some
unfolding up_of
returns-in-Some c =
    λ fs. ap (Up c.in-Some.p) (c.place_after.ensures ∙ ap (place_after c.args.i) (c.list.ensures fs))
    ∙ ap (up_of _ c.args.i) (c.in-Some.ensures fs)

pub returns-in-None : goal.returns-in-None
unfolding up_of
returns-in-None c = λ fs. ap (up_of _ c.args.i) (c.in-None.ensures fs)

-- Both halves written, and the moved nodes told of their parent if there are any.
use Rattle.std.proofs.Common.{◌∙◌, sym, ap, arith}
use lib.Seq.{length-take-le}
use Rattle.rules.specs.Slices.{tree_of}
use Rattle.arena.specs.Trees.{caps_small, count_nodes_lem}
use Rattle.split.specs.Parts.{adopted_by, split-leaf, split-inner, twos}
use Rattle.split.specs.Splitting.{halves_in, moved_in}
use Rattle.split.specs.Up.{links_more}
use Rattle.split.proofs.split.Goals as goal

pub part-r-requires-clause-halves_in : goal.part-r-requires-clause-halves_in
part-r-requires-clause-halves_in c = halves_in _ _ _ _ c.requires.floats.0.sized c.requires.splits c.groups-h.ensures

pub returns-then-leaf-clause-links_after : goal.returns-then-leaf-clause-links_after
returns-then-leaf-clause-links_after c =
    c.part-r.ensures.links_after
    ∙ split-leaf c.args.s c.args.i c.groups-h.result _ c.groups-h.ensures (sym (c.is_leaf-leaf.ensures c.args.floats.now) ∙ c.if-leaf.true)

pub slice_bounds-two-end : goal.slice_bounds-two-end
slice_bounds-two-end c = let h = halves_in _ _ _ _ c.requires.floats.0.sized c.requires.splits c.groups-h.ensures in omega (arith, h.two_long, h.twos-few)

pub slice_bounds-adopt-end : goal.slice_bounds-adopt-end
slice_bounds-adopt-end c =
    let h = halves_in _ _ _ _ c.requires.floats.0.sized c.requires.splits c.groups-h.ensures in
    sym (length-take-le c.groups-h.result.twos c.groups-h.result.two (omega (arith, h.two_long, h.twos-few)))

pub adopt-requires-clause-links : goal.adopt-requires-clause-links
adopt-requires-clause-links c =
    let small = caps_small c.args.s c.args.n _ c.requires.floats.0 in (
      links_more c.args.s c.args.n c.part-r.result c.part-r.ensures.value c.part-r.auto.links c.requires.floats.1 c.requires.floats.3,
      omega (arith, c.requires.floats.3),
    )

pub adopt-requires-clause-k_bound : goal.adopt-requires-clause-k_bound
adopt-requires-clause-k_bound c =
    moved_in _ _ _ _ (halves_in _ _ _ _ c.requires.floats.0.sized c.requires.splits c.groups-h.ensures)
    (sym (c.is_leaf-leaf.ensures c.args.floats.now) ∙ c.if-leaf.false) c.part-r.ensures.value

pub returns-clause-links_after : goal.returns-clause-links_after
returns-clause-links_after c =
    let a = c.args in
    let fs = a.floats.now in
    let ls = a.links.now in
    c.adopt.ensures c.part-r.new.floats ∙ ap (adopted_by a.n.nodes (twos c.groups-h.result)) c.part-r.ensures.links_after
    ∙ split-inner a.s a.i c.groups-h.result (tree_of a.s a.n fs ls) c.groups-h.ensures (count_nodes_lem a.s a.n fs ls)
    (sym (c.is_leaf-leaf.ensures fs) ∙ c.if-leaf.false)

-- The new root's summary is gathered before a link is written.
use Rattle.std.proofs.Common.{◌∙◌, ap, arith}
use Rattle.rules.specs.Slices.{tree_of}
use Rattle.arena.specs.Trees.{caps_small, count_nodes_lem}
use Rattle.arena.specs.Writes.{tree-rooted}
use Rattle.split.specs.Crown.{pair_in, pair_room, crown_is}
use Rattle.split.proofs.crown.Goals as goal

pub overflow_cast-pair : goal.overflow_cast-pair
overflow_cast-pair c = let k = caps_small c.args.s c.args.n _ c.requires.0 in omega (arith, c.requires.2, c.requires.4)

pub overflow_cast-pair-2 : goal.overflow_cast-pair-2
overflow_cast-pair-2 c = let k = caps_small c.args.s c.args.n _ c.requires.0 in omega (arith, c.requires.3, c.requires.4)

pub gather-c-requires : goal.gather-c-requires
gather-c-requires c = (c.requires.0, pair_in c.args.n c.args.i c.args.j c.requires.2 c.requires.3)

pub set_parent-requires : goal.set_parent-requires
set_parent-requires c =
    let k = caps_small c.args.s c.args.n _ c.requires.0 in (c.requires.1, c.requires.2, omega (arith, c.requires.4))

pub set_parent-requires-2 : goal.set_parent-requires-2
set_parent-requires-2 c =
    let k = caps_small c.args.s c.args.n _ c.requires.0 in
    (rw c.set_parent.auto.links c.requires.1, c.requires.3, omega (arith, c.requires.4))

pub append-r-requires-clause-parent_fits : goal.append-r-requires-clause-parent_fits
append-r-requires-clause-parent_fits c = (tt, pair_room c.args.s c.requires.0.sized)

pub returns-clause-links_after : goal.returns-clause-links_after
returns-clause-links_after c =
    let a = c.args in
    let fs = a.floats.now in
    let ls = a.links.now in
    ap (λ m. tree_of a.s m c.append-r.new.floats c.append-r.new.links) c.with_root.ensures
    ∙ tree-rooted a.s c.append-r.result a.n.nodes c.append-r.new.floats c.append-r.new.links
    ∙ crown_is a.s a.i a.j a.n.nodes (tree_of a.s a.n fs ls) (count_nodes_lem a.s a.n fs ls) (c.gather-c.ensures.any_links ls)
    (c.set_parent.ensures fs) (c.set_parent-2.ensures fs) c.append-r.ensures.links_after

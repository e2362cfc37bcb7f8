-- Both summaries are gathered before a node is written.
use Rattle.rules.specs.Slices.{tree_of}
use Rattle.split.specs.Parts.{halves_are}
use Rattle.split.proofs.part.part.Goals as goal

pub returns-clause-links_after : goal.returns-clause-links_after
returns-clause-links_after c =
    let a = c.args in
    let fs = a.floats.now in
    let ls = a.links.now in
    halves_are a.s a.i a.h (tree_of a.s a.n fs ls) (c.is_leaf-leaf.ensures fs) (c.parent-parent.ensures fs)
    (c.gather-a.ensures.any_links ls) (c.gather-b.ensures.any_links ls) c.refill.ensures c.append.ensures.links_after

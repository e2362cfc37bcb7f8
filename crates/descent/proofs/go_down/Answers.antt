-- A turn goes from a node that is no leaf to the closest of its children.
use Rattle.std.proofs.Common.{false, sym, ap, ◌∙◌}
use Rattle.rules.specs.Slices.{tree_of}
use Rattle.rules.specs.Descent.{closest}
use Rattle.descent.specs.Forms.{node_distance}
use Rattle.bounds.specs.Sure.{root_there, list_filled, children_in}
use Rattle.descent.specs.Paths.{down_start, down_leaf, down_on, down_end}
use Rattle.descent.proofs.go_down.Goals as goal

pub loop-init : goal.loop-init
loop-init c = record { there = root_there _ _ _ _ c.requires.sure; left = down_start _ _ _ _ _ }

pub is_leaf-requires : goal.is_leaf-requires
is_leaf-requires c = (c.requires.floats.1, c.loop.invariant.there)

pub returns-then-is_leaf-clause-value : goal.returns-then-is_leaf-clause-value
returns-then-is_leaf-clause-value c =
    sym (down_leaf _ _ _ c.loop.i (sym (c.is_leaf.ensures _) ∙ c.if-is_leaf.true)) ∙ c.loop.invariant.left

pub returns-then-is_leaf-clause-upper_bound : goal.returns-then-is_leaf-clause-upper_bound
returns-then-is_leaf-clause-upper_bound c = c.loop.invariant.there

pub list-requires : goal.list-requires
list-requires c = (c.requires.floats.1, c.loop.invariant.there)

pub nearest_child-i-requires : goal.nearest_child-i-requires
nearest_child-i-requires c =
    let inner = sym (c.is_leaf.ensures c.args.floats.now) ∙ c.if-is_leaf.false in
    let list = c.list.ensures c.args.floats.now in
    let here = c.loop.invariant.there in (
      c.requires.floats.0,
      c.requires.floats.2,
      rw list (list_filled _ _ _ _ c.requires.sure _ here inner),
      rw list (children_in _ _ _ _ c.requires.sure _ here false inner),
    )

pub loop-preserved : goal.loop-preserved
loop-preserved c =
    let a = c.args in
    let loop = c.loop in
    let f = node_distance a.s a.item (tree_of a.s a.n a.floats.now a.links.now) in
    let near = c.nearest_child-i.ensures.any_links a.links.now ∙ ap (closest f) (c.list.ensures a.floats.now) in
    let inner = sym (c.is_leaf.ensures a.floats.now) ∙ c.if-is_leaf.false in
    record {
      there = c.nearest_child-i.ensures.upper_bound;
      left = down_on _ _ a.n.nodes loop.counter loop.i c.loop-test.true inner near ∙ loop.invariant.left;
    }

pub returns-clause-value : goal.returns-clause-value
returns-clause-value c = sym (down_end _ _ c.args.n.nodes c.loop.counter c.loop.i c.loop-test.false) ∙ c.loop.invariant.left

pub returns-clause-upper_bound : goal.returns-clause-upper_bound
returns-clause-upper_bound c = c.loop.invariant.there

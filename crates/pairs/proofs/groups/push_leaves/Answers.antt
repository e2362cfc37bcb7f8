-- Each leaf makes the pairs of its list.
use Rattle.std.proofs.Common.{◌+◌, ◌++◌, ◌≡◌, ◌∙◌, ap, arith, drop, length, length-append, slice_index_or, subst, sym, true}
use Rattle.rules.specs.Tree.{node_at}
use Rattle.rules.specs.Slices.{tree_of}
use Rattle.rules.specs.Pairs.{partners, beneath}
use Rattle.arena.specs.Trees.{ChildrenIn}
use Rattle.bounds.specs.Sure.{node_listed}
use Rattle.scratch.specs.Stored.{pairs_in}
use Rattle.pairs.specs.Groups.{beneath_turn, leaf_turn, leaves_done}
use Rattle.pairs.proofs.groups.push_leaves.Goals.{After-list-list}
use Rattle.pairs.proofs.groups.push_leaves.Goals as goal

-- what this leaf lists, and what is left behind it
left : (c : After-list-list) →
    let t = tree_of c.args.s c.args.n c.args.floats.now c.args.links.now in
    length c.list-list.result.now + length (beneath t (drop (c.loop-leaf.leaf-index + 1) c.args.leaves.now))
    ≡ length (beneath t (drop c.loop-leaf.leaf-index c.args.leaves.now))
left c =
    let t = tree_of c.args.s c.args.n c.args.floats.now c.args.links.now in
    let leaves = c.args.leaves.now in
    let k = c.loop-leaf.leaf-index in
    ap (λ l. length l + length (beneath t (drop (k + 1) leaves))) (c.list-list.ensures c.args.floats.now)
    ∙ sym (length-append (node_at t (slice_index_or leaves k 0)).list (beneath t (drop (k + 1) leaves)))
    ∙ ap length (sym (beneath_turn t leaves k c.loop-leaf-test.true))

pub list-list-requires : goal.list-list-requires
list-list-requires c = (c.requires.floats.1, node_listed _ _ c.requires.floats.2.nodes c.loop-leaf.leaf-index c.loop-leaf-test.true)

pub push_leaf-m-requires-clause-children_in : goal.push_leaf-m-requires-clause-children_in
push_leaf-m-requires-clause-children_in c =
    let inv = c.loop-leaf.invariant in
    let more = left (goal.at.push_leaf-m-requires-clause-children_in c).After-list-list in (
      subst (ChildrenIn c.args.n true) (sym (c.list-list.ensures c.args.floats.now))
          (c.requires.floats.2.entries c.loop-leaf.leaf-index c.loop-leaf-test.true),
      record {
        floats_in_lem = omega (arith, inv.0, c.loop-leaf.auto.costs, c.requires.room.floats_in_lem);
        numbers_in = omega (arith, inv.0, c.loop-leaf.auto.numbers, c.requires.room.numbers_in);
      },
    )

pub loop-leaf-preserved : goal.loop-leaf-preserved
loop-leaf-preserved c =
    let t = tree_of c.args.s c.args.n c.args.floats.now c.args.links.now in
    let l = c.loop-leaf in
    let leaves = c.args.leaves.now in
    let more = left (goal.at.loop-leaf-preserved c).After-list-list in (
      omega (arith, l.invariant.0, c.push_leaf-m.ensures.upper_bound),
      leaf_turn c.args.s t (beneath t leaves) leaves l.leaf-index (pairs_in l.costs l.numbers l.m) _ c.loop-leaf-test.true
          (c.push_leaf-m.ensures.result_after
          ∙ ap (λ x. pairs_in l.costs l.numbers l.m ++ partners c.args.s t (beneath t leaves) x) (c.list-list.ensures c.args.floats.now))
          ∙ l.invariant.1,
    )

pub returns-clause-result_after : goal.returns-clause-result_after
returns-clause-result_after c =
    sym (leaves_done _ _ _ c.args.leaves.now c.loop-leaf.leaf-index _ c.loop-leaf-test.false) ∙ c.loop-leaf.invariant.1

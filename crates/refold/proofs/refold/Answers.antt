use Rattle.std.proofs.Common.{◌≡◌, ◌∙◌, ◌≤◌, ◌<◌, refl, sym, ap, subst, length, reverse, [], ◌∷◌, arith}
use Rattle.rules.specs.Lists.{occurs}
use Rattle.rules.specs.Tree.{node_at}
use Rattle.rules.specs.Slices.{tree_of}
use Rattle.rules.specs.Refold.{preorder, refold_all}
use Rattle.arena.specs.Trees.{count_nodes_lem}
use Rattle.bounds.specs.Framed.{root_in}
use Rattle.counting.specs.Places.{get_occurs}
use Rattle.refold.specs.Walk.{last_under, Backward, walk_back}
use Rattle.refold.specs.Refolding.{list_filled, same_list, same-leaf, back_in, back_some, back_top, back_next, back_all, order-few}
use Rattle.refold.proofs.refold.Goals as goal

pub last-i-requires : goal.last-i-requires
last-i-requires c = (
  c.requires.floats.1,
  (c.args.floats.now, c.requires.standing.0),
  root_in c.args.s c.args.n c.args.floats.now c.args.links.now c.requires.standing.0.framed,
)

pub loop-init : goal.loop-init
unfolding tree_of
loop-init c =
    let s = c.args.s in
    let n = c.args.n in
    let fs = c.args.floats.now in
    let t = tree_of s n fs c.args.links.now in
    let count = count_nodes_lem s n fs c.args.links.now in
    let rs = reverse (preorder t (length t.nodes) (t.root ∷ [])) in
    let few : length rs ≤ n.nodes = subst (λ k. length rs ≤ k) count (order-few t (length t.nodes) (t.root ∷ [])) in (
      rs,
      subst (λ i. Backward t i rs) (ap (λ k. last_under t k n.root) count ∙ sym (c.last-i.ensures fs)) (walk_back s t c.requires.standing.0),
      omega (arith, few),
      refl,
      refl,
      back_all s t c.requires.standing.0 t refl,
    )

pub refold_node-requires-clause-floats : goal.refold_node-requires-clause-floats
refold_node-requires-clause-floats c = (
  rw c.loop.invariant.3 c.requires.floats.0,
  c.requires.floats.1,
  (c.args.floats.now, c.requires.standing.0),
  (rw (count_nodes_lem c.args.s c.args.n c.args.floats.now c.args.links.now) at (back_in c.args.s (tree_of c.args.s c.args.n c.args.floats.now c.args.links.now) c.requires.standing.0 c.loop.invariant.1)),
)

pub refold_node-requires-clause-list_nonzero : goal.refold_node-requires-clause-list_nonzero
refold_node-requires-clause-list_nonzero c = (
  list_filled c.args.s c.args.n c.args.links.now c.args.floats.now c.loop.floats c.requires.standing.1 c.loop.i
      (rw (count_nodes_lem c.args.s c.args.n c.args.floats.now c.args.links.now) at (back_in c.args.s (tree_of c.args.s c.args.n c.args.floats.now c.args.links.now) c.requires.standing.0 c.loop.invariant.1)),
  rw c.loop.invariant.4 c.requires.floats.2,
)

pub parent-requires : goal.parent-requires
parent-requires c = (c.requires.floats.1, (rw (count_nodes_lem c.args.s c.args.n c.args.floats.now c.args.links.now) at (back_in c.args.s (tree_of c.args.s c.args.n c.args.floats.now c.args.links.now) c.requires.standing.0 c.loop.invariant.1)))

pub returns-in_default : goal.returns-in_default
returns-in_default c =
    c.refold_node.ensures
    ∙ back_top c.args.s (tree_of c.args.s c.args.n c.args.floats.now c.args.links.now) c.requires.standing.0 _ c.loop.invariant.1 (sym (c.parent.ensures c.args.floats.now) ∙ c.in_default.is)
    ∙ c.loop.invariant.5

pub before-i-requires-clause-links : goal.before-i-requires-clause-links
before-i-requires-clause-links c =
    let q = back_next c.args.s (tree_of c.args.s c.args.n c.args.floats.now c.args.links.now) c.requires.standing.0 _ c.loop.invariant.1 (sym (c.in-Some.ensures c.args.floats.now)) in
    (c.requires.floats.1, (c.args.floats.now, c.requires.standing.0), rw (count_nodes_lem c.args.s c.args.n c.args.floats.now c.args.links.now) at q.parent_in)

pub before-i-requires-clause-any_floats : goal.before-i-requires-clause-any_floats
before-i-requires-clause-any_floats c =
    let s = c.args.s in
    let n = c.args.n in
    let fs = c.args.floats.now in
    let ls = c.args.links.now in
    let q = back_next c.args.s (tree_of c.args.s c.args.n c.args.floats.now c.args.links.now) c.requires.standing.0 _ c.loop.invariant.1 (sym (c.in-Some.ensures c.args.floats.now)) in
    let p_in = rw (count_nodes_lem s n fs ls) at q.parent_in in
    let list = (node_at (tree_of c.args.s c.args.n c.args.floats.now c.args.links.now) c.in-Some.p).list in
    λ gs. (
      same-leaf s n ls _ p_in gs fs ∙ q.inner,
      subst (λ l. 0 < occurs c.loop.i l) (same_list s n ls _ p_in fs gs)
          (subst (λ j. 0 < occurs j list) q.here (get_occurs list q.k 0 q.place)),
    )

pub loop-preserved : goal.loop-preserved
loop-preserved c =
    let q = back_next c.args.s (tree_of c.args.s c.args.n c.args.floats.now c.args.links.now) c.requires.standing.0 _ c.loop.invariant.1 (sym (c.in-Some.ensures c.args.floats.now)) in (
      q.rest,
      subst (λ i. Backward (tree_of c.args.s c.args.n c.args.floats.now c.args.links.now) i q.rest) (sym (c.before-i.ensures c.args.floats.now q.k q.place q.here)) q.before,
      omega (arith, q.fewer, c.loop.invariant.2),
      c.refold_node.auto.floats ∙ c.loop.invariant.3,
      c.refold_node.auto.scratch ∙ c.loop.invariant.4,
      ap (refold_all c.args.s q.rest) c.refold_node.ensures ∙ q.one _ ∙ c.loop.invariant.5,
    )

pub returns : goal.returns
returns c =
    absurd (omega (arith, c.loop.invariant.2, c.loop-test.false, back_some c.args.s (tree_of c.args.s c.args.n c.args.floats.now c.args.links.now) c.requires.standing.0 c.loop.invariant.1))

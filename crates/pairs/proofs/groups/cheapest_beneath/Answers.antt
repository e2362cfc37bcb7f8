-- What one leaf lists comes before what is left beneath the others.
use Rattle.std.proofs.Common.{◌+◌, ◌∙◌, ap, drop, refl, slice_index_or, sym}
use Rattle.rules.specs.Tree.{node_at}
use Rattle.rules.specs.Slices.{tree_of}
use Rattle.rules.specs.Pairs.{cost_of, partner, beneath}
use Rattle.bounds.specs.Sure.{node_listed}
use Rattle.pairs.specs.Partners.{partner_of, Inside, partner-append}
use Rattle.pairs.specs.Groups.{beneath_turn, beneath_end}
use Rattle.pairs.proofs.groups.cheapest_beneath.Goals as goal

pub loop-leaf-init : goal.loop-leaf-init
unfolding Inside
loop-leaf-init c = (tt, refl)

pub list-list-requires : goal.list-list-requires
list-list-requires c = (c.requires.floats.1, node_listed _ _ c.requires.leaves.nodes c.loop-leaf.leaf-index c.loop-leaf-test.true)

pub loop-leaf-preserved : goal.loop-leaf-preserved
loop-leaf-preserved c =
    let i = c.args.i in
    let leaves = c.args.leaves.now in
    let t = tree_of c.args.s c.args.n c.args.floats.now c.args.links.now in
    let l = c.loop-leaf in
    let f = cost_of c.args.s t i in
    let rest = beneath t (drop (l.leaf-index + 1) leaves) in (
      c.cheapest-best.ensures.inside,
      ap (λ b. partner f i b rest)
          (c.cheapest-best.ensures.any_links c.args.links.now ∙ ap (partner f i (partner_of l.best)) (c.list-list.ensures c.args.floats.now))
          ∙ sym (partner-append f i (partner_of l.best) (node_at t (slice_index_or leaves l.leaf-index 0)).list rest)
          ∙ ap (partner f i (partner_of l.best)) (sym (beneath_turn t leaves l.leaf-index c.loop-leaf-test.true))
          ∙ l.invariant.1,
    )

pub returns-clause-result_value : goal.returns-clause-result_value
unfolding partner
returns-clause-result_value c =
    let i = c.args.i in
    let l = c.loop-leaf in
    let t = tree_of c.args.s c.args.n c.args.floats.now c.args.links.now in
    sym (ap (partner (cost_of c.args.s t i) i (partner_of l.best)) (beneath_end t c.args.leaves.now l.leaf-index c.loop-leaf-test.false)) ∙ l.invariant.1

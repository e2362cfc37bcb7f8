-- Each turn passes the entry by, or looks at its cost.
use Rattle.std.proofs.Common.{◌+◌, ◌∙◌, List, ℕ, ap, drop, refl, slice_index_or, sym}
use Rattle.binary64.specs.Values.{ranked}
use Rattle.rules.specs.Slices.{tree_of}
use Rattle.rules.specs.Pairs.{cost_of, cheaper, partner}
use Rattle.arena.specs.Trees.{ChildrenIn, ChildIn}
use Rattle.pairs.specs.Partners.{partner_of, inside_cheaper, partner_turn, partner_skip, partner_end}
use Rattle.pairs.proofs.partner.cheapest.Goals.{then-number-i, else-number-i}
use Rattle.pairs.proofs.partner.cheapest.Goals as goal

pub loop-number-init : goal.loop-number-init
loop-number-init c = (c.requires.3, λ ls. refl)

pub merge_cost-requires : goal.merge_cost-requires
unfolding ChildrenIn ChildIn
merge_cost-requires c = (c.requires.0, c.requires.2, c.requires.1 c.loop-number.number-index c.loop-number-test.true)

pub loop-number-preserved : goal.loop-number-preserved
unfolding ChildrenIn ChildIn cost_of
loop-number-preserved c =
    let i = c.args.i in
    let l = c.loop-number in
    let list = c.args.list.now in
    let f = λ (ls : List ℕ). cost_of c.args.s (tree_of c.args.s c.args.n c.args.floats.now ls) i in
    let more = c.loop-number-test.true in
    elim c.if-number-i.branch [
      | then-number-i w ↦ (
        rw (w.best-is, w.cheaper.ensures) (inside_cheaper c.args.n.entries (partner_of l.best) _ _ l.invariant.0 (c.requires.1 l.number-index more)),
        λ ls. partner_turn (f ls) i (partner_of l.best) list l.number-index _ more w.if-number-i.true
            (ap partner_of w.best-is ∙ w.cheaper.ensures
            ∙ ap (cheaper (partner_of l.best) (slice_index_or list l.number-index 0)) (w.rank-cost.ensures ∙ ap ranked (w.merge_cost.ensures ls)))
            ∙ l.invariant.1 ls,
      )
      | else-number-i w ↦ (
        rw w.best-is l.invariant.0,
        λ ls. ap (λ b. partner (f ls) i (partner_of b) (drop (l.number-index + 1) list)) w.best-is
            ∙ partner_skip (f ls) i (partner_of l.best) list l.number-index more w.if-number-i.false ∙ l.invariant.1 ls,
      )
    ]

pub returns-clause-any_links : goal.returns-clause-any_links
returns-clause-any_links c =
    λ ls. sym (partner_end _ _ _ c.args.list.now c.loop-number.number-index c.loop-number-test.false) ∙ c.loop-number.invariant.1 ls

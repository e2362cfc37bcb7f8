use Rattle.std.proofs.Common.{◌∙◌, sym, arith}
use lib.Ieee.{div, of_bits}
use Rattle.bounds.specs.Sure.{entry_listed}
use Rattle.descent.specs.Searched.{inside_entry, inside_nothing, search_start, search_taken, search_left, search_end}
use Rattle.descent.proofs.leaf.search_leaf.Goals as goal
use Rattle.descent.proofs.leaf.search_leaf.Goals.{then-d-least, else-d-least}

pub loop-c-init : goal.loop-c-init
unfolding div of_bits
loop-c-init c = (inside_nothing _, λ ls. search_start _ _)

pub to_row-d-requires : goal.to_row-d-requires
to_row-d-requires c = (c.requires.0, entry_listed _ _ c.requires.2 _ c.loop-c-test.true, c.requires.1)

pub loop-c-preserved : goal.loop-c-preserved
loop-c-preserved c =
    let more = c.loop-c-test.true in
    let far = c.to_row-d.ensures in
    elim c.if-d-least.branch [
      | then-d-least w ↦ (
        rw w.near-is (inside_entry _ _ (entry_listed _ _ c.requires.2 _ more)),
        λ ls. rw (w.near-is, w.least-is) (search_taken _ _ _ c.loop-c.near c.loop-c.least more (far ls) w.if-d-least.true ∙ c.loop-c.invariant.1 ls),
      )
      | else-d-least w ↦ (
        rw w.near-is c.loop-c.invariant.0,
        λ ls. rw (w.near-is, w.least-is) (search_left _ _ _ c.loop-c.near c.loop-c.least more (far ls) w.if-d-least.false ∙ c.loop-c.invariant.1 ls),
      )
    ]

pub returns-clause-any_links : goal.returns-clause-any_links
returns-clause-any_links c =
    λ ls. sym (search_end _ _ c.loop-c.c-index c.loop-c.near c.loop-c.least (omega arith)) ∙ c.loop-c.invariant.1 ls

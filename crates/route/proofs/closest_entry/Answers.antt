-- A turn takes the entry at the index if it is strictly closer, and leaves the closest so far if not.
use Rattle.std.proofs.Common.{◌+◌, sym, ◌∙◌}
use Rattle.bounds.specs.Sure.{entry_listed}
use Rattle.descent.specs.Nearest.{behind_at, nearest_start, nearest-taken, nearest-left, nearest_end}
use Rattle.route.proofs.closest_entry.Goals as goal
use Rattle.route.proofs.closest_entry.Goals.{then-d-least, else-d-least}

pub to_row-least-requires : goal.to_row-least-requires
to_row-least-requires c = (c.requires.0, entry_listed _ _ c.requires.3 0 c.requires.2, c.requires.1)

pub loop-e-init : goal.loop-e-init
loop-e-init c = (entry_listed _ _ c.requires.3 0 c.requires.2, λ ls. nearest_start _ _ c.requires.2 (c.to_row-least.ensures ls))

pub to_row-d-requires : goal.to_row-d-requires
to_row-d-requires c =
    let b = behind_at c.args.list.now c.loop-e.e-index c.loop-e-test.true in
    (c.requires.0, rw b.1 (entry_listed _ _ c.requires.3 (c.loop-e.e-index + 1) b.0), c.requires.1)

pub loop-e-preserved : goal.loop-e-preserved
loop-e-preserved c =
    let loop = c.loop-e in
    let more = c.loop-e-test.true in
    let far = c.to_row-d.ensures in
    let b = behind_at c.args.list.now loop.e-index more in
    elim c.if-d-least.branch [
      | then-d-least w ↦ (
        rw (w.best-is, b.1) (entry_listed _ _ c.requires.3 (loop.e-index + 1) b.0),
        λ ls. rw (w.best-is, w.least-is) (nearest-taken _ _ loop.e-index loop.best loop.least more (far ls) w.if-d-least.true ∙ loop.invariant.1 ls),
      )
      | else-d-least w ↦ (
        rw w.best-is loop.invariant.0,
        λ ls. rw (w.best-is, w.least-is) (nearest-left _ _ loop.e-index loop.best loop.least more (far ls) w.if-d-least.false ∙ loop.invariant.1 ls),
      )
    ]

pub returns-clause-any_links : goal.returns-clause-any_links
returns-clause-any_links c =
    λ ls. sym (nearest_end _ _ c.loop-e.e-index c.loop-e.best c.loop-e.least c.loop-e-test.false) ∙ c.loop-e.invariant.1 ls

pub returns-clause-upper_bound : goal.returns-clause-upper_bound
returns-clause-upper_bound c = c.loop-e.invariant.0

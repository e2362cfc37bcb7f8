-- A turn takes the number at the index if it is strictly closer, and leaves the nearest so far if not.
use Rattle.std.proofs.Common.{◌+◌, sym, refl, ◌∙◌}
use Rattle.descent.specs.Nearest.{behind_at, gives_behind, nearest_start, nearest-taken, nearest-left, nearest_end}
use Rattle.descent.proofs.nearest.nearest.Goals as goal
use Rattle.descent.proofs.nearest.nearest.Goals.{then-d-least, else-d-least}

pub loop-c-init : goal.loop-c-init
loop-c-init g c = record {
  left = λ f gives. nearest_start f _ c.requires.filled (gives.given 0 c.requires.filled _ c.distance-least.ensures);
  listed = (0, c.requires.filled, refl);
}

pub loop-c-preserved : goal.loop-c-preserved
loop-c-preserved g c =
    let l = c.args.list.now in
    let loop = c.loop-c in
    let k = loop.c-index in
    let more = c.loop-c-test.true in
    let b = behind_at l k more in
    elim c.if-d-least.branch [
      | then-d-least w ↦ record {
        left = λ f gives.
            rw (w.best-is, w.least-is)
            (nearest-taken f _ k loop.best loop.least more ((gives_behind gives).given k more _ c.distance-d.ensures) w.if-d-least.true
            ∙ loop.invariant.left f gives);
        listed = rw w.best-is (k + 1, b.0, b.1);
      }
      | else-d-least w ↦ record {
        left = λ f gives.
            rw (w.best-is, w.least-is)
            (nearest-left f _ k loop.best loop.least more ((gives_behind gives).given k more _ c.distance-d.ensures) w.if-d-least.false
            ∙ loop.invariant.left f gives);
        listed = rw w.best-is loop.invariant.listed;
      }
    ]

pub returns-clause-value : goal.returns-clause-value
returns-clause-value g c f gives =
    sym (nearest_end f _ _ c.loop-c.best c.loop-c.least c.loop-c-test.false) ∙ c.loop-c.invariant.left f gives

pub returns-clause-listed : goal.returns-clause-listed
returns-clause-listed g c = c.loop-c.invariant.listed

-- A turn makes one round, and ends if that was the last.
use Rattle.std.proofs.Common.{refl}
use Rattle.rules.specs.Slices.{tree_of}
use Rattle.refit.specs.Rounds.{rounds_start, rounds_last, rounds_on, rounds_end}
use Rattle.refit.proofs.rounds.rounds.Goals as goal

pub loop-done-init : goal.loop-done-init
loop-done-init c =
    let a = c.args in
    record {
      floats_fit = c.requires.floats.0;
      links_fit = c.requires.floats.1;
      rounds = rounds_start a.s a.count a.rows.now a.n.entries (tree_of a.s a.n a.floats.now a.links.now) c.requires.dim_in_bounds.1;
    }

pub round-requires-clause-floats : goal.round-requires-clause-floats
round-requires-clause-floats c =
    let loop = c.loop-done in
    (loop.invariant.floats_fit, loop.invariant.links_fit, rw (loop.auto.scratch, loop.auto.numbers) c.requires.floats.2)

pub round-requires-clause-dim_in_bounds : goal.round-requires-clause-dim_in_bounds
round-requires-clause-dim_in_bounds c = (c.requires.dim_in_bounds.0, c.loop-done.invariant.rounds.tree)

pub returns-in-Break-clause-links_after : goal.returns-in-Break-clause-links_after
returns-in-Break-clause-links_after c =
    let a = c.args in
    let loop = c.loop-done in
    rounds_last a.s a.count a.rows.now a.n.entries _ loop.done _ loop.invariant.rounds c.loop-done-test.true c.in-Break.ensures.last_after refl

pub loop-done-preserved : goal.loop-done-preserved
loop-done-preserved c =
    let a = c.args in
    let loop = c.loop-done in
    let new = c.round in
    record {
      floats_fit = rw new.auto.floats c.in-Continue.ensures.floats_2.0;
      links_fit = rw new.auto.links c.in-Continue.ensures.floats_2.1;
      rounds =
          rounds_on a.s a.count a.rows.now a.n.entries _ loop.done _ loop.invariant.rounds c.loop-done-test.true c.in-Continue.ensures.last_after
          c.requires.floats.0.sized refl;
    }

pub returns-clause-floats_2 : goal.returns-clause-floats_2
returns-clause-floats_2 c =
    let loop = c.loop-done in
    (rw loop.auto.floats at loop.invariant.floats_fit, rw loop.auto.links at loop.invariant.links_fit)

pub returns-clause-links_after : goal.returns-clause-links_after
returns-clause-links_after c =
    let a = c.args in
    let loop = c.loop-done in
    rounds_end a.s a.count a.rows.now a.n.entries _ loop.done _ loop.invariant.rounds c.loop-done-test.false

-- The entries are made anew, and the unused ones dropped if there are any.
use Rattle.std.proofs.Common.{arith}
use Rattle.rules.specs.Slices.{tree_of}
use Rattle.arena.specs.Trees.{count_entries_lem}
use Rattle.refit.specs.Rounds.{round_all, round_some, left-again, poured_leaves}
use Rattle.refit.proofs.rounds.round.Goals as goal

pub returns-then-reaccumulate-clause-last_after : goal.returns-then-reaccumulate-clause-last_after
returns-then-reaccumulate-clause-last_after c = round_all c.args.s _ c.args.done _ c.reaccumulate.ensures c.if-reaccumulate.true

pub drop_unused-requires-clause-leaves_in : goal.drop_unused-requires-clause-leaves_in
drop_unused-requires-clause-leaves_in c =
    let a = c.args in
    let entries = count_entries_lem a.s a.n a.floats.now a.links.now in
    let few = c.requires.floats.0.entries_in in
    let rows = c.requires.dim_in_bounds.1 in (
      poured_leaves a.s a.n a.floats.now _ a.links.now rows.tree,
      left-again a.s a.count a.rows.now (tree_of a.s a.n a.floats.now a.links.now) rows (omega arith) c.reaccumulate.ensures,
    )

pub returns-clause-last_after : goal.returns-clause-last_after
returns-clause-last_after c =
    round_some c.args.s _ c.args.done _ c.reaccumulate.ensures c.if-reaccumulate.false c.drop_unused.ensures.last_after

-- `summed` meets its contract: a test each.
use Rattle.std.proofs.Common.{eq-eqb, ne_eqb, le-leb}
use Rattle.std.proofs.lemmas.Bool.{lt-leb}
use Rattle.binary64.specs.Whole.{most}
use Rattle.arena.specs.Trees.{count_entries_lem}
use Rattle.weights.specs.Adding.{summed}
use Rattle.weights.proofs.summed.Goals as goal
use Rattle.weights.proofs.summed.Goals.{then-not-entries_count-via-then-not-entries_count, then-not-entries_count-via-else-not-entries_count+then-total-gt-MOST_ROWS}

pub returns-then-not-entries_count : goal.returns-then-not-entries_count
unfolding summed
returns-then-not-entries_count c = rw (← c.entries_count.ensures c.args.links.now) elim c.then-not-entries_count.branch [
  | then-not-entries_count-via-then-not-entries_count w ↦ rw w.if-not-entries_count.true
  | then-not-entries_count-via-else-not-entries_count+then-total-gt-MOST_ROWS w ↦ rw (
    w.if-not-entries_count.false,
    ← w.total.ensures c.args.links.now,
    lt-leb w.total.result most w.if-total-gt-MOST_ROWS.true,
  )
]

pub returns-then-n-eq0 : goal.returns-then-n-eq0
unfolding summed
returns-then-n-eq0 c =
    rw (
      ← c.entries_count.ensures c.args.links.now,
      c.if-not-entries_count.false,
      ← c.total.ensures c.args.links.now,
      le-leb c.total.result most c.if-total-gt-MOST_ROWS.false,
      count_entries_lem c.args.s c.args.n c.args.floats.now c.args.links.now,
      eq-eqb c.args.n.entries 0 c.if-n-eq0.true,
    )
    (c.weighs_nothing.ensures c.args.links.now)

pub returns-else-n-eq0 : goal.returns-else-n-eq0
unfolding summed
returns-else-n-eq0 c =
    rw (
      ← c.entries_count.ensures c.args.links.now,
      c.if-not-entries_count.false,
      ← c.total.ensures c.args.links.now,
      le-leb c.total.result most c.if-total-gt-MOST_ROWS.false,
      count_entries_lem c.args.s c.args.n c.args.floats.now c.args.links.now,
      ne_eqb c.args.n.entries 0 c.if-n-eq0.false,
    )
    c.nodes_add_up.ensures

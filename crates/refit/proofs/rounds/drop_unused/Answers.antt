-- The unused entries are dropped, and the others placed again unless that is enough.
use Rattle.merging.specs.Numbering.{floats-kept, links_kept}
use Rattle.refit.specs.Rounds.{stays, placed}
use Rattle.refit.proofs.rounds.drop_unused.Goals as goal

pub enough-requires : goal.enough-requires
enough-requires c =
    let a = c.args in
    let drop = c.drop_merged-m in
    rw drop.auto.links (links_kept a.s a.n drop.result a.numbers.now drop.ensures.value c.requires.floats.1)

pub returns-then-enough-clause-floats_2 : goal.returns-then-enough-clause-floats_2
returns-then-enough-clause-floats_2 c =
    let a = c.args in
    let drop = c.drop_merged-m in (
      floats-kept a.s a.n drop.result a.numbers.now drop.ensures.value c.requires.floats.0,
      links_kept a.s a.n drop.result a.numbers.now drop.ensures.value c.requires.floats.1,
    )

pub returns-then-enough-clause-last_after : goal.returns-then-enough-clause-last_after
returns-then-enough-clause-last_after c =
    stays c.args.s c.args.done c.drop_merged-m.ensures.links_after (c.enough.ensures _) c.if-enough.true

pub reinsert-requires-clause-floats : goal.reinsert-requires-clause-floats
reinsert-requires-clause-floats c =
    let a = c.args in
    let drop = c.drop_merged-m in (
      rw drop.auto.floats (floats-kept a.s a.n drop.result a.numbers.now drop.ensures.value c.requires.floats.0),
      rw drop.auto.links (links_kept a.s a.n drop.result a.numbers.now drop.ensures.value c.requires.floats.1),
    )

pub returns-clause-last_after : goal.returns-clause-last_after
returns-clause-last_after c =
    placed c.args.s c.args.done c.drop_merged-m.ensures.links_after (c.enough.ensures _) c.if-enough.false c.reinsert.ensures.links_after

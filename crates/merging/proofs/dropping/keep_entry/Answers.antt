-- By its word.
use Rattle.std.proofs.Common.{[], ◌∙◌, arith}
use Rattle.rules.specs.Rebuild.{renumber}
use Rattle.arena.specs.Trees.{entry_shaped}
use Rattle.scratch.specs.Flags.{word_at, alive_in}
use Rattle.merging.specs.Numbering.{word_gone, word_there, count_few}
use Rattle.merging.specs.Moving.{move_none, move_some}
use Rattle.merging.proofs.dropping.keep_entry.Goals as goal

pub returns-then-to-eq0 : goal.returns-then-to-eq0
unfolding word_at
returns-then-to-eq0 c = λ ls.
    move_none _ c.args.i _ (word_gone _ c.args.numbers.now c.args.n.entries c.args.i c.requires.numbered c.requires.floats.2 c.if-to-eq0.true)

pub put-requires : goal.put-requires
unfolding word_at renumber
put-requires c =
    let w = word_there _ c.args.numbers.now c.args.n.entries c.args.i c.requires.numbered c.requires.floats.2 c.if-to-eq0.false in (
      c.requires.floats.0,
      omega (arith, w.1, count_few (alive_in c.args.numbers.now c.args.n.entries) c.args.i, c.requires.floats.2),
      rw (c.summary-c.ensures []) (entry_shaped c.args.s c.requires.floats.0.sized c.args.n c.args.floats.now [] c.args.i c.requires.floats.2),
    )

pub returns : goal.returns
unfolding word_at
returns c =
    let w = word_there _ c.args.numbers.now c.args.n.entries c.args.i c.requires.numbered c.requires.floats.2 c.if-to-eq0.false in
    λ ls. c.put.ensures ls ∙ move_some _ c.args.i _ _ _ w.0 (c.summary-c.ensures ls) w.1

-- By its word.

use Rattle.scratch.specs.Flags.{word_at}
use Rattle.merging.specs.Numbering.{one_gone, one_there}
use Rattle.merging.proofs.dropping.number_one.Goals as goal

pub returns-then-numbers-at-eq0 : goal.returns-then-numbers-at-eq0
unfolding word_at
returns-then-numbers-at-eq0 c = one_gone c.args.i c.args.kept c.args.numbers.now c.if-numbers-at-eq0.true

pub returns : goal.returns
unfolding word_at
returns c = one_there c.args.i c.args.kept c.args.numbers.now c.if-numbers-at-eq0.false c.requires.0

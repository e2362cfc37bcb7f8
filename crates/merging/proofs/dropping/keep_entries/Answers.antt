-- Each entry moves in its turn.
use Rattle.merging.specs.Moving.{moves_start, moves_turn, moves_end}
use Rattle.merging.proofs.dropping.keep_entries.Goals as goal

pub loop-i-init : goal.loop-i-init
loop-i-init c = moves_start _ _ _ _ _

pub loop-i-preserved : goal.loop-i-preserved
loop-i-preserved c = moves_turn _ _ _ _ _ _ _ c.loop-i.invariant _ c.loop-i-test.true c.keep_entry.ensures

pub returns : goal.returns
returns c = moves_end _ _ _ _ _ _ _ c.loop-i.invariant c.loop-i-test.false

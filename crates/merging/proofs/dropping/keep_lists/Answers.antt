-- Each node is pruned in its turn.
use Rattle.merging.specs.Pruning.{prunes_start, prunes_leaves, prunes_turn, prunes_end}
use Rattle.merging.proofs.dropping.keep_lists.Goals as goal

pub loop-i-init : goal.loop-i-init
loop-i-init c = prunes_start _ _ _ _

pub keep_list-requires-clause-any_floats : goal.keep_list-requires-clause-any_floats
keep_list-requires-clause-any_floats c = prunes_leaves _ _ _ _ _ _ c.loop-i.invariant c.requires.links.2 c.loop-i-test.true

pub loop-i-preserved : goal.loop-i-preserved
loop-i-preserved c = prunes_turn _ _ _ _ _ _ c.loop-i.invariant _ c.keep_list.ensures

pub returns : goal.returns
returns c = prunes_end _ _ _ _ _ _ c.loop-i.invariant c.loop-i-test.false

-- `lists::known` meets its contract: the counts of the tree are those of the counters.
use Rattle.std.proofs.Common.{sym}
use Rattle.rules.specs.Check.{known}
use Rattle.arena.specs.Trees.{count_nodes_lem, count_entries_lem}
use Rattle.lists.proofs.known.Goals as goal

pub returns-then-leaf : goal.returns-then-leaf
unfolding known
returns-then-leaf c = λ fs. rw c.if-leaf.true (sym (count_entries_lem c.args.s c.args.n fs c.args.links.now))

pub returns-else-leaf : goal.returns-else-leaf
unfolding known
returns-else-leaf c = λ fs. rw c.if-leaf.false (sym (count_nodes_lem c.args.s c.args.n fs c.args.links.now))

-- `once::leaf_marks` meets its contract: a leaf has its list, any other node nothing.
use Rattle.std.proofs.Common.{arith}
use Rattle.rules.specs.Lists.{occurs}
use Rattle.lists.specs.Lent.{leaf_list}
use Rattle.seen.specs.Sets.{Marked}
use Rattle.once.proofs.leaf_marks.Goals as goal

pub returns-then-is_leaf : goal.returns-then-is_leaf
unfolding leaf_list
returns-then-is_leaf c = λ fs. rw (← c.is_leaf.ensures fs, c.if-is_leaf.true) (c.list_marks.ensures fs)

pub returns-else-is_leaf : goal.returns-else-is_leaf
unfolding leaf_list Marked occurs
returns-else-is_leaf c = λ fs. rw (← c.is_leaf.ensures fs, c.if-is_leaf.false) (λ e. omega arith)

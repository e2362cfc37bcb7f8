-- `lists::list_filled` meets its contract: a leaf with no list is the lone root.
use Rattle.std.proofs.Common.{le-ltb}
use Rattle.rules.specs.Check.{lone_root}
use Rattle.arena.specs.Trees.{count_nodes_lem, count_entries_lem}
use Rattle.lists.proofs.list_filled.Goals as goal

pub returns-then-is_leaf : goal.returns-then-is_leaf
unfolding lone_root
returns-then-is_leaf c = λ fs. rw (
  ← c.list_len.ensures fs,
  le-ltb 0 c.list_len.result c.if-list_len-gt0.false,
  ← c.is_leaf.ensures fs,
  c.if-is_leaf.true,
  count_nodes_lem c.args.s c.args.n fs c.args.links.now,
  count_entries_lem c.args.s c.args.n fs c.args.links.now,
) c.lone_root.ensures

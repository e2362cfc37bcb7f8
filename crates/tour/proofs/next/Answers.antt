-- `next` meets its contract: into the list, or up.
use Rattle.std.proofs.Common.{[], sym, ap, ◌∙◌}
use Rattle.lists.specs.Lent.{inner_in}
use Rattle.tour.specs.Walking.{down_of}
use Rattle.tour.specs.Loops.{next-leaf, next-done, next_into}
use Rattle.tour.proofs.next.Goals as goal
use Rattle.tour.proofs.next.Goals.{then-is_leaf-via-then-is_leaf, then-is_leaf-via-else-is_leaf+then-k-list_len}

pub returns-then-is_leaf : goal.returns-then-is_leaf
returns-then-is_leaf c = λ fs. c.up.ensures fs ∙ elim c.then-is_leaf.branch [
  | then-is_leaf-via-then-is_leaf w ↦ next-leaf _ c.args.i c.args.k (sym (c.is_leaf.ensures fs) ∙ w.if-is_leaf.true)
  | then-is_leaf-via-else-is_leaf+then-k-list_len w ↦ next-done _ c.args.i c.args.k
      (sym (c.is_leaf.ensures fs) ∙ w.if-is_leaf.false) (rw (← w.list_len.ensures fs) w.if-k-list_len.true)
]

pub down-requires : goal.down-requires
down-requires c = (
  c.requires.0,
  inner_in c.args.s c.args.n [] c.args.links.now c.args.i c.args.k (c.requires.1 [])
      (sym (c.is_leaf.ensures []) ∙ c.if-is_leaf.false) c.requires.2 (rw (← c.list_len.ensures []) c.if-k-list_len.false) (c.list_at.ensures.0 []),
)

pub returns : goal.returns
returns c = λ fs.
    c.down.ensures fs ∙ ap (down_of _ c.args.i) (c.list_at.ensures.0 fs)
    ∙ next_into _ c.args.i c.args.k (sym (c.is_leaf.ensures fs) ∙ c.if-is_leaf.false) (rw (← c.list_len.ensures fs) c.if-k-list_len.false)

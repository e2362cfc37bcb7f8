-- A leaf is the last of its own; of any other node the last is beneath the last of its list.
use Rattle.std.proofs.Common.{◌≡◌, ◌∙◌, ◌<◌, ◌+◌, ◌-◌, List, ap, ap₂, arith, false, get_or, length, subst, sym}
use Rattle.std.specs.Prelude.{Float}
use Rattle.rules.specs.Tree.{node_at}
use Rattle.rules.specs.Slices.{tree_of}
use Rattle.arena.specs.Trees.{ChildrenIn, count_nodes_lem}
use Rattle.bounds.specs.Sure.{node_listed}
use Rattle.bounds.specs.Framed.{frame_children}
use Rattle.refold.specs.Walk.{last_under}
use Rattle.refold.specs.Links.{last_here, last_none, last_on}
use Rattle.refold.proofs.walk.last.Goals as goal
use Rattle.refold.proofs.walk.last.Goals.{After-list-list}

-- the node is no leaf, and so its list, which was read, is not empty and names nodes
inner : (c : After-list-list) (fs : List Float) → (node_at (tree_of c.args.s c.args.n fs c.args.links.now) c.loop.at).leaf ≡ false
inner c fs = sym (c.is_leaf.ensures fs) ∙ c.if-is_leaf.false

some : (c : After-list-list) → 0 < length c.list-list.result.now
some c =
    let (fs, u) = c.requires.1 in
    subst (λ l. 0 < length l) (sym (c.list-list.ensures fs))
    (u.inners c.loop.at (rw (count_nodes_lem c.args.s c.args.n fs c.args.links.now) c.loop.invariant.0) (inner c fs))

kid_in : (c : After-list-list) → get_or c.list-list.result.now (length c.list-list.result.now - 1) 0 < c.args.n.nodes
kid_in c =
    let (fs, u) = c.requires.1 in
    node_listed c.args.n _
    (subst (ChildrenIn c.args.n false) (sym (c.list-list.ensures fs))
    (frame_children c.args.s c.args.n fs c.args.links.now u.framed c.loop.at c.loop.invariant.0 false (inner c fs)))
    (length c.list-list.result.now - 1) (omega (arith, some c))

pub loop-init : goal.loop-init
loop-init c =
    let all : c.args.n.nodes - 0 ≡ c.args.n.nodes = omega arith in
    (c.requires.2, λ fs. ap (λ k. last_under (tree_of c.args.s c.args.n fs c.args.links.now) k c.args.i) all)

pub is_leaf-requires : goal.is_leaf-requires
is_leaf-requires c = (c.requires.0, c.loop.invariant.0)

pub list-list-requires : goal.list-list-requires
list-list-requires c = (c.requires.0, c.loop.invariant.0)

pub overflow_sub-at : goal.overflow_sub-at
overflow_sub-at c = omega (arith, some c)

pub bounds-list-list : goal.bounds-list-list
bounds-list-list c = omega (arith, some (goal.at.bounds-list-list c).After-list-list)

pub loop-preserved : goal.loop-preserved
loop-preserved c =
    let read = (goal.at.loop-preserved c).After-list-list in
    let left = c.args.n.nodes - c.loop.counter in
    let next : c.args.n.nodes - (c.loop.counter + 1) ≡ left - 1 = omega arith in (
      kid_in read,
      λ fs. ap₂ (λ k l. last_under (tree_of c.args.s c.args.n fs c.args.links.now) k (get_or l (length l - 1) 0)) next (c.list-list.ensures fs)
          ∙ sym (last_on _ left c.loop.at (omega arith) (inner read fs)) ∙ c.loop.invariant.1 fs,
    )

pub returns-after-loop : goal.returns-after-loop
returns-after-loop c = λ fs. sym (last_none _ (c.args.n.nodes - c.loop.counter) c.loop.at (omega arith)) ∙ c.loop.invariant.1 fs

pub returns-then-is_leaf : goal.returns-then-is_leaf
returns-then-is_leaf c = λ fs.
    sym (last_here _ (c.args.n.nodes - c.loop.counter) c.loop.at (sym (c.is_leaf.ensures fs) ∙ c.if-is_leaf.true)) ∙ c.loop.invariant.1 fs

-- A leaf's entries follow, an inner node's children wait.
use Rattle.std.proofs.Common.{◌<◌, ◌≤◌, ◌+◌, ◌-◌, ◌++◌, ◌∷◌, ◌≡◌, ◌∙◌, Bool, List, ap, ap₂, arith, get_or, length, length-set, map, refl, subst, sym, true, ℕ}
use Rattle.head.specs.Sizes.{entry_cap}
use Rattle.feature.specs.declared.Summary.{Summary}
use Rattle.rules.specs.Tree.{Node, Tree, node_at, entry_at}
use Rattle.rules.specs.Slices.{tree_of}
use Rattle.arena.specs.Trees.{ChildrenIn, count_nodes_lem, caps_small}
use Rattle.bounds.specs.Framed.{root_in, frame_children}
use Rattle.scratch.specs.Slots.{slots_in, length_slots, no_slots}
use Rattle.reinsert.specs.Waiting.{waiting, length-waiting, none_wait, waiting_top, waiting-put}
use Rattle.reinsert.specs.Collect.{Collecting, collect_start, collect_none, collect_end, waiting_few, top_there}
use Rattle.reinsert.specs.Collect.{leaf_room, collect_leaf, inner_room, collect_inner}
use Rattle.reinsert.proofs.collect.collect.Goals.{In-loop, After-is_leaf, then-is_leaf, else-is_leaf}
use Rattle.reinsert.proofs.collect.collect.Goals as goal

-- ---- a turn: the tree, what is collected, and the nodes that wait

abbrev tree : In-loop → Tree
tree c = tree_of c.args.s c.args.n c.args.floats.now c.args.links.now

abbrev done : In-loop → List Summary
done c = slots_in c.args.s c.loop.scratch c.loop.count

abbrev left : In-loop → ℕ
left c = c.args.n.nodes - c.loop.counter

abbrev top : In-loop → ℕ
top c = get_or c.loop.stack (c.loop.high - 1) 0

abbrev others : In-loop → List ℕ
others c = waiting c.loop.stack (c.loop.high - 1)

few : (c : In-loop) → c.loop.high ≤ entry_cap c.args.s
few c =
    let w = waiting_few c.args.s (tree c) (left c) (done c) (waiting c.loop.stack c.loop.high) c.loop.invariant in
    omega (arith, w, length-waiting c.loop.stack c.loop.high)

long : (c : In-loop) → length c.loop.stack ≡ length c.args.stack.now
long c = c.loop.auto.stack ∙ simp length-set

more : (c : In-loop) → 0 < left c
more c = omega arith

-- a node waits on top, and is there
module _ (c : In-loop) (h : 0 < c.loop.high) where
  opened : Collecting c.args.s (tree c) (left c) (done c) (top c ∷ others c)
  opened = subst (Collecting c.args.s (tree c) (left c) (done c)) (waiting_top c.loop.stack c.loop.high h) c.loop.invariant

  here : top c < c.args.n.nodes
  here =
      rw (count_nodes_lem c.args.s c.args.n c.args.floats.now c.args.links.now) at
      (top_there c.args.s (tree c) (left c) (done c) (top c) (others c) opened)

-- the list and the kind that were read are the node's
module _ (c : After-is_leaf) where
  abbrev own : Node
  own = node_at (tree_of c.args.s c.args.n c.args.floats.now c.args.links.now) (get_or c.loop.stack (c.loop.high - 1) 0)

  list : c.list-list.result.now ≡ own.list
  list = c.list-list.ensures c.args.floats.now

  kind : {b : Bool} → c.is_leaf.result ≡ b → own.leaf ≡ b
  kind e = sym (c.is_leaf.ensures c.args.floats.now) ∙ e

-- ---- the start

pub overflow_cast-stack : goal.overflow_cast-stack
overflow_cast-stack c =
    let a = c.args in
    let root = root_in a.s a.n a.floats.now a.links.now c.requires.floats.2.framed in
    omega (arith, root, c.requires.floats.0.nodes_in, caps_small a.s a.n _ c.requires.floats.0)

pub bounds-stack-0 : goal.bounds-stack-0
unfolding entry_cap
bounds-stack-0 c = omega (arith, c.requires.s_in_bounds.1)

pub loop-init : goal.loop-init
unfolding entry_cap tree_of
loop-init c =
    let a = c.args in
    let count = count_nodes_lem a.s a.n a.floats.now a.links.now in
    collect_start a.s _ c.requires.floats.2 (omega (arith, count)) (no_slots a.s a.scratch.now)
    (waiting-put a.stack.now 0 _ (omega (arith, c.requires.s_in_bounds.1)) ∙ ap (λ ns. a.n.root ∷ ns) (none_wait a.stack.now 0 refl))

-- ---- a node is taken from the stack

pub offset_bounds-stack-high : goal.offset_bounds-stack-high
offset_bounds-stack-high c =
    omega (arith, few (goal.at.offset_bounds-stack-high c).In-loop, caps_small c.args.s c.args.n _ c.requires.floats.0)

pub bounds-stack-high : goal.bounds-stack-high
bounds-stack-high c =
    let at = (goal.at.bounds-stack-high c).In-loop in
    omega (arith, few at, long at, c.requires.s_in_bounds.1)

pub list-list-requires : goal.list-list-requires
list-list-requires c = (c.requires.floats.1, here (goal.at.list-list-requires c).In-loop (omega arith))

pub is_leaf-requires : goal.is_leaf-requires
is_leaf-requires c = (c.requires.floats.1, here (goal.at.is_leaf-requires c).In-loop (omega arith))

-- ---- its entries follow, or its children wait

pub copy_entries-count-requires : goal.copy_entries-count-requires
copy_entries-count-requires c =
    let a = c.args in
    let at = (goal.at.copy_entries-count-requires c).In-loop in
    let read = (goal.at.copy_entries-count-requires c).After-is_leaf in
    let some : 0 < c.loop.high = omega arith in
    let leaf = kind read c.if-is_leaf.true in
    let room = leaf_room a.s (tree at) (left at) (done at) (top at) (others at) (opened at some) (more at) leaf in
    record {
      floats = (
        c.requires.floats.0,
        subst (ChildrenIn a.n true) (sym (list read))
            (frame_children a.s a.n a.floats.now a.links.now c.requires.floats.2.framed (top at) (here at some) true leaf),
      );
      list_bound = (
        omega (arith, room, length_slots a.s c.loop.scratch c.loop.count, ap length (list read)),
        rw c.loop.auto.scratch c.requires.s_in_bounds.0,
      );
    }

pub stack_list-high-requires : goal.stack_list-high-requires
stack_list-high-requires c =
    let at = (goal.at.stack_list-high-requires c).In-loop in
    let read = (goal.at.stack_list-high-requires c).After-is_leaf in
    let inner = kind read c.if-is_leaf.false in
    let room = inner_room c.args.s (tree at) (left at) (done at) (top at) (others at) (opened at (omega arith)) (more at) inner in
    omega (arith, room, length-waiting c.loop.stack (c.loop.high - 1), ap length (list read), c.requires.s_in_bounds.1, long at)

pub loop-preserved : goal.loop-preserved
loop-preserved c =
    let a = c.args in
    let at = (goal.at.loop-preserved c).In-loop in
    let read = (goal.at.loop-preserved c).After-is_leaf in
    let t = tree at in
    let next : left at - 1 ≡ c.args.n.nodes - (c.loop.counter + 1) = omega arith in
    let some : 0 < c.loop.high = omega arith in
    rw (sym next)
    -- in either branch w has the call, and what scratch, stack, high and count have become
    (elim c.if-is_leaf.branch [
      | then-is_leaf w ↦ collect_leaf a.s t (left at) (done at) (top at) (others at) (opened at some) (more at) (kind read w.if-is_leaf.true)
          (ap₂ (slots_in a.s) w.scratch-is w.count-is ∙ w.copy_entries-count.ensures.any_links a.links.now
          ∙ ap (λ l. done at ++ map (entry_at t) l) (list read))
          (ap₂ waiting w.stack-is w.high-is)
      | else-is_leaf w ↦ collect_inner a.s t (left at) (done at) (top at) (others at) (opened at some) (more at) (kind read w.if-is_leaf.false)
          (ap₂ (slots_in a.s) w.scratch-is w.count-is) (ap₂ waiting w.stack-is w.high-is ∙ w.stack_list-high.ensures ∙ ap (λ l. l ++ others at) (list read))
    ])

pub returns-after-loop : goal.returns-after-loop
returns-after-loop c = collect_end c.args.s _ (c.args.n.nodes - c.loop.counter) _ (omega arith) c.loop.invariant

pub returns-then-high-eq0 : goal.returns-then-high-eq0
returns-then-high-eq0 c =
    collect_none c.args.s _ (c.args.n.nodes - c.loop.counter) _ (none_wait c.loop.stack c.loop.high c.if-high-eq0.true) c.loop.invariant

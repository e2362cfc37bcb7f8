-- A node over leaves alone makes pairs, any other none.
use Rattle.std.proofs.Common.{◌+◌, ◌++◌, ◌≡◌, ◌≤◌, ◌∙◌, ap, false, length, subst, sym}
use Rattle.rules.specs.Tree.{node_at}
use Rattle.rules.specs.Slices.{tree_of}
use Rattle.rules.specs.Pairs.{partners, all_leaves, beneath}
use Rattle.arena.specs.Trees.{ChildrenIn}
use Rattle.bounds.specs.Framed.{frame_children}
use Rattle.scratch.specs.Stored.{Room, pairs_in}
use Rattle.pairs.specs.Groups.{leaves_of, cousins-some, cousins-none, not-inner, not-all}
use Rattle.pairs.specs.Rooms.{under-inner}
use Rattle.pairs.proofs.cousins.push_cousins.Goals as goal
use Rattle.pairs.proofs.cousins.push_cousins.Goals.{After-list-list, After-all_leaves}

-- node i is no leaf, the list that was read is its own, and names nodes
inner : (c : After-list-list) → (node_at (tree_of c.args.s c.args.n c.args.floats.now c.args.links.now) c.args.i).leaf ≡ false
inner c = sym (c.is_leaf.ensures c.args.floats.now) ∙ c.if-is_leaf.false

own : (c : After-list-list) → c.list-list.result.now ≡ (node_at (tree_of c.args.s c.args.n c.args.floats.now c.args.links.now) c.args.i).list
own c = c.list-list.ensures c.args.floats.now

children : (c : After-list-list) → ChildrenIn c.args.n false c.list-list.result.now
children c =
    subst (ChildrenIn c.args.n false) (sym (own c))
    (frame_children c.args.s c.args.n c.args.floats.now c.args.links.now c.requires.floats.2 c.args.i c.requires.floats.3 false (inner c))

-- whether all nodes of its list are leaves
leaves : (c : After-all_leaves) →
    let t = tree_of c.args.s c.args.n c.args.floats.now c.args.links.now in
    all_leaves t (node_at t c.args.i).list ≡ c.all_leaves.result
leaves c =
    ap (all_leaves (tree_of c.args.s c.args.n c.args.floats.now c.args.links.now)) (sym (c.list-list.ensures c.args.floats.now))
    ∙ sym (c.all_leaves.ensures c.args.floats.now)

pub returns-then-is_leaf-clause-result_after : goal.returns-then-is_leaf-clause-result_after
returns-then-is_leaf-clause-result_after c =
    cousins-none c.args.s (tree_of c.args.s c.args.n c.args.floats.now c.args.links.now) c.args.i _
    (not-inner _ _ (sym (c.is_leaf.ensures c.args.floats.now) ∙ c.if-is_leaf.true))

pub all_leaves-requires : goal.all_leaves-requires
all_leaves-requires c = (c.requires.floats.1, children c)

pub push_leaves-requires : goal.push_leaves-requires
push_leaves-requires c =
    let t = tree_of c.args.s c.args.n c.args.floats.now c.args.links.now in
    let read = (goal.at.push_leaves-requires c).After-list-list in
    let all = leaves (goal.at.push_leaves-requires c).After-all_leaves ∙ c.if-all_leaves.true in
    record {
      floats = (
        c.requires.floats.0,
        c.requires.floats.1,
        leaves_of c.args.s c.args.n c.args.floats.now c.args.links.now _ c.requires.floats.2 (children read)
            (sym (c.all_leaves.ensures c.args.floats.now) ∙ c.if-all_leaves.true),
      );
      room =
          subst (λ k. Room (c.args.count + k) (length c.args.costs.now) (length c.args.numbers.now))
          (sym (under-inner t c.args.i (inner read) all) ∙ ap (λ l. length (beneath t l)) (sym (own read))) c.requires.room;
    }

pub returns-then-all_leaves : goal.returns-then-all_leaves
returns-then-all_leaves c =
    let t = tree_of c.args.s c.args.n c.args.floats.now c.args.links.now in
    let ps = pairs_in c.args.costs.now c.args.numbers.now c.args.count in
    let read = (goal.at.returns-then-all_leaves c).After-list-list in
    let all = leaves (goal.at.returns-then-all_leaves c).After-all_leaves ∙ c.if-all_leaves.true in
    record {
      result_after =
          c.push_leaves.ensures.result_after ∙ ap (λ l. ps ++ partners c.args.s t (beneath t l) (beneath t l)) (own read)
          ∙ cousins-some c.args.s t c.args.i ps (inner read) all;
      upper_bound =
          subst (λ k. c.push_leaves.result ≤ c.args.count + k)
          (ap (λ l. length (beneath t l)) (own read) ∙ under-inner t c.args.i (inner read) all) c.push_leaves.ensures.upper_bound;
    }

pub returns-clause-result_after : goal.returns-clause-result_after
returns-clause-result_after c =
    let t = tree_of c.args.s c.args.n c.args.floats.now c.args.links.now in
    cousins-none c.args.s t c.args.i _
    (not-all (node_at t c.args.i).leaf _ (leaves (goal.at.returns-clause-result_after c).After-all_leaves ∙ c.if-all_leaves.false))

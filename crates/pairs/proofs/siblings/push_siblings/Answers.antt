-- A leaf with two entries or more makes pairs of what is beneath it alone, any other node none.
use Rattle.std.proofs.Common.{◌+◌, ◌++◌, ◌<◌, ◌≡◌, ◌∙◌, ap, arith, length, subst, sym, true}
use Rattle.rules.specs.Tree.{node_at}
use Rattle.rules.specs.Slices.{tree_of}
use Rattle.rules.specs.Pairs.{partners}
use Rattle.arena.specs.Trees.{caps_small}
use Rattle.scratch.specs.Stored.{Room, pairs_in}
use Rattle.pairs.specs.Groups.{leaf_alone, beneath_alone, siblings-some, siblings-few, siblings-inner}
use Rattle.pairs.specs.Rooms.{listed-leaf}
use Rattle.pairs.proofs.siblings.push_siblings.Goals as goal
use Rattle.pairs.proofs.siblings.push_siblings.Goals.{Else-not-is_leaf}

leaf : (c : Else-not-is_leaf) → (node_at (tree_of c.args.s c.args.n c.args.floats.now c.args.links.now) c.args.i).leaf ≡ true
leaf c = sym (c.is_leaf.ensures c.args.floats.now) ∙ c.if-not-is_leaf.false

pub returns-then-not-is_leaf-clause-result_after : goal.returns-then-not-is_leaf-clause-result_after
returns-then-not-is_leaf-clause-result_after c =
    siblings-inner c.args.s (tree_of c.args.s c.args.n c.args.floats.now c.args.links.now) c.args.i _
    (sym (c.is_leaf.ensures c.args.floats.now) ∙ c.if-not-is_leaf.true)

pub returns-then-list-lt2-clause-result_after : goal.returns-then-list-lt2-clause-result_after
returns-then-list-lt2-clause-result_after c =
    siblings-few c.args.s (tree_of c.args.s c.args.n c.args.floats.now c.args.links.now) c.args.i _
    (subst (λ l. length l < 2) (c.list.ensures c.args.floats.now) c.if-list-lt2.true)

pub overflow_cast-alone : goal.overflow_cast-alone
overflow_cast-alone c =
    let f = c.requires.floats.0 in
    let caps = caps_small c.args.s c.args.n _ f in
    omega (arith, caps.0, f.nodes_in, c.requires.floats.3)

pub push_leaves-requires-clause-floats : goal.push_leaves-requires-clause-floats
push_leaves-requires-clause-floats c =
    let own = leaf (goal.at.push_leaves-requires-clause-floats c).Else-not-is_leaf in (
      c.requires.floats.0,
      c.requires.floats.1,
      leaf_alone c.args.s c.args.n c.args.floats.now c.args.links.now c.args.i c.requires.floats.2 c.requires.floats.3 own,
    )

pub push_leaves-requires-clause-room : goal.push_leaves-requires-clause-room
push_leaves-requires-clause-room c =
    let t = tree_of c.args.s c.args.n c.args.floats.now c.args.links.now in
    let own = leaf (goal.at.push_leaves-requires-clause-room c).Else-not-is_leaf in
    subst (λ k. Room (c.args.count + k) (length c.args.costs.now) (length c.args.numbers.now))
    (listed-leaf t c.args.i own ∙ ap length (sym (beneath_alone t c.args.i))) c.requires.room

pub returns-clause-result_after : goal.returns-clause-result_after
returns-clause-result_after c =
    let t = tree_of c.args.s c.args.n c.args.floats.now c.args.links.now in
    let ps = pairs_in c.args.costs.now c.args.numbers.now c.args.count in
    let own = leaf (goal.at.returns-clause-result_after c).Else-not-is_leaf in
    let long = ap length (c.list.ensures c.args.floats.now) in
    c.push_leaves.ensures.result_after
    ∙ ap (λ l. ps ++ partners c.args.s t l l) (beneath_alone t c.args.i)
    ∙ siblings-some c.args.s t c.args.i ps own (omega (arith, long, c.if-list-lt2.false))

pub returns-clause-upper_bound : goal.returns-clause-upper_bound
returns-clause-upper_bound c =
    let t = tree_of c.args.s c.args.n c.args.floats.now c.args.links.now in
    let own = listed-leaf t c.args.i (leaf (goal.at.returns-clause-upper_bound c).Else-not-is_leaf) in
    let alone = ap length (beneath_alone t c.args.i) in
    omega (arith, own, alone, c.push_leaves.ensures.upper_bound)

-- The parent comes before its first child, and the last beneath the elder sibling before any other.
use Rattle.std.proofs.Common.{◌≡◌, ◌≢◌, ◌∙◌, ◌<◌, ◌≤◌, ◌-◌, List, ap₂, arith, false, get_or, length, rules, subst, sym, ℕ}
use Rattle.std.specs.Prelude.{Float, Some}
use Rattle.std.proofs.lemmas.Iterator.{IsFirst-from_position, YieldsList-from_slice}
use borrow.Author.Tests.{tests}
use Rattle.rules.specs.Lists.{occurs}
use Rattle.rules.specs.Tree.{node_at}
use Rattle.rules.specs.Slices.{tree_of}
use Rattle.arena.specs.Trees.{ChildrenIn, count_nodes_lem}
use Rattle.bounds.specs.Sure.{node_listed}
use Rattle.bounds.specs.Framed.{frame_children}
use Rattle.refold.specs.Walk.{last_under}
use Rattle.refold.specs.Links.{listed_once, one_place, before_first, before_later}
use Rattle.refold.proofs.walk.before.Goals as goal
use Rattle.refold.proofs.walk.before.Goals.{In-Some}

-- i stands in p's list at the place that was found, and at no other
found : (c : In-Some) → (c.in-Some.k < length c.list-list.result.now) × (get_or c.list-list.result.now c.in-Some.k 0 ≡ c.args.i)
found c =
    let first = IsFirst-from_position _ _ (Some c.in-Some.k) (λ x. x ≡ c.args.i) (λ x. x ≢ c.args.i) c.in-Some.ensures.ran
    (YieldsList-from_slice c.list-list.result.now cc) (λ x q k. search (rules, tests)) (λ x q k. search (rules, tests)) in
    (first.0, first.1 0)

one : (c : In-Some) (fs : List Float) (k : ℕ) →
    let own = (node_at (tree_of c.args.s c.args.n fs c.args.links.now) c.args.p).list in
    k < length own → get_or own k 0 ≡ c.args.i → c.in-Some.k ≡ k
one c fs k h e =
    let (gs, u) = c.requires.links.1 in
    let few = listed_once (tree_of c.args.s c.args.n gs c.args.links.now) u.framed c.args.p c.args.i
    (rw (count_nodes_lem c.args.s c.args.n gs c.args.links.now) c.requires.links.2) (c.requires.any_floats gs).0 in
    let own = c.list-list.ensures fs in
    let here = found c in
    one_place c.list-list.result.now c.in-Some.k k c.args.i
    (subst (λ l. occurs c.args.i l ≤ 1) (sym (c.list-list.ensures gs)) few)
    here.0 (subst (λ l. k < length l) (sym own) h) here.1 (subst (λ l. get_or l k 0 ≡ c.args.i) (sym own) e)

pub returns-then-k-eq0 : goal.returns-then-k-eq0
returns-then-k-eq0 c = λ fs k h e.
    before_first (tree_of c.args.s c.args.n fs c.args.links.now) c.args.p c.in-Some.k k (one (goal.at.returns-then-k-eq0 c).In-Some fs k h e) c.if-k-eq0.true

pub last-requires : goal.last-requires
last-requires c =
    let (gs, u) = c.requires.links.1 in
    let here = found (goal.at.last-requires c).In-Some in (
      c.requires.links.0,
      c.requires.links.1,
      node_listed c.args.n _
          (subst (ChildrenIn c.args.n false) (sym (c.list-list.ensures gs))
          (frame_children c.args.s c.args.n gs c.args.links.now u.framed c.args.p c.requires.links.2 false (c.requires.any_floats gs).0))
          (c.in-Some.k - 1) (omega (arith, here.0)),
    )

pub returns : goal.returns
returns c = λ fs k h e.
    let t = tree_of c.args.s c.args.n fs c.args.links.now in
    c.last.ensures fs
    ∙ ap₂ (λ m l. last_under t m (get_or l (c.in-Some.k - 1) 0)) (sym (count_nodes_lem c.args.s c.args.n fs c.args.links.now)) (c.list-list.ensures fs)
    ∙ before_later t c.args.p c.in-Some.k k (one (goal.at.returns c).In-Some fs k h e) c.if-k-eq0.false

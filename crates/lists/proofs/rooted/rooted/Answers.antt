use Rattle.std.proofs.Common.{◌≡◌, ◌∙◌, refl, sym, ap, ℕ, Bool, true, false, not, Option, None, Some, is_some}
use borrow.Author.Tests.{lt-ltb, le-ltb}
use Rattle.rules.specs.Slices.{tree_of}
use Rattle.rules.specs.Check.{rooted, orphan}
use Rattle.arena.specs.Trees.{count_nodes_lem}
use Rattle.lists.proofs.rooted.rooted.Goals as goal

no_parent : (o : Option ℕ) (b : Bool) → is_some o ≡ not b → b ≡ orphan o
unfolding orphan
no_parent None true e = refl
no_parent None false e = cc
no_parent (Some p) true e = cc
no_parent (Some p) false e = refl

pub returns-then-n : goal.returns-then-n
unfolding rooted tree_of
returns-then-n c =
    λ fs. rw (count_nodes_lem c.args.s c.args.n fs c.args.links.now, lt-ltb c.args.n.root c.args.n.nodes c.if-n.true)
    (no_parent _ _ c.is_none.ensures ∙ ap orphan (c.parent.ensures fs))

pub returns-else-n : goal.returns-else-n
unfolding rooted tree_of
returns-else-n c =
    λ fs. rw (count_nodes_lem c.args.s c.args.n fs c.args.links.now, le-ltb c.args.n.root c.args.n.nodes c.if-n.false)

-- `rebuild::merge` meets its contract: siblings are merged, or only if there are none, cousins.
use mathlib.Core.Path.{◌∙◌}
use borrow.Author.Rules.{rules}
use Rattle.rebuild.specs.Rebuilding.{tree_framed, siblings-far, cousins-all, by_siblings, by_cousins}
use Rattle.scratch.specs.Stored.{pairs_room}
use Rattle.rules.specs.Tree.{Tree}
use Rattle.rules.specs.Slices.{tree_of}
use Rattle.rebuild.proofs.merge.Statement.{statement}
use Rattle.rebuild.proofs.merge.Tie as tie

-- the tree as it is lent
abbrev tree : tie.Start → Tree
tree c = tree_of c.args.s c.args.n c.args.floats.now c.args.links.now

-- the start, from the siblings paired, and these, from the cousins paired
abbrev start : tie.After-sibling_pairs-near → tie.Start
start c = c.before.before.before.before.before.before.before

abbrev siblings : tie.After-cousin_pairs-far → tie.After-sibling_pairs-near
siblings c = c.before.before.before.before.before.before.before.before

sibling-pairs-requires : tie.Need-sibling_pairs-near-requires
sibling-pairs-requires c κs =
    let start = c.before.before.before.before.before.before in
    ((start.requires.0.0, start.requires.0.1, tree_framed start.args.s (tree start) start.requires.1), pairs_room start.args.s start.requires.0.2)

merge-by-requires : tie.Need-merge_by-requires
merge-by-requires c κs =
    let paired = c.before.before.before.before.before.before.before.before.before in
    let start = start paired in
    let a = start.args in
    let near = paired.sibling_pairs-near in (
      (start.requires.0.0, start.requires.0.1, rw (near.auto.costs, near.auto.numbers) start.requires.0.2),
      record {
        tree = start.requires.1;
        pairs_few = near.ensures.1;
        far = rw near.ensures.0 (siblings-far a.s (tree start) start.requires.1);
      },
    )

returns : tie.Need-returns-then-near-gt0
returns c =
    let test = c.if-near-gt0 in
    let paired = c.before.before.before.before.before.before.before.before.before.before.before.before.before.before.before.before.before.before in
    let start = start paired in
    let new = c.merge_by in
    (new.ensures.0, new.ensures.1 ∙ by_siblings start.args.s (tree start) _ _ _ paired.sibling_pairs-near.ensures.0 test.true)

cousin-pairs-requires : tie.Need-cousin_pairs-far-requires
cousin-pairs-requires c κs =
    let paired = c.before.before.before.before.before.before.before in
    let start = start paired in
    let near = paired.sibling_pairs-near in (
      (start.requires.0.0, start.requires.0.1, tree_framed start.args.s (tree start) start.requires.1),
      rw (near.auto.costs, near.auto.numbers) (pairs_room start.args.s start.requires.0.2),
    )

merge-by-requires-2 : tie.Need-merge_by-requires-2
merge-by-requires-2 c κs =
    let again = c.before.before.before.before.before.before.before.before in
    let paired = siblings again in
    let start = start paired in
    let a = start.args in
    let near = paired.sibling_pairs-near in
    let far = again.cousin_pairs-far in (
      (
        start.requires.0.0,
        start.requires.0.1,
        rw (far.auto.costs, far.auto.numbers, near.auto.costs, near.auto.numbers)
            start.requires.0.2,
      ),
      record {
        tree = start.requires.1;
        pairs_few = far.ensures.1;
        far = rw far.ensures.0 (cousins-all a.s (tree start) start.requires.1);
      },
    )

returns-2 : tie.Need-returns
returns-2 c =
    let again = c.before.before.before.before.before.before.before.before.before.before.before.before.before.before.before.before.before in
    let paired = siblings again in
    let start = start paired in
    let new = c.merge_by-2 in (
      new.ensures.0,
      new.ensures.1 ∙ by_cousins start.args.s (tree start) _ _ _ paired.sibling_pairs-near.ensures.0
          again.if-near-gt0.false _ again.cousin_pairs-far.ensures.0,
    )

pub merge_spec : {M : Type 1} → statement M
merge_spec = tie.close
    (tie.spec sibling-pairs-requires merge-by-requires (λ c. search rules) (λ c. search rules) (λ c. search rules) (λ c. search rules) returns
    cousin-pairs-requires merge-by-requires-2 (λ c. search rules) (λ c. search rules) (λ c. search rules) (λ c. search rules) returns-2)

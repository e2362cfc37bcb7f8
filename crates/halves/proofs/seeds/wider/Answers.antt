-- A turn takes the pair if it is strictly wider, and keeps the one so far if not.
use Rattle.std.proofs.Common.{sym, ◌∙◌}
use Rattle.rules.specs.Slices.{tree_of}
use Rattle.rules.specs.Split.{seeds}
use Rattle.rules.specs.Tree.{child}
use Rattle.arena.specs.Trees.{ChildrenIn}
use Rattle.halves.specs.Seeds.{seeds_of, farther_yes, farther_no, with_turn, with_end}
use Rattle.halves.proofs.seeds.wider.Goals as goal
use Rattle.halves.proofs.seeds.wider.Goals.{then-most-d, else-most-d}

pub between-d-requires : goal.between-d-requires
unfolding ChildrenIn
between-d-requires c =
    (c.requires.0, c.requires.1 c.args.k c.requires.2, c.requires.1 c.loop-j.j c.loop-j-test.true)

pub loop-j-preserved : goal.loop-j-preserved
loop-j-preserved c =
    let a = c.args in
    let loop = c.loop-j in
    let more = c.loop-j-test.true in
    let d = c.between-d in
    let u = seeds loop.a loop.b loop.most in
    elim c.if-most-d.branch [
      | then-most-d w ↦ record {
        left = λ ls. let f = child (tree_of a.s a.n a.floats.now ls) a.leaf in rw (w.a-is, w.b-is, w.most-is)
            (with_turn a.s f a.list.now a.k _ loop.j u more (d.ensures ls)
            (farther_yes loop.a loop.b loop.most a.k loop.j d.result w.if-most-d.true) ∙ loop.invariant.left ls);
        a_in = rw w.a-is c.requires.2;
        b_in = rw w.b-is more;
      }
      | else-most-d w ↦ record {
        left = λ ls. let f = child (tree_of a.s a.n a.floats.now ls) a.leaf in rw (w.a-is, w.b-is, w.most-is)
            (with_turn a.s f a.list.now a.k _ loop.j u more (d.ensures ls)
            (farther_no loop.a loop.b loop.most a.k loop.j d.result w.if-most-d.false) ∙ loop.invariant.left ls);
        a_in = rw w.a-is loop.invariant.a_in;
        b_in = rw w.b-is loop.invariant.b_in;
      }
    ]

pub returns-clause-any_links : goal.returns-clause-any_links
unfolding seeds_of
returns-clause-any_links c =
    let a = c.args in
    let loop = c.loop-j in
    λ ls. sym (with_end a.s (child (tree_of a.s a.n a.floats.now ls) a.leaf) a.list.now a.k _ loop.j
    (seeds loop.a loop.b loop.most) c.loop-j-test.false) ∙ loop.invariant.left ls

-- A turn looks at the pairs of one place.
use Rattle.std.proofs.Common.{refl, sym, ◌∙◌, arith}
use Rattle.rules.specs.Slices.{tree_of}
use Rattle.rules.specs.Tree.{child}
use Rattle.halves.specs.Seeds.{seeds_of, from_turn, from_end}
use Rattle.halves.proofs.seeds.seeds_of.Goals as goal

pub loop-k-init : goal.loop-k-init
unfolding seeds_of
loop-k-init c = record { left = λ ls. refl; within = (omega arith, omega arith) }

pub loop-k-preserved : goal.loop-k-preserved
loop-k-preserved c =
    let a = c.args in
    let loop = c.loop-k in
    record {
      left = λ ls. from_turn a.s (child (tree_of a.s a.n a.floats.now ls) a.leaf) a.list.now loop.k (seeds_of loop.w)
          c.loop-k-test.true (c.wider-w.ensures.any_links ls) ∙ loop.invariant.left ls;
      within = c.wider-w.ensures.within;
    }

pub returns-clause-any_links : goal.returns-clause-any_links
returns-clause-any_links c =
    let a = c.args in
    let loop = c.loop-k in
    λ ls. sym (from_end a.s (child (tree_of a.s a.n a.floats.now ls) a.leaf) a.list.now loop.k (seeds_of loop.w) c.loop-k-test.false)
    ∙ loop.invariant.left ls

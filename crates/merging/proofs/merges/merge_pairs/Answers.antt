-- Pair by pair, until there were enough.
use Rattle.scratch.specs.Flags.{PairsBelow, same-below}
use Rattle.merging.specs.Merging.{no_merges, midway_start, midway_turn, midway_full, midway_end}
use Rattle.merging.proofs.merges.merge_pairs.Goals as goal

pub loop-k-init : goal.loop-k-init
unfolding no_merges
loop-k-init c = midway_start _ _ _ _ _ _

pub merge_pair-m-requires-clause-pair_below : goal.merge_pair-m-requires-clause-pair_below
unfolding PairsBelow
merge_pair-m-requires-clause-pair_below c =
    let l = c.loop-k in
    (same-below c.args.numbers.now l.numbers l.invariant.same c.args.n.entries l.k (c.requires.pairs_below l.k c.loop-k-test.true), l.invariant.few)

pub loop-k-preserved : goal.loop-k-preserved
loop-k-preserved c =
    midway_turn _ _ _ _ _ _ _ _ _ _ c.loop-k.invariant _ _ _ c.loop-k-test.true c.if-m-most.false c.merge_pair-m.ensures

pub returns-after-loop-k : goal.returns-after-loop-k
returns-after-loop-k c = midway_end _ _ _ _ _ _ _ _ _ _ c.loop-k.invariant c.loop-k-test.false

pub returns-then-m-most : goal.returns-then-m-most
returns-then-m-most c = midway_full _ _ _ _ _ _ _ _ _ _ c.loop-k.invariant c.if-m-most.true

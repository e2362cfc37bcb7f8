-- Skipped, or merged and its second entry taken away.
use Rattle.std.proofs.Common.{◌+◌, ◌*◌, ◌<◌, ◌∙◌, arith, get_or, length, sym}
use Rattle.scratch.specs.Flags.{PairBelow}
use Rattle.merging.specs.Merging.{pair_skipped, pair-merged}
use Rattle.merging.proofs.merges.merge_pair.Goals as goal
use Rattle.merging.proofs.merges.merge_pair.Goals.{Start}

-- the words of the pair's two entries are among the numbers
first_in : (c : Start) → 3 * get_or c.args.numbers.now (3 * c.args.k) 0 + 2 < length c.args.numbers.now
unfolding PairBelow
first_in c = omega (arith, c.requires.floats.1, c.requires.pair_below.0.0)

second_in : (c : Start) → 3 * get_or c.args.numbers.now (3 * c.args.k + 1) 0 + 2 < length c.args.numbers.now
unfolding PairBelow
second_in c = omega (arith, c.requires.floats.1, c.requires.pair_below.0.1)

pub both_alive-requires : goal.both_alive-requires
both_alive-requires c = let start = (goal.at.both_alive-requires c).Start in (first_in start, second_in start)

pub returns-then-not-both_alive : goal.returns-then-not-both_alive
returns-then-not-both_alive c =
    pair_skipped _ _ c.args.k c.args.m _ _ c.requires.pair_below.0 (sym c.both_alive.ensures ∙ c.if-not-both_alive.true)

pub merge_two-widest-requires : goal.merge_two-widest-requires
unfolding PairBelow
merge_two-widest-requires c = (c.requires.floats.0, c.requires.pair_below.0.0, c.requires.pair_below.0.1)

pub bounds-numbers-two : goal.bounds-numbers-two
bounds-numbers-two c = second_in (goal.at.bounds-numbers-two c).Start

pub returns : goal.returns
returns c =
    let both = c.merge_two-widest.ensures in
    pair-merged c.args.s c.args.n c.args.k c.args.m c.args.floats.now c.args.numbers.now c.requires.pair_below.0 _ c.merge_two-widest.result
    (second_in (goal.at.returns c).Start) both.0 both.1 (sym c.both_alive.ensures ∙ c.if-not-both_alive.false)

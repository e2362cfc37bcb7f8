-- Pair by pair, the last first.
use Rattle.std.proofs.Common.{◌∙◌, ◌≡◌, ap, arith}
use Rattle.scratch.specs.Stored.{pairs_in, length_pairs}
use Rattle.pairs.specs.Sorting.{sorted_from, sort_start, sort_turn, sorted_end}
use Rattle.pairs.proofs.sorting.sort.Goals as goal

pub loop-i-init : goal.loop-i-init
loop-i-init c = sort_start c.args.costs.now c.args.numbers.now c.args.count

pub loop-i-preserved : goal.loop-i-preserved
loop-i-preserved c =
    sort_turn _ _ _ c.loop-i.i _ _ c.loop-i-test.true (omega arith) (length_pairs _ _ _) c.loop-i.invariant c.sort_in.ensures

pub returns : goal.returns
returns c =
    let none : c.loop-i.i ≡ 0 = omega arith in
    c.loop-i.invariant ∙ ap (λ k. sorted_from k (pairs_in c.args.costs.now c.args.numbers.now c.args.count)) none ∙ sorted_end _

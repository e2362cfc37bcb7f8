-- The cost is what a merge adds to the deviation.
use Rattle.distance.specs.Distances.{between_of, to_summary, gap_of, merge_cost}
use Rattle.arena.proofs.entries.merge_cost.Goals as goal

pub returns : goal.returns
unfolding between_of to_summary gap_of merge_cost
returns c = λ ls. c.between.ensures ls

-- What is left to merge from here gives the whole.
use Rattle.merging.specs.Merging.{Midway}
use Rattle.merging.proofs.merges.merge_pairs.Given as goal

abbrev pub invariant-loop-k : goal.invariant-loop-k
invariant-loop-k l = Midway l.s l.n l.pairs l.most l.initial.floats l.initial.numbers l.k l.m l.floats l.numbers

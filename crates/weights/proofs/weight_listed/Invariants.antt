-- `weight_listed` meets its contract: the places passed are summed, and the rest is to come.
use Rattle.rules.specs.Tree.{child}
use Rattle.rules.specs.Slices.{tree_of}
use Rattle.weights.specs.Weighable.{Summing}
use Rattle.weights.proofs.weight_listed.Given as goal

abbrev pub invariant-loop-c : goal.invariant-loop-c
invariant-loop-c l = Summing (λ c. (child (tree_of l.s l.n l.floats l.links) l.leaf c).weight) l.c-items l.sum l.c-index

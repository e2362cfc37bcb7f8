use Rattle.std.proofs.Common.{◌≡◌, drop}
use Rattle.feature.specs.Shape.{Shaped}
use Rattle.rules.specs.Split.{gathered}
use Rattle.rules.specs.Tree.{child}
use Rattle.arena.specs.Trees.{AnyLinks}
use Rattle.split.specs.Gather.{gathered_on}
use Rattle.split.proofs.gather.gather.Given as goal

-- what is left of the list, merged into the sum so far, gives the whole
abbrev pub invariant-loop-c : goal.invariant-loop-c
invariant-loop-c l = record {
  left : AnyLinks l.s l.n l.floats (λ t. gathered_on l.s (child t l.leaf) l.sum (drop l.c-index l.list) ≡ gathered l.s t l.leaf l.list);
  shaped : Shaped l.s.feature l.s.dim l.sum;
}

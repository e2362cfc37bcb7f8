use Rattle.std.proofs.Common.{◌≡◌, ◌+◌, length, get_or}
use Rattle.rules.specs.Split.{side}
use Rattle.rules.specs.Tree.{child}
use Rattle.arena.specs.Trees.{AnyLinks}
use Rattle.halves.specs.Halves.{Dealt}
use Rattle.halves.proofs.halves_of.Given as goal

-- what stands in the two arrays, and the flags of what is left, give the two groups
abbrev pub invariant-loop-k : goal.invariant-loop-k
invariant-loop-k l = record {
  dealt : AnyLinks l.s l.n l.floats (λ t.
      let f = child t l.leaf in
      Dealt (side l.s l.w.a l.w.b (f (get_or l.list l.w.a 0)) (f (get_or l.list l.w.b 0))) f l.list l.k l.one l.ones l.two l.twos);
  all : l.ones + l.twos ≡ l.k;
  one_long : length l.one ≡ 17;
  two_long : length l.two ≡ 17;
}

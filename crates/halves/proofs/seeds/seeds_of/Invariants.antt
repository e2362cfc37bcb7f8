use Rattle.std.proofs.Common.{◌≡◌, length, drop, map}
use Rattle.binary64.specs.Operators.{f0}
use Rattle.rules.specs.Split.{seeds, seeds_from}
use Rattle.rules.specs.Tree.{child}
use Rattle.arena.specs.Trees.{AnyLinks}
use Rattle.halves.specs.Seeds.{seeds_of, Within}
use Rattle.halves.proofs.seeds.seeds_of.Given as goal

-- the pairs that are left, looked at from the widest so far, give the whole
abbrev pub invariant-loop-k : goal.invariant-loop-k
invariant-loop-k l = record {
  left : AnyLinks l.s l.n l.floats (λ t.
      seeds_from l.s l.k (map (child t l.leaf) (drop l.k l.list)) (seeds_of l.w)
      ≡ seeds_from l.s 0 (map (child t l.leaf) l.list) (seeds 0 1 f0));
  within : Within (length l.list) l.w;
}

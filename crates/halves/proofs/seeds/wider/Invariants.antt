use Rattle.std.proofs.Common.{◌≡◌, ◌+◌, ◌<◌, length, get_or, drop, map}
use Rattle.rules.specs.Split.{seeds, seeds_with}
use Rattle.rules.specs.Tree.{child}
use Rattle.arena.specs.Trees.{AnyLinks}
use Rattle.halves.proofs.seeds.wider.Given as goal

-- what is left of the list, looked at from the pair so far, gives the whole
abbrev pub invariant-loop-j : goal.invariant-loop-j
invariant-loop-j l = record {
  left : AnyLinks l.s l.n l.floats (λ t.
      let f = child t l.leaf in
      let looked = seeds_with l.s l.k (f (get_or l.list l.k 0)) in
      looked l.j (map f (drop l.j l.list)) (seeds l.a l.b l.most)
      ≡ looked (l.k + 1) (map f (drop (l.k + 1) l.list)) (seeds l.initial.a l.initial.b l.initial.most));
  a_in : l.a < length l.list;
  b_in : l.b < length l.list;
}

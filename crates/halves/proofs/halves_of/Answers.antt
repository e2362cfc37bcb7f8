-- A turn puts one number into one of the groups.
use Rattle.std.proofs.Common.{sym, ◌∙◌, arith, length-set}
use Rattle.rules.specs.Slices.{tree_of}
use Rattle.rules.specs.Tree.{child}
use Rattle.halves.specs.Halves.{placed_first, placed_second, placed_end}
use Rattle.halves.proofs.halves_of.Goals as goal
use Rattle.halves.proofs.halves_of.Goals.{then-goes_first, else-goes_first}

pub loop-k-preserved : goal.loop-k-preserved
loop-k-preserved c =
    let list = c.args.list.now in
    let loop = c.loop-k in
    let more = c.loop-k-test.true in
    let first = c.goes_first in
    elim c.if-goes_first.branch [
      | then-goes_first w ↦ record {
        dealt = λ ls. rw (w.one-is, w.two-is, w.ones-is, w.twos-is)
            (placed_first _ _ list loop.k loop.ones loop.twos loop.one loop.two more (omega arith)
            (rw w.if-goes_first.true at first.ensures ls) (loop.invariant.dealt ls));
        all = rw (w.ones-is, w.twos-is) (omega arith);
        one_long = rw w.one-is (simp length-set loop.invariant.one_long);
        two_long = rw w.two-is loop.invariant.two_long;
      }
      | else-goes_first w ↦ record {
        dealt = λ ls. rw (w.one-is, w.two-is, w.ones-is, w.twos-is)
            (placed_second _ _ list loop.k loop.ones loop.twos loop.one loop.two more (omega arith)
            (rw w.if-goes_first.false at first.ensures ls) (loop.invariant.dealt ls));
        all = rw (w.ones-is, w.twos-is) (omega arith);
        one_long = rw w.one-is loop.invariant.one_long;
        two_long = rw w.two-is (simp length-set loop.invariant.two_long);
      }
    ]

pub returns : goal.returns
returns c =
    let a = c.args in
    let loop = c.loop-k in
    λ ls. placed_end a.s (child (tree_of a.s a.n a.floats.now ls) a.leaf) a.list.now a.w loop.k loop.ones loop.twos
    loop.one loop.two c.requires.2 (omega arith) loop.invariant.all loop.invariant.one_long loop.invariant.two_long (loop.invariant.dealt ls)

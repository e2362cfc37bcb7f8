use Rattle.std.proofs.Common.{◌≡◌, ◌+◌, ◌-◌, ◌*◌, ◌<◌, [], sym, ◌∙◌, arith}
use Rattle.head.specs.Sizes.{nodes_small}
use Rattle.rules.specs.Slices.{tree_of}
use Rattle.arena.specs.Trees.{count_nodes_lem}
use Rattle.tour.specs.Loops.{above_in, go_start, go_down, go_up, go_end, go_astray, go_out, at_root, down_there, up_there}
use Rattle.tour.proofs.walk.Goals as goal
use Rattle.tour.proofs.walk.Goals.{in-Down, in-Up}

pub meet-depths-requires : goal.meet-depths-requires
meet-depths-requires c = (c.requires.0, (at_root c.args.s c.args.n [] c.args.links.now (c.requires.2 [])).0)

pub overflow_mul-end : goal.overflow_mul-end
overflow_mul-end c = let a = nodes_small c.args.s c.requires.0.sized in omega (arith, c.requires.0.nodes_in)

pub loop-init : goal.loop-init
unfolding tree_of
loop-init c = record {
  here = (at_root c.args.s c.args.n [] c.args.links.now (c.requires.2 [])).0;
  shallow = omega arith;
  few = omega arith;
  above = λ fs. (at_root c.args.s c.args.n fs c.args.links.now (c.requires.2 fs)).1;
  going = λ fs. go_start (tree_of c.args.s c.args.n fs c.args.links.now)
      (let n = count_nodes_lem c.args.s c.args.n fs c.args.links.now in omega arith) (rw (← c.new.ensures) (c.meet-depths.ensures fs));
}

pub next-requires : goal.next-requires
next-requires c =
    (c.requires.0, c.requires.1, c.loop.invariant.here, λ fs. above_in _ c.loop.at c.loop.d (c.loop.invariant.above fs))

pub overflow_add-d : goal.overflow_add-d
overflow_add-d c = let a = nodes_small c.args.s c.requires.0.sized in omega (arith, c.requires.0.nodes_in)

pub overflow_add-met : goal.overflow_add-met
overflow_add-met c = let a = nodes_small c.args.s c.requires.0.sized in omega (arith, c.requires.0.nodes_in)

pub meet-depths-requires-in-Down : goal.meet-depths-requires-in-Down
meet-depths-requires-in-Down c = (
  c.requires.0,
  (down_there c.args.s c.args.n [] c.args.links.now (c.requires.1 []) (c.requires.2 []) c.loop.at c.loop.k c.loop.d
      c.in-Down.c (sym (c.next.ensures []) ∙ c.in-Down.is) c.loop.invariant.here (c.loop.invariant.above [])).0,
)

pub overflow_sub-d : goal.overflow_sub-d
overflow_sub-d c = omega (
  arith,
  (up_there c.args.s c.args.n [] c.args.links.now c.loop.at c.loop.k c.loop.d c.in-Up.p _
      (sym (c.next.ensures []) ∙ c.in-Up.is) (c.loop.invariant.above [])).1,
)

pub returns-in-End : goal.returns-in-End
returns-in-End c = λ fs.
    go_end _ _ c.loop.at c.loop.k c.loop.d c.loop.met c.loop.depths (omega arith)
    (c.loop.invariant.going fs) (c.next.ensures fs) c.in-End.is (c.back.ensures fs)

pub returns-in-Astray : goal.returns-in-Astray
returns-in-Astray c = λ fs.
    go_astray _ _ c.loop.at c.loop.k c.loop.d c.loop.met c.loop.depths (omega arith)
    (c.loop.invariant.going fs) (c.next.ensures fs) c.in-Astray.is

pub loop-preserved : goal.loop-preserved
loop-preserved c =
    let some : 0 < 2 * c.args.n.nodes - c.loop.counter = omega arith in
    let fewer : 2 * c.args.n.nodes - (c.loop.counter + 1) ≡ 2 * c.args.n.nodes - c.loop.counter - 1 = omega arith in
    elim c.match-next.branch [
      | in-Down w ↦ record {
        here = rw w.at-is (down_there c.args.s c.args.n [] c.args.links.now (c.requires.1 []) (c.requires.2 []) c.loop.at c.loop.k
            c.loop.d w.in-Down.c (sym (c.next.ensures []) ∙ w.in-Down.is) c.loop.invariant.here (c.loop.invariant.above [])).0;
        shallow = omega (arith, w.d-is);
        few = omega (arith, w.met-is);
        above = λ fs. rw (w.at-is, w.d-is) (down_there c.args.s c.args.n fs c.args.links.now (c.requires.1 fs) (c.requires.2 fs) c.loop.at c.loop.k
            c.loop.d w.in-Down.c (sym (c.next.ensures fs) ∙ w.in-Down.is) c.loop.invariant.here (c.loop.invariant.above fs)).1;
        going = λ fs. rw fewer (go_down _ _ c.loop.at c.loop.k c.loop.d c.loop.met c.loop.depths some (c.loop.invariant.going fs) (c.next.ensures fs) w.in-Down.is
            w.at-is w.k-is w.d-is w.met-is (w.depths-is ∙ w.meet-depths-in-Down.ensures fs));
      }
      | in-Up w ↦ record {
        here = rw w.at-is (up_there c.args.s c.args.n [] c.args.links.now c.loop.at c.loop.k c.loop.d w.in-Up.p _
            (sym (c.next.ensures []) ∙ w.in-Up.is) (c.loop.invariant.above [])).0;
        shallow = omega (arith, w.d-is);
        few = omega (arith, w.met-is);
        above = λ fs. rw (w.at-is, w.d-is) (up_there c.args.s c.args.n fs c.args.links.now c.loop.at c.loop.k c.loop.d w.in-Up.p _
            (sym (c.next.ensures fs) ∙ w.in-Up.is) (c.loop.invariant.above fs)).2;
        going = λ fs. rw fewer (go_up _ _ c.loop.at c.loop.k c.loop.d c.loop.met c.loop.depths some (c.loop.invariant.going fs) (c.next.ensures fs) w.in-Up.is
            w.at-is w.k-is w.d-is w.met-is w.depths-is);
      }
    ]

pub returns : goal.returns
returns c = λ fs. go_out _ _ c.loop.at c.loop.k c.loop.d c.loop.met c.loop.depths (omega arith) (c.loop.invariant.going fs)

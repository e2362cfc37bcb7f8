-- Each node makes its pairs.
use Rattle.std.proofs.Common.{◌∙◌, arith, refl, sym}
use Rattle.rules.specs.Lists.{table}
use Rattle.rules.specs.Slices.{tree_of}
use Rattle.arena.specs.Trees.{count_nodes_lem}
use Rattle.scratch.specs.Stored.{pairs_in}
use Rattle.pairs.specs.Groups.{cousins_turn, cousins_end}
use Rattle.pairs.specs.Rooms.{under_more, room_under, all_under}
use Rattle.pairs.proofs.cousins.cousin_pairs.Goals as goal

pub loop-i-init : goal.loop-i-init
unfolding pairs_in table
loop-i-init c = (omega arith, refl)

pub push_cousins-count-requires-clause-room : goal.push_cousins-count-requires-clause-room
push_cousins-count-requires-clause-room c =
    let l = c.loop-i in
    room_under c.args.s c.args.n c.args.floats.now c.args.links.now c.requires.floats.0 c.requires.floats.2 l.i l.count c.loop-i-test.true l.invariant.0
    c.requires.room l.auto.costs l.auto.numbers

pub loop-i-preserved : goal.loop-i-preserved
loop-i-preserved c =
    let t = tree_of c.args.s c.args.n c.args.floats.now c.args.links.now in
    let l = c.loop-i in
    let long = count_nodes_lem c.args.s c.args.n c.args.floats.now c.args.links.now in (
      omega (arith, under_more t l.i),
      cousins_turn c.args.s t l.i (pairs_in l.costs l.numbers l.count) _ (omega (arith, long)) c.push_cousins-count.ensures.result_after ∙ l.invariant.1,
    )

pub returns-clause-result_after : goal.returns-clause-result_after
returns-clause-result_after c =
    let t = tree_of c.args.s c.args.n c.args.floats.now c.args.links.now in
    let long = count_nodes_lem c.args.s c.args.n c.args.floats.now c.args.links.now in
    sym (cousins_end c.args.s t c.loop-i.i _ (omega (arith, long))) ∙ c.loop-i.invariant.1

pub returns-clause-upper_bound : goal.returns-clause-upper_bound
returns-clause-upper_bound c =
    let l = c.loop-i in
    all_under c.args.s c.args.n c.args.floats.now c.args.links.now c.requires.floats.0 c.requires.floats.2 l.i l.count (omega arith) l.invariant.0

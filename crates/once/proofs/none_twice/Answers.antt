use Rattle.rules.specs.Slices.{tree_of}
use Rattle.once.specs.Once.{leaves_start, leaves_turn, some_twice, none_twice_lem}
use Rattle.once.proofs.none_twice.Goals as goal

pub loop-i-init : goal.loop-i-init
loop-i-init c = λ fs. leaves_start (tree_of c.args.s c.args.n fs c.args.links.now) c.new-seen.ensures

pub returns-in_default : goal.returns-in_default
returns-in_default c = λ fs.
    some_twice c.args.s c.args.n fs c.args.links.now (c.requires.1 fs) c.loop-i.i c.loop-i.seen (c.loop-i.invariant fs)
    (c.leaf_marks.ensures fs) c.in_default.is c.loop-i-test.true

pub loop-i-preserved : goal.loop-i-preserved
loop-i-preserved c = λ fs.
    leaves_turn (tree_of c.args.s c.args.n fs c.args.links.now) c.loop-i.i c.loop-i.seen (c.loop-i.invariant fs) (c.leaf_marks.ensures fs) c.in-Some.is

pub returns : goal.returns
returns c = λ fs.
    none_twice_lem c.args.s c.args.n fs c.args.links.now (c.requires.1 fs) c.loop-i.i c.loop-i.seen (c.loop-i.invariant fs) c.loop-i.auto.i-end c.loop-i-test.false

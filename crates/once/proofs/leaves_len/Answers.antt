use Rattle.std.proofs.Common.{[], ◌≤◌, sym, ◌∙◌, arith}
use Rattle.head.specs.Sizes.{nodes_small}
use Rattle.lists.specs.Loops.{sum-none, sum_more, sum_end}
use Rattle.lists.specs.Lent.{leaf-few, leaves_length}
use Rattle.once.proofs.leaves_len.Goals as goal

-- a block has room for 17 numbers
few : (c : goal.After-leaf_len-sum) → c.leaf_len-sum.result ≤ 17
few c = rw (c.leaf_len-sum.ensures []) (leaf-few c.args.s c.args.n [] c.args.links.now _ c.loop-i.i c.requires c.loop-i-test.true)

pub loop-i-init : goal.loop-i-init
loop-i-init c = record { few = omega arith; summed = λ fs. sum-none _ }

pub overflow_add-sum : goal.overflow_add-sum
overflow_add-sum c =
    let q = few c in let k = nodes_small c.args.s c.requires.sized in let m = c.requires.nodes_in in omega arith

pub loop-i-preserved : goal.loop-i-preserved
loop-i-preserved c =
    let q = few c in
    record { few = omega arith; summed = λ fs. sum_more _ c.loop-i.i (c.loop-i.invariant.summed fs) (c.leaf_len-sum.ensures fs) }

pub returns : goal.returns
returns c = λ fs.
    sum_end _ _ c.loop-i.i (c.loop-i.invariant.summed fs) c.loop-i.auto.i-end c.loop-i-test.false
    ∙ sym (leaves_length c.args.s c.args.n fs c.args.links.now)

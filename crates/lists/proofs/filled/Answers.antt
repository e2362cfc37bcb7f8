-- `lists::filled` meets its contract: each node is asked.
use Rattle.std.proofs.Common.{rules, ◌∙◌, ltb, ◌&&◌, ◌||◌, length}
use Rattle.rules.specs.Tree.{Tree, node_at}
use Rattle.rules.specs.Check.{lone_root, filled}
use Rattle.rules.specs.Slices.{tree_of}
use Rattle.lists.specs.Lent.{nodes_placed}
use Rattle.lists.proofs.filled.Goals as goal

pub returns : goal.returns
unfolding filled
returns c = λ fs.
    let t : Tree = tree_of c.args.s c.args.n fs c.args.links.now in
    c.every_below.ensures (λ k. ltb 0 (length (node_at t k).list) || ((node_at t k).leaf && lone_root t)) (λ k b l h. search rules)
    ∙ nodes_placed c.args.s c.args.n fs c.args.links.now _

-- `lists::lists_fit` meets its contract: each list is asked.
use Rattle.std.proofs.Common.{rules, ◌∙◌}
use Rattle.rules.specs.Tree.{Tree, node_at}
use Rattle.rules.specs.Check.{list_fits}
use Rattle.rules.specs.Slices.{tree_of}
use Rattle.lists.specs.Lent.{nodes_placed}
use Rattle.lists.proofs.lists_fit.Goals as goal

pub returns : goal.returns
returns c = λ fs.
    let t : Tree = tree_of c.args.s c.args.n fs c.args.links.now in
    c.every_below.ensures (λ k. list_fits c.args.s t (node_at t k)) (λ k b l h. search rules)
    ∙ nodes_placed c.args.s c.args.n fs c.args.links.now _

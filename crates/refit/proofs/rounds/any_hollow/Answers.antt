-- The numbers of the nodes are told one by one.
use Rattle.std.proofs.Common.{refl, ◌∙◌, rules, arith}
use Rattle.std.proofs.lemmas.Iterator.{YieldsList-from_range}
use Rattle.std.proofs.lemmas.Iterator.Search.{any_from_yields_List}
use Rattle.rules.specs.Slices.{tree_of}
use Rattle.rules.specs.Tree.{node_at}
use Rattle.rules.specs.Refit.{hollow}
use Rattle.refit.specs.Hollow.{hollow_told}
use Rattle.refit.proofs.rounds.any_hollow.Goals as goal

pub returns : goal.returns
returns c fs =
    let a = c.args in
    any_from_yields_List (λ i. hollow (node_at (tree_of a.s a.n fs a.links.now) i)) _ _ _ c.any.ensures.ran
    (YieldsList-from_range 0 a.n.nodes a.n.nodes refl (omega arith)) (λ x b q k. search rules)
    ∙ hollow_told a.s a.n fs a.links.now

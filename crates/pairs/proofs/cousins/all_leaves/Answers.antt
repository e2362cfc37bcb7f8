-- All of a list are leaves if the chain finds each to be one.
use Rattle.std.proofs.Common.{◌<◌, ◌∙◌, rules, subst, sym}
use borrow.Author.Tests.{tests}
use Rattle.std.proofs.lemmas.Grind.{get_or_default_zero}
use Rattle.std.proofs.lemmas.Iterator.{YieldsList-from_slice}
use Rattle.std.proofs.lemmas.Iterator.Search.{all_from_yields_List}
use Rattle.std.proofs.lemmas.Iterator.Adapters.{serves_from_places}
use Rattle.rules.specs.Tree.{node_at}
use Rattle.rules.specs.Slices.{tree_of}
use Rattle.bounds.specs.Sure.{node_listed}
use Rattle.pairs.specs.Groups.{all_leaves_lem}
use Rattle.pairs.proofs.cousins.all_leaves.Goals as goal

pub all-requires-clause-callable : goal.all-requires-clause-callable
all-requires-clause-callable c =
    serves_from_places (YieldsList-from_slice c.args.list.now cc) (λ x q k. search rules)
    (λ x k h e.
    let there : x.now < c.args.n.nodes = subst (λ y. y < c.args.n.nodes)
    (sym (e ∙ get_or_default_zero c.args.list.now k x.now h)) (node_listed _ _ c.requires.1 k h) in
    search rules)

pub returns : goal.returns
returns c fs =
    let t = tree_of c.args.s c.args.n fs c.args.links.now in
    all_from_yields_List (λ k. (node_at t k).leaf) _ _ _ c.all.ensures.ran (YieldsList-from_slice c.args.list.now cc) (λ x b q k. search (rules, tests))
    ∙ all_leaves_lem t c.args.list.now

-- `lists::below` meets its contract: `all` asks each number of the list.
use Rattle.std.proofs.Common.{rules, ap, ◌∙◌, ltb}
use borrow.Author.Tests.{tests}
use Rattle.std.proofs.lemmas.Iterator.{YieldsList-from_slice}
use Rattle.std.proofs.lemmas.Iterator.Search.{all_from_yields_List}
use Rattle.rules.specs.Lists.{every}
use Rattle.lists.specs.Loops.{every_all}
use Rattle.lists.proofs.below.Goals as goal

pub returns : goal.returns
returns c =
    let told = all_from_yields_List (λ x. ltb x c.args.bound) _ _ c.all.result c.all.ensures.ran
    (YieldsList-from_slice c.list.result.now cc) (λ x b q k. search (rules, tests)) in
    λ fs. told ∙ every_all (λ x. ltb x c.args.bound) c.list.result.now ∙ ap (every (λ x. ltb x c.args.bound)) (c.list.ensures fs)

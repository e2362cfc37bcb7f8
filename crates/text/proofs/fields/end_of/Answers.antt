-- No tab stands before the first that `position` finds.
use Rattle.std.proofs.Common.{rules, tests, arith, eqb, ◌+◌, ◌-◌, length, drop, take, ap, ◌∙◌}
use Rattle.std.proofs.lemmas.Iterator.{YieldsList-from_slice}
use Rattle.std.proofs.lemmas.Iterator.Search.{position_from_yields_List}
use Rattle.std.proofs.lemmas.Slice.{between_to_end}
use Rattle.text.specs.Fields.{tab-found, tab_at}
use Rattle.text.proofs.fields.end_of.Goals as goal

pub returns : goal.returns
returns c =
    let line = c.args.line.now in
    let from = c.args.from in
    let rest = take (length line - from) (drop from line) in
    let found = position_from_yields_List (λ b. eqb b 9) _ _ c.position.result c.position.ensures.ran (YieldsList-from_slice rest (cc))
    (λ x b q k. search (rules, tests)) in
    ap (λ n. from + n) (c.unwrap_or.ensures ∙ tab-found rest _ found ∙ ap tab_at (between_to_end line from (length line) (omega arith)))

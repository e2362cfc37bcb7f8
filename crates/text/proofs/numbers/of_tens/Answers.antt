-- A digit more, one that is none, or a number past what is read.
use Rattle.std.proofs.Common.{◌≡◌, get_or, arith, sym, ap, ◌∙◌, Some}
use Rattle.rules.specs.Listing.{digit}
use Rattle.text.specs.Told.{few}
use Rattle.text.specs.Numbers.{read_stop, read_more, read_end, few-over, few-is}
use Rattle.text.proofs.numbers.of_tens.Goals as goal

pub returns-in_err-d : goal.returns-in_err-d
unfolding few
returns-in_err-d c =
    let loop = c.loop-b in
    c.from_residual.ensures ∙ ap few (sym (read_stop digit 10 _ loop.b-index loop.n (omega arith) (sym c.digit.ensures ∙ c.in_err-d.was)) ∙ loop.invariant.1)

pub returns-then-n-gt-MOST : goal.returns-then-n-gt-MOST
returns-then-n-gt-MOST c =
    let loop = c.loop-b in
    let is : digit (get_or c.args.field.now loop.b-index 0) ≡ Some c.from.result = sym c.digit.ensures ∙ c.in_ok-d.was ∙ ap Some (sym c.from.ensures) in
    sym (few-over _ _ c.if-n-gt-MOST.true) ∙ ap few (read_more digit 10 _ loop.b-index loop.n c.from.result (omega arith) is ∙ loop.invariant.1)

pub loop-b-preserved : goal.loop-b-preserved
loop-b-preserved c =
    let loop = c.loop-b in
    let is : digit (get_or c.args.field.now loop.b-index 0) ≡ Some c.from.result = sym c.digit.ensures ∙ c.in_ok-d.was ∙ ap Some (sym c.from.ensures) in
    (omega arith, read_more digit 10 _ loop.b-index loop.n c.from.result (omega arith) is ∙ loop.invariant.1)

pub returns : goal.returns
returns c =
    let loop = c.loop-b in
    sym (few-is loop.n loop.invariant.0) ∙ ap few (sym (read_end digit 10 _ loop.b-index loop.n (omega arith)) ∙ loop.invariant.1)

-- By the two comparisons, where there is a number to compare.
use Rattle.std.proofs.Common.{◌≡◌, sym, ap, ◌∙◌, le-leb}
use Rattle.std.proofs.lemmas.Bool.{lt-leb}
use Rattle.head.specs.Limits.{within}
use Rattle.rules.specs.Listing.{decimal}
use Rattle.reasons.specs.Reasons.{size_in, size_few}
use Rattle.reasons.proofs.settings.is_size.Goals as goal

pub returns-in_default : goal.returns-in_default
unfolding size_in
returns-in_default c =
    let a = c.args in
    ap (size_in a.least a.most) (sym c.in_default.is ∙ c.decimal.ensures) ∙ size_few a.least a.most c.requires _

pub returns-then-n-least : goal.returns-then-n-least
unfolding within size_in
returns-then-n-least c =
    let a = c.args in
    let is : within a.least a.most c.in-Some.n ≡ size_in a.least a.most (decimal a.field.now) =
    ap (size_in a.least a.most) (sym c.in-Some.is ∙ c.decimal.ensures) ∙ size_few a.least a.most c.requires _ in
    sym (rw (lt-leb _ _ c.if-n-least.true)) ∙ is

pub returns : goal.returns
unfolding within size_in
returns c =
    let a = c.args in
    let is : within a.least a.most c.in-Some.n ≡ size_in a.least a.most (decimal a.field.now) =
    ap (size_in a.least a.most) (sym c.in-Some.is ∙ c.decimal.ensures) ∙ size_few a.least a.most c.requires _ in
    sym (rw (le-leb _ _ c.if-n-least.false)) ∙ is

-- `reports::fields::decimals` meets its contract: one field behind the other.
use native.Mathlib.Omega.{arith}
use borrow.Author.Rules.{rules}
use Rattle.reports.specs.Lines.{wrote_long, wrote_both, wrote_is, tabbed_both, tabbed-decimal}
use mathlib.Core.List.{[], ◌∷◌}
use Rattle.rules.specs.Listing.{decimal_of}
use Rattle.reports.proofs.fields.decimals.Statement.{statement}
use Rattle.reports.proofs.fields.decimals.Tie as tie

decimal-requires-2 : tie.Need-decimal-requires
decimal-requires-2 c κs =
    let start = c in
    let e = c.decimal-end.ensures in omega (arith, wrote_long e, e.end, tabbed-decimal start.args.m)

returns : tie.Need-returns
returns c =
    let decimal = c.before.before.before.before.before.before in
    let start = decimal in
    wrote_is (tabbed_both (decimal_of start.args.m ∷ []) (decimal_of start.args.n ∷ [])) (wrote_both decimal.decimal-end.ensures
    c.decimal.ensures)

pub decimals_spec : {M : Type 1} → statement M
decimals_spec = tie.close (tie.spec (λ c κs. search rules) decimal-requires-2 (λ c. search rules) returns)

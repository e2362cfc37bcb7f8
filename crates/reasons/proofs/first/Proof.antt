-- `reasons::first` meets its contract: rule after rule.
use mathlib.Core.Path.{◌≡◌, sym, ◌∙◌}
use borrow.Author.Rules.{rules}
use borrow.Author.Tests.{le-leb, lt-leb, lt-ltb, le-ltb, eq-eqb, ne_eqb}
use lib.ListN.{length}
use Rattle.rules.specs.Listing.{fields_of}
use Rattle.reasons.specs.Reasons.{reason_of, first_reason}
use Rattle.reasons.proofs.first.Statement.{statement}
use Rattle.reasons.proofs.first.Tie as tie

returns : tie.Need-returns-then-line-gt-MOST
unfolding first_reason reason_of
returns c = rw (lt-leb _ _ c.if-line-gt-MOST.true)

returns-2 : tie.Need-returns-then-ends_in_return
unfolding first_reason reason_of
returns-2 c = rw (le-leb _ _ c.if-line-gt-MOST.false, ← c.ends_in_return.ensures, c.if-ends_in_return.true)

returns-3 : tie.Need-returns-then-n-ne8
unfolding first_reason reason_of
returns-3 c =
    let count = c.field_count-n.ensures in
    rw (
      count,
      le-leb _ _ c.if-line-gt-MOST.false,
      ← c.ends_in_return.ensures,
      c.if-ends_in_return.false,
      ne_eqb _ _ (λ e. c.if-n-ne8.true (count ∙ e)),
    )

-- the fields are eight
eight : (c : tie.Else-n-ne8) → length (fields_of c.args.line.now) ≡ 8
eight c = sym c.field_count-n.ensures ∙ c.if-n-ne8.false

returns-4 : tie.Need-returns-then-k-lt8
unfolding first_reason reason_of
returns-4 c =
    rw (
      le-leb _ _ c.if-line-gt-MOST.false,
      ← c.ends_in_return.ensures,
      c.if-ends_in_return.false,
      eq-eqb _ _ (eight c.before.before),
      ← c.settings-k.ensures,
      lt-ltb _ _ c.if-k-lt8.true,
    )

returns-5 : tie.Need-returns
unfolding first_reason reason_of
returns-5 c =
    rw (
      le-leb _ _ c.if-line-gt-MOST.false,
      ← c.ends_in_return.ensures,
      c.if-ends_in_return.false,
      eq-eqb _ _ (eight c.before.before),
      ← c.settings-k.ensures,
      le-ltb _ _ c.if-k-lt8.false,
    )

pub first_spec : {M : Type 1} → statement M
first_spec =
    tie.close (tie.spec returns (λ c κs. search rules) returns-2 (λ c κs. search rules) returns-3 (λ c κs. eight c) (λ c. search rules) returns-4 returns-5)

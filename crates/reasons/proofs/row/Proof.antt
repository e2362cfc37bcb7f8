-- `reasons::row` meets its contract: rule after rule.
use borrow.Author.Rules.{rules}
use borrow.Author.Tests.{le-leb, lt-leb, lt-ltb, le-ltb}
use Rattle.reasons.specs.Reasons.{reason_of, row_reason}
use Rattle.reasons.proofs.row.Statement.{statement}
use Rattle.reasons.proofs.row.Tie as tie

returns : tie.Need-returns-then-line-gt-MOST
unfolding row_reason reason_of
returns c = rw (lt-leb _ _ c.if-line-gt-MOST.true)

returns-2 : tie.Need-returns-then-ends_in_return
unfolding row_reason reason_of
returns-2 c = rw (le-leb _ _ c.if-line-gt-MOST.false, ← c.ends_in_return.ensures, c.if-ends_in_return.true)

returns-3 : tie.Need-returns-then-k-n
unfolding row_reason reason_of
returns-3 c =
    rw (
      le-leb _ _ c.if-line-gt-MOST.false,
      ← c.ends_in_return.ensures,
      c.if-ends_in_return.false,
      ← c.field_count-n.ensures,
      ← c.floats-k.ensures,
      lt-ltb _ _ c.if-k-n.true,
    )

returns-4 : tie.Need-returns
unfolding row_reason reason_of
returns-4 c =
    rw (
      le-leb _ _ c.if-line-gt-MOST.false,
      ← c.ends_in_return.ensures,
      c.if-ends_in_return.false,
      ← c.field_count-n.ensures,
      ← c.floats-k.ensures,
      le-ltb _ _ c.if-k-n.false,
    )

pub row_spec : {M : Type 1} → statement M
row_spec =
    tie.close (tie.spec returns (λ c κs. search rules) returns-2 (λ c κs. search rules) (λ c κs. c.field_count-n.ensures) (λ c. search rules)
    returns-3 returns-4)

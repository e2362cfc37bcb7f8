-- `grow::absorbs` meets its contract: `abs` was worked out for the entry.
use borrow.Author.Rules.{rules}
use Rattle.grow.specs.Places.{absorbs-is}
use Rattle.grow.proofs.absorbs.Statement.{statement}
use Rattle.grow.proofs.absorbs.Tie as tie

returns : tie.Need-returns
returns c =
    let a = c.args in
    λ ls. absorbs-is a.s a.n a.floats.now ls a.row.now a.e (c.to_row.ensures ls)

pub absorbs_spec : {M : Type 1} → statement M
absorbs_spec = tie.close (tie.spec (λ c κs. search rules) returns)

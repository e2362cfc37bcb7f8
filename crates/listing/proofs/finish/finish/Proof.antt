-- `listing::finish::finish` meets its contract: the last line, and then what is printed.
use borrow.Author.Rules.{rules}
use Rattle.reports.specs.Lines.{wrote_is}
use Rattle.listing.proofs.finish.finish.Statement.{statement}
use Rattle.listing.proofs.finish.finish.Tie as tie

returns : tie.Need-returns
returns c =
    let last_Line = c in
    let last = last_Line.last_line-last.ensures in
    (wrote_is last.1 c.print-long.ensures, record { stands = last.0; lists = last.1 })

pub finish_spec : {M : Type 1} → statement M
finish_spec =
    tie.close (tie.spec (λ c κs. search rules) (λ c κs. search rules) (λ c. search rules) (λ c. search rules) (λ c. search rules) (λ c. search rules)
    (λ c. search rules) returns)

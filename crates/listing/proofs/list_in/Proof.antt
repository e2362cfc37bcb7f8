-- `listing::list_in` meets its contract: all of the input is one chunk.
use borrow.Author.Rules.{rules}
use Rattle.reports.specs.Lines.{wrote_is}
use Rattle.listing.specs.Chunks.{all_listed}
use Rattle.listing.proofs.list_in.Statement.{statement}
use Rattle.listing.proofs.list_in.Tie as tie

feed-requires : tie.Need-feed-r-requires
feed-requires c κs =
    (c.requires.0, c.begin.ensures.reading _ _)

finish-requires : tie.Need-finish-end-requires
finish-requires c κs =
    let new = c.feed-r in
    let kept = new.auto in
    let pre = c.requires in
    (rw (kept.line, kept.floats, kept.links, kept.scratch, kept.numbers) pre.0, (new.ensures.0, pre.1))

returns : tie.Need-returns
returns c =
    let a = c.args in
    let begin = c.begin in
    wrote_is (all_listed begin.result a.line.now a.floats.now a.links.now begin.ensures c.feed-r.ensures.1)
    c.finish-end.ensures.0

pub list_in_spec : {M : Type 1} → statement M
list_in_spec =
    tie.close (tie.spec (λ c κs. search rules) feed-requires finish-requires (λ c. search rules) (λ c. search rules) (λ c. search rules)
    (λ c. search rules) (λ c. search rules) (λ c. search rules) returns)

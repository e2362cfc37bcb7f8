-- `fronts::tidy::tidy` meets its contract: each slice cleared to what the tree needs.
use borrow.Author.Rules.{rules}
use Rattle.fronts.specs.Fronts.{counters_back}
use Rattle.fronts.proofs.tidy.tidy.Statement.{statement}
use Rattle.fronts.proofs.tidy.tidy.Tie as tie

floats-requires : tie.Need-floats-requires
floats-requires c κs = (c.requires.floats_in_lem, c.requires.floats_exact)

links-requires : tie.Need-links-requires
links-requires c κs = (c.requires.links_in, c.requires.links_exact)

returns : tie.Need-returns
returns c =
    let a = c.args in
    record {
      counters = counters_back a.s a.n a.floats.now a.links.now;
      floats = c.floats.ensures a.links.now;
      links = c.links.ensures a.floats.now;
    }

pub tidy_spec : {M : Type 1} → statement M
tidy_spec = tie.close (tie.spec floats-requires links-requires (λ c. search rules) (λ c. search rules) returns)

-- `export::look::cftree_entries` meets its contract: the answer of the call over values, in numbers.
use mathlib.Core.Path.{sym, ap, ◌∙◌}
use Rattle.export.specs.Seen.{listed_numbers}
use Rattle.export.proofs.look.cftree_entries.Goals as goal

pub returns : goal.returns
returns c = rw (sym c.head_of-h.ensures) (c.listing_numbers.ensures ∙ ap listed_numbers c.entries-listing.ensures)

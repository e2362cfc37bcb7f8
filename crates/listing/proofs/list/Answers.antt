-- `listing::list` meets its contract: an output that is too short stays as lent, and to any other the listing is written.
use Rattle.std.proofs.Common.{arith}
use Rattle.listing.specs.Whole.{list_refused, list_written}
use Rattle.listing.proofs.list.Goals as goal

pub returns-then-out-lt-PAGE : goal.returns-then-out-lt-PAGE
returns-then-out-lt-PAGE c = list_refused _ _ (omega arith)

pub returns : goal.returns
returns c = list_written _ _ (omega arith) c.list_in.ensures

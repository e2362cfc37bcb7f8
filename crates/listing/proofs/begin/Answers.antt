use Rattle.lines.specs.Runs.{begun}
use Rattle.listing.proofs.begin.Goals as goal

pub returns : goal.returns
returns c = begun c.new.result

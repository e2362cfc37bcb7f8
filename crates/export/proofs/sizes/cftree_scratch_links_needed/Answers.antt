-- `export::sizes::cftree_scratch_links_needed` meets its contract: 0 where the head is not allowed, else the formula.
use Rattle.boundary.specs.Numbers.{head_of}
use Rattle.export.specs.Given.{needed_told}
use Rattle.export.proofs.sizes.cftree_scratch_links_needed.Goals as goal

pub returns : goal.returns
returns c = needed_told _ (head_of c.args.h) c.needed.ensures.outside (λ e. (c.needed.ensures.inside e).1)

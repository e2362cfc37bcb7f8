-- One more, up to the top value.
use Rattle.std.proofs.Common.{◌∙◌, arith}
use Rattle.rebuild.specs.Counted.{one_more_lem}
use Rattle.rebuild.proofs.one_more.Goals as goal

pub returns : goal.returns
returns c = c.saturating_add.ensures ∙ one_more_lem c.args.rebuilds (omega arith)

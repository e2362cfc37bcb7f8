-- Written to its three places.
use Rattle.std.proofs.Common.{arith}
use Rattle.scratch.specs.Stored.{put_is}
use Rattle.scratch.proofs.stored.put.Goals as goal

pub returns : goal.returns
returns c = put_is c.args.costs.now c.args.numbers.now c.args.k c.args.p (omega arith) (omega arith)

-- `refusals::change::shape` meets its contract: what is left over.
use Rattle.refusals.specs.Each.{rest-left, none_left}
use Rattle.refusals.proofs.change.shape.Goals as goal

pub returns-then-rest-ne0 : goal.returns-then-rest-ne0
returns-then-rest-ne0 c = rest-left c.args.dim c.args.numbers c.if-rest-ne0.true

pub returns : goal.returns
returns c = none_left c.args.dim c.args.numbers c.if-rest-ne0.false

-- `cftree::change::create` meets its contract: refused, all is as lent; accepted, an empty tree stands in front.
use Rattle.std.proofs.Common.{sym}
use Rattle.cftree.specs.Outcomes.{made_refused, made-done}
use Rattle.refusals.specs.Granted.{create_grants}
use Rattle.rules.specs.Calls.{created}
use Rattle.cftree.proofs.change.create.Goals as goal

pub returns-in_err-create : goal.returns-in_err-create
unfolding created
returns-in_err-create c = made_refused _ _ _ _ _ c.from_residual.ensures.1 c.in_err-create.ensures

pub create-requires-2 : goal.create-requires-2
create-requires-2 c = create_grants _ _ _ (sym c.in_ok-create.ensures)

pub returns : goal.returns
unfolding created
returns c = made-done _ _ _ _ c.in_ok-create.ensures c.create-2.ensures

-- A pair goes behind the others, or none.
use Rattle.std.proofs.Common.{ap}
use Rattle.scratch.specs.Stored.{PairFits}
use Rattle.pairs.specs.Partners.{Inside, partner_of, none-pushed, pair-pushed}
use Rattle.pairs.proofs.partner.push.Goals as goal

pub returns-in_default-clause-result_after : goal.returns-in_default-clause-result_after
returns-in_default-clause-result_after c = none-pushed _ _ c.args.count c.args.i _ (ap partner_of c.in_default.is)

pub put-requires : goal.put-requires
unfolding PairFits Inside
put-requires c = (c.requires.0, (c.requires.1, rw c.in-Some.is at c.requires.2))

pub returns-clause-result_after : goal.returns-clause-result_after
returns-clause-result_after c = pair-pushed c.args.count c.args.i _ _ _ (ap partner_of c.in-Some.is) c.put.ensures

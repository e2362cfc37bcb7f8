-- Down where the node names the list's.
use Rattle.std.proofs.Common.{sym}
use borrow.Author.Tests.{eq-eqb, ne_eqb}
use Rattle.rules.specs.Check.{names}
use Rattle.tour.specs.Walking.{down_of}
use Rattle.tour.proofs.down.Goals as goal

pub returns-in_default : goal.returns-in_default
unfolding down_of names
returns-in_default c = λ fs. rw (← c.parent.ensures fs, c.in_default.is)

pub returns-then-p-i : goal.returns-then-p-i
unfolding down_of names
returns-then-p-i c = λ fs. rw (← c.in-Some.ensures fs, eq-eqb c.args.i c.in-Some.p (sym c.if-p-i.true))

pub returns-else-p-i : goal.returns-else-p-i
unfolding down_of names
returns-else-p-i c = λ fs. rw (← c.in-Some.ensures fs, ne_eqb c.args.i c.in-Some.p (λ w. c.if-p-i.false (sym w)))

-- `walk_once` meets its contract: a test, and the walk.
use Rattle.validate.specs.Examined.{walked_once}
use Rattle.validate.proofs.walk_once.Statement.{statement}
use Rattle.validate.proofs.walk_once.Tie as tie

once-each-requires : tie.Need-once_each-requires
once-each-requires c κs = (c.requires.0, c.requires.1, c.requires.2)

walk-requires : tie.Need-walk-requires
walk-requires c κs =
    let start = c.before.before.before in
    (start.requires.0, start.requires.1, start.requires.3)

returns : tie.Need-returns-then-once_each
unfolding walked_once
returns c = λ fs. rw (← c.once_each.ensures fs, c.if-once_each.true) (c.walk.ensures fs)

returns-2 : tie.Need-returns-else-once_each
unfolding walked_once
returns-2 c = λ fs. rw (← c.once_each.ensures fs, c.if-once_each.false)

pub walk_once_spec : {M : Type 1} → statement M
walk_once_spec = tie.close (tie.spec once-each-requires walk-requires returns returns-2)

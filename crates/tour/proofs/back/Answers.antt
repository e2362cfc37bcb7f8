-- `back` meets its contract: by the count.
use Rattle.std.proofs.Common.{eq-eqb, ne_eqb}
use Rattle.arena.specs.Trees.{count_nodes_lem}
use Rattle.tour.specs.Walking.{back_of}
use Rattle.tour.proofs.back.Goals as goal

pub returns-then-met-n : goal.returns-then-met-n
unfolding back_of
returns-then-met-n c = λ fs. rw (count_nodes_lem c.args.s c.args.n fs c.args.links.now, eq-eqb c.args.met c.args.n.nodes c.if-met-n.true)

pub returns-else-met-n : goal.returns-else-met-n
unfolding back_of
returns-else-met-n c = λ fs. rw (count_nodes_lem c.args.s c.args.n fs c.args.links.now, ne_eqb c.args.met c.args.n.nodes c.if-met-n.false)

-- The distance may be asked for each child, since each is a node.
use Rattle.std.proofs.Common.{rules}
use Rattle.bounds.specs.Sure.{node_listed}
use Rattle.descent.proofs.nearest_child.Goals as goal

pub nearest-requires-clause-may_ask : goal.nearest-requires-clause-may_ask
nearest-requires-clause-may_ask c k h = let there = node_listed _ _ c.requires.3 k h in search rules

pub returns-clause-upper_bound : goal.returns-clause-upper_bound
returns-clause-upper_bound c = let l = c.nearest.ensures.listed in rw l.2 (node_listed _ _ c.requires.3 l.0 l.1)

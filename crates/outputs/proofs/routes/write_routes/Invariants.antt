use Rattle.std.proofs.Common.{◌≡◌, map}
use Rattle.rules.specs.Lists.{rows_of}
use Rattle.rules.specs.Slices.{tree_of}
use Rattle.rules.specs.Route.{greedy}
use Rattle.stretch.specs.Stretches.{copied_to}
use Rattle.outputs.proofs.routes.write_routes.Given as goal

-- the rows before this one have their entries in front
abbrev pub invariant-loop-k : goal.invariant-loop-k
invariant-loop-k l = l.out ≡ copied_to l.k (map (greedy l.s (tree_of l.s l.n l.floats l.links)) (rows_of l.count l.s.dim l.rows)) l.fn.out

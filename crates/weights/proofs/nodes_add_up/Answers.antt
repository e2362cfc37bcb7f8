-- `nodes_add_up` meets its contract: each node adds up.
use Rattle.std.proofs.Common.{rules}
use Rattle.rules.specs.Slices.{tree_of}
use Rattle.arena.specs.Trees.{count_nodes_lem}
use Rattle.weights.specs.Adding.{adds_up, nodes_add_up}
use Rattle.weights.proofs.nodes_add_up.Goals as goal

pub returns : goal.returns
unfolding nodes_add_up
returns c =
    rw (count_nodes_lem c.args.s c.args.n c.args.floats.now c.args.links.now)
    (c.every_below.ensures (adds_up (tree_of c.args.s c.args.n c.args.floats.now c.args.links.now)) (λ k b l h. search rules))

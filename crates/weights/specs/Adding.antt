-- Condition 7 by lists: each node weighs what its own list weighs. A tree with no entries weighs 0.
use Rattle.std.specs.Prelude.{ℕ, Bool, cond, ◌&&◌, map, length, ◌==◌, nat_le, Float}
use Rattle.std.specs.Float.Ieee.{eq}
use Rattle.binary64.specs.Counts.{is_count}
use Rattle.binary64.specs.Operators.{f0}
use Rattle.binary64.specs.Sums.{sum_from}
use Rattle.binary64.specs.Whole.{whole, most}
use Rattle.rules.specs.Lists.{every, up_from}
use Rattle.rules.specs.Tree.{Tree, node_at, child}
use Rattle.rules.specs.Check.{total_of}

-- in floats, from the first to the last: exact, where entries are counts, their total is at most 2^53 and the nodes listed weigh theirs
unfoldable pub weight_listed : Tree → ℕ → Float
weight_listed t i = sum_from f0 (map (λ c. (child t (node_at t i).leaf c).weight) (node_at t i).list)

unfoldable pub adds_up : Tree → ℕ → Bool
adds_up t i = eq (weight_listed t i) (node_at t i).summary.weight

unfoldable pub nodes_add_up : Tree → Bool
nodes_add_up t = every (adds_up t) (up_from (length t.nodes) 0)

unfoldable pub weighs_nothing : Tree → Bool
weighs_nothing t = eq (whole 0) (node_at t t.root).summary.weight

unfoldable pub summed : Tree → Bool
summed t =
    every (λ e. is_count e.weight) t.entries && nat_le (total_of t.entries) most
    && cond (length t.entries == 0) (weighs_nothing t) (nodes_add_up t)

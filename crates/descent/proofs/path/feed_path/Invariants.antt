use Rattle.std.proofs.Common.{◌≡◌, ◌-◌, ◌<◌, length, Some}
use Rattle.rules.specs.Slices.{tree_of}
use Rattle.rules.specs.Descent.{along_path}
use Rattle.descent.specs.Forms.{item_of}
use Rattle.descent.specs.Paths.{climbed_from}
use Rattle.descent.proofs.path.feed_path.Given as goal

-- the way up that is left from node i, in the tree as it is, gives the whole path fed
abbrev pub invariant-loop : goal.invariant-loop
invariant-loop l =
    (l.i < l.n.nodes) × (length l.floats ≡ length l.fn.floats)
    × (climbed_from (item_of l.s l.item).taken (l.n.nodes - l.counter) (Some l.i) (tree_of l.s l.n l.floats l.links)
    ≡ along_path (item_of l.s l.item).taken l.leaf (tree_of l.s l.n l.fn.floats l.links))

use Rattle.std.proofs.Common.{◌≡◌, ◌<◌}
use Rattle.rules.specs.Descent.{closest}
use Rattle.arena.specs.Trees.{AnyLinks}
use Rattle.descent.specs.Searched.{entry_distance}
use Rattle.descent.specs.Nearest.{behind, nearest_from}
use Rattle.route.proofs.closest_entry.Given as goal

-- what is left of the list, from the closest so far, leads to the closest of the whole
abbrev pub invariant-loop-e : goal.invariant-loop-e
invariant-loop-e l =
    (l.best < l.n.entries)
    × AnyLinks l.s l.n l.floats (λ t.
    nearest_from (entry_distance l.s l.row t) (behind l.list) l.e-index l.best l.least ≡ closest (entry_distance l.s l.row t) l.list)

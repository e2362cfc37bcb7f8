use Rattle.std.proofs.Common.{◌≡◌}
use Rattle.arena.specs.Trees.{AnyLinks}
use Rattle.rules.specs.Descent.{searched}
use Rattle.descent.specs.Searched.{Inside, entry_distance, searched_from}
use Rattle.descent.proofs.leaf.search_leaf.Given as goal

-- what is left of the list, from what is found so far, leads to what the whole gives
abbrev pub invariant-loop-c : goal.invariant-loop-c
invariant-loop-c l =
    Inside l.n.entries l.near
    × AnyLinks l.s l.n l.floats (λ t.
    searched_from (entry_distance l.s l.row t) l.list l.c-index l.near l.least ≡ searched (entry_distance l.s l.row t) l.list)

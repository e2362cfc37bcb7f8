use Rattle.std.proofs.Common.{◌≡◌}
use Rattle.rules.specs.Lists.{rows_of}
use Rattle.rules.specs.Slices.{tree_of}
use Rattle.rules.specs.Refit.{poured}
use Rattle.rules.specs.Route.{greedy}
use Rattle.scratch.specs.Slots.{slots_in}
use Rattle.pouring.specs.Pouring.{poured_from}
use Rattle.pouring.proofs.pour_rows.Given as goal

-- the rows that are left, poured into scratch as it is, give the whole
abbrev pub invariant-loop-k : goal.invariant-loop-k
invariant-loop-k l =
    let t = tree_of l.s l.n l.floats l.links in
    poured_from l.s l.n t l.rows l.count l.k l.scratch ≡ poured l.s (greedy l.s t) (rows_of l.count l.s.dim l.rows) (slots_in l.s l.fn.scratch l.n.entries)

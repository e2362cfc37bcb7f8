use Rattle.std.proofs.Common.{◌≡◌, length, drop}
use Rattle.rules.specs.Slices.{tree_of}
use Rattle.split.specs.Parts.{adopted_by}
use Rattle.split.proofs.part.adopt.Given as goal

-- adopting what is left of the list, from the links so far, gives the whole
abbrev pub invariant-loop-c : goal.invariant-loop-c
invariant-loop-c l =
    (length l.links ≡ length l.fn.links)
    × ((fs : _) → adopted_by l.p (drop l.c-index l.list) (tree_of l.s l.n fs l.links) ≡ adopted_by l.p l.list (tree_of l.s l.n fs l.fn.links))

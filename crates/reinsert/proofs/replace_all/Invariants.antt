-- The summaries that are left, placed in the tree so far, give the whole.
use Rattle.std.proofs.Common.{◌≡◌, length, reverse}
use Rattle.rules.specs.Reinsert.{replaced_all}
use Rattle.rules.specs.Slices.{tree_of}
use Rattle.arena.specs.Trees.{Floats, Links}
use Rattle.scratch.specs.Slots.{slots_in}
use Rattle.reinsert.specs.Replace.{Replaceable}
use Rattle.reinsert.proofs.replace_all.Given as goal

abbrev pub invariant-loop-i : goal.invariant-loop-i
invariant-loop-i l =
    let t = tree_of l.s l.m l.floats l.links in
    Floats l.s l.m (length l.floats) × Links l.s l.m (length l.links)
    × Replaceable l.s t (reverse (slots_in l.s l.scratch l.i))
    × (replaced_all l.s (reverse (slots_in l.s l.scratch l.i)) t
    ≡ replaced_all l.s (reverse (slots_in l.s l.scratch l.count)) (tree_of l.s l.fn.n l.initial.floats l.initial.links))

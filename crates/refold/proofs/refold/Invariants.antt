use Rattle.std.proofs.Common.{◌≡◌, ◌-◌, ◌≤◌, length, List, ℕ}
use Rattle.rules.specs.Slices.{tree_of}
use Rattle.rules.specs.Refold.{refold_all, refolded}
use Rattle.refold.specs.Walk.{Backward}
use Rattle.refold.proofs.refold.Given as goal

-- the nodes left from here back to the root, made anew, give the whole
abbrev pub invariant-loop : goal.invariant-loop
invariant-loop l =
    let t = tree_of l.s l.n l.fn.floats l.links in
    (rs : List ℕ) × Backward t l.i rs × (length rs ≤ l.n.nodes - l.counter) × (length l.floats ≡ length l.fn.floats)
    × (length l.scratch ≡ length l.fn.scratch) × (refold_all l.s rs (tree_of l.s l.n l.floats l.links) ≡ refolded l.s t)

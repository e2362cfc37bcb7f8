-- Sums of weights from the first to the last. A sum of counts is the count of the sum.
use Rattle.std.specs.Prelude.{◌≡◌, ℕ, ◌+◌, ◌≤◌, List, [], ◌∷◌, map, Float}
use Rattle.std.proofs.Common.{sym, ap, ◌∙◌, add-zero, add_assoc, arith}
use Rattle.binary64.specs.Operators.{◌⊕◌}
use Rattle.binary64.specs.Whole.{whole, most, add-whole}

unfoldable pub total : List ℕ → ℕ
total [] = 0
total (n ∷ ns) = n + total ns

-- the floats added to x one after the other, each sum rounded once
unfoldable pub sum_from : Float → List Float → Float
sum_from x [] = x
sum_from x (y ∷ ys) = sum_from (x ⊕ y) ys

pub sum-whole : (a : ℕ) (ns : List ℕ) → a + total ns ≤ most → sum_from (whole a) (map whole ns) ≡ whole (a + total ns)
unfolding total sum_from
sum-whole a [] h = ap whole (sym (add-zero a))
sum-whole a (n ∷ ns) h =
    ap (λ (x : Float). sum_from x (map whole ns)) (add-whole a n (omega arith) (omega arith))
    ∙ sum-whole (a + n) ns (omega arith)
    ∙ ap whole (add_assoc a n (total ns))

-- The levels of a tree and what lies beneath its root: the same nodes at the same depths.
use Prim.Native.Nat.{ℕ, zero, suc, ◌+◌, ◌≤◌, ◌<◌}
use Rattle.std.specs.Prelude.{◌≡◌, Bool, length}
use Rattle.std.proofs.Math.Path.{refl, sym, ap}
use Rattle.std.proofs.Common.{◌∙◌}
use Rattle.std.proofs.Math.Bool.{true, false, cond}
use mathlib.Core.List.{List, [], ◌∷◌}
use native.Mathlib.Omega.{arith}
use Rattle.std.proofs.Math.ListN.{length-append}
use Rattle.rules.specs.Lists.{concat}
use Rattle.rules.specs.Tree.{Tree, node_at}
use Rattle.rules.specs.Check.{next_level, levels_from}
use Rattle.counting.specs.Sums.{over, over-append, over_plus, over-same, over_zero}
use Rattle.laws.specs.Check.Read.{below_of, next-over}
use Rattle.tour.specs.Sums.{kids, deep_sum, beneath}

-- whatever the depth
pub deep-over : (w : ℕ → ℕ) (d : ℕ) (ls : List (List ℕ)) → deep_sum (λ _. w) d ls ≡ over w (concat ls)
unfolding deep_sum concat over
deep-over w d [] = refl
deep-over w d (l ∷ ls) = let a = over-append w l (concat ls) in let b = deep-over w (suc d) ls in omega arith

module _ (t : Tree) where
  kids_over : (w : ℕ → ℕ) (i : ℕ) → below_of t w i ≡ over w (kids t i)
  unfolding kids
  kids_over w i = go (node_at t i).leaf
    where
      go : (b : Bool) → cond b 0 (over w (node_at t i).list) ≡ over w (cond b [] (node_at t i).list)
      go true = unfold over in refl
      go false = refl

  -- as far down as the levels go
  pub levels-beneath : (v : ℕ → ℕ → ℕ) (f d : ℕ) (l : List ℕ) → deep_sum v d (levels_from t f l) ≡ over (beneath t v f d) l
  unfolding deep_sum levels_from
  levels-beneath v zero d l = sym (over-same (beneath t v 0 d) (λ _. 0) l (λ i o. unfold beneath in refl) ∙ over_zero l)
  levels-beneath v (suc f) d [] = unfold over in refl
  levels-beneath v (suc f) d (x ∷ l) =
      let a = levels-beneath v f (suc d) (next_level t (x ∷ l)) in
      let b = next-over t (beneath t v f (suc d)) (x ∷ l) in
      let c = over-same (below_of t (beneath t v f (suc d))) (λ i. over (beneath t v f (suc d)) (kids t i)) (x ∷ l) (λ i o. kids_over (beneath t v f (suc d)) i) in
      let e = over_plus (v d) (λ i. over (beneath t v f (suc d)) (kids t i)) (x ∷ l) in
      let g = over-same (beneath t v (suc f) d) (λ i. v d i + over (beneath t v f (suc d)) (kids t i)) (x ∷ l) (λ i o. unfold beneath in refl) in
      omega arith

  -- each level has a node, so that levels of n nodes are no more than n
  pub levels-few : (f n : ℕ) (l : List ℕ) → length (concat (levels_from t f l)) ≤ n → n < f → levels_from t f l ≡ levels_from t (suc n) l
  unfolding levels_from concat
  levels-few zero n l h q = absurd (omega arith)
  levels-few (suc f) n [] h q = refl
  levels-few (suc f) zero (x ∷ l) h q =
      let a = length-append (x ∷ l) (concat (levels_from t f (next_level t (x ∷ l)))) in absurd (omega arith)
  levels-few (suc f) (suc n) (x ∷ l) h q =
      let a = length-append (x ∷ l) (concat (levels_from t f (next_level t (x ∷ l)))) in
      ap (λ ls. (x ∷ l) ∷ ls) (levels-few f n (next_level t (x ∷ l)) (omega arith) (omega arith))

  pub levels_more : (f n : ℕ) (l : List ℕ) → length (concat (levels_from t (suc n) l)) ≤ n → n < f → levels_from t f l ≡ levels_from t (suc n) l
  unfolding levels_from concat
  levels_more zero n l h q = absurd (omega arith)
  levels_more (suc f) n [] h q = refl
  levels_more (suc f) zero (x ∷ l) h q = let a = length-append (x ∷ l) (concat (levels_from t 0 (next_level t (x ∷ l)))) in absurd (omega arith)
  levels_more (suc f) (suc n) (x ∷ l) h q =
      let a = length-append (x ∷ l) (concat (levels_from t (suc n) (next_level t (x ∷ l)))) in
      ap (λ ls. (x ∷ l) ∷ ls) (levels_more f n (next_level t (x ∷ l)) (omega arith) (omega arith))

-- A fold by halves weighs the sum of its members, as a refold needs it; the rebuild count is no part of the invariant.
use Rattle.std.specs.Prelude.{ℕ, zero, suc, ◌+◌, ◌-◌, ◌/◌, ◌≤◌, ◌<◌, ◌≡◌, refl, Bool, List, [], ◌∷◌, ◌++◌, map, length, take, drop}
use Rattle.std.proofs.Common.{sym, ap, ◌∙◌, subst, not-suc-le-zero, arith, take-append-drop, length-drop, length-take-le}
use Rattle.binary64.specs.Whole.{most}
use Rattle.feature.specs.declared.Summary.{Summary}
use Rattle.head.specs.declared.Settings.{Settings}
use Rattle.rules.specs.Lists.{occurs}
use Rattle.rules.specs.Tree.{merge, Tree, node_at, entry_at, child, on_running, row_count}
use Rattle.rules.specs.Refold.{fold_balanced}
use Rattle.rules.specs.Rebuild.{counted}
use Rattle.rules.specs.Check.{total_of}
use Rattle.laws.specs.Invariant.Weights.{AllExact, IsExact, Exactly, merge_weight_lem, blank_exact, weight_of}
use Rattle.counting.specs.Sums.{over, occurs_here, occurs_later}
use Rattle.laws.specs.Invariant.Links.{Links, nil}
use Rattle.laws.specs.Invariant.Weigh.{Weighs}
use Rattle.laws.specs.Invariant.Sound.{entry_weight, node_weight, Exact}
use Rattle.laws.specs.Inserting.Grown.{Counted, Whole}

pub total-append : (a b : List Summary) → total_of (a ++ b) ≡ total_of a + total_of b
unfolding total_of
total-append [] b = omega arith
total-append (e ∷ a) b = let h = total-append a b in omega arith

counts_take : (h : ℕ) (l : List Summary) → AllExact l → AllExact (take h l)
counts_take zero l c = tt
counts_take (suc h) [] c = tt
counts_take (suc h) (e ∷ l) c = (c.0, counts_take h l c.1)

counts_drop : (h : ℕ) (l : List Summary) → AllExact l → AllExact (drop h l)
counts_drop zero l c = c
counts_drop (suc h) [] c = tt
counts_drop (suc h) (e ∷ l) c = counts_drop h l c.1

halves-total : (h : ℕ) (l : List Summary) → total_of (take h l) + total_of (drop h l) ≡ total_of l
halves-total h l = sym (total-append (take h l) (drop h l)) ∙ ap total_of (take-append-drop h l)

-- a fold by halves weighs the sum of its members
pub fold_weight : (s : Settings) (k : ℕ) (l : List Summary) → length l ≤ k → AllExact l → total_of l ≤ most → Exactly (fold_balanced s k l) (total_of l)
unfolding fold_balanced total_of
fold_weight s zero [] h c b = blank_exact
fold_weight s zero (e ∷ l) h c b = absurd (not-suc-le-zero h)
fold_weight s (suc k) [] h c b = blank_exact
fold_weight s (suc k) (e ∷ []) h c b = let z : row_count e + 0 ≡ row_count e = omega arith in subst (λ y. Exactly e y) (sym z) c.0
fold_weight s (suc k) (e ∷ d ∷ es) h c b =
    let l : List Summary = e ∷ d ∷ es in
    let m = length l / 2 in
    let lt : length (take m l) ≡ m = length-take-le m l (omega arith) in
    let ld : length (drop m l) ≡ length l - m = length-drop m l in
    let t : total_of (take m l) + total_of (drop m l) ≡ total_of l = halves-total m l in
    let t' : total_of (take m l) + total_of (drop m l) ≡ row_count e + (row_count d + total_of es) = t in
    let x : Exactly (fold_balanced s k (take m l)) (total_of (take m l)) = fold_weight s k (take m l) (omega arith) (counts_take m l c) (omega arith) in
    let y : Exactly (fold_balanced s k (drop m l)) (total_of (drop m l)) = fold_weight s k (drop m l) (omega arith) (counts_drop m l c) (omega arith) in
    subst (λ z. Exactly (merge s (fold_balanced s k (take m l)) (fold_balanced s k (drop m l))) z) t'
    (merge_weight_lem s (fold_balanced s k (take m l)) (fold_balanced s k (drop m l)) (total_of (take m l)) (total_of (drop m l)) x y (omega arith))

-- a list of members, by their numbers
pub members_total : (t : Tree) (b : Bool) (ks : List ℕ) → total_of (map (child t b) ks) ≡ over (weight_of t b) ks
unfolding total_of over weight_of
members_total t b [] = refl
members_total t b (k ∷ ks) = let h = members_total t b ks in omega arith

pub members_count : (t : Tree) (b : Bool) (ks : List ℕ) → ((c : ℕ) → 0 < occurs c ks → IsExact (child t b c)) → AllExact (map (child t b) ks)
members_count t b [] h = tt
members_count t b (k ∷ ks) h = (h k (occurs_here k ks), members_count t b ks (λ c o. h c (occurs_later c k ks o)))

-- the rebuild count is no part of the invariant
pub counted-whole : (s : Settings) (t : Tree) (total : ℕ) → Whole s t total → Whole s (counted t) total
counted-whole s t total w = (w.0, record { links = links'; exact = exact'; weighs = weighs' }, count')
  where
    links' : Links s (node_at (counted t)) (length (counted t).nodes) (counted t).root (length (counted t).entries) w.0 nil nil nil
    links' = unfold counted node_at on_running in w.1.links

    exact' : Exact (counted t) total
    exact' =
        unfold counted node_at entry_at entry_weight on_running in record {
          at_node = w.1.exact.at_node;
          at_entry = w.1.exact.at_entry;
          some_entry = w.1.exact.some_entry;
          small = w.1.exact.small;
        }

    weighs' : Weighs (node_at (counted t)) (entry_weight (counted t)) (node_weight (counted t)) (length (counted t).nodes) (counted t).root total
    weighs' = unfold counted node_at entry_at entry_weight node_weight on_running in w.1.weighs

    count' : Counted (counted t) total
    count' = unfold counted entry_at entry_weight on_running in w.2

-- Whether a row's insert left the nodes off its path alone, as a test that computes: an insert that the laws call local passes it.
use Rattle.std.specs.Prelude.{ℕ, zero, suc, ◌+◌, ◌<◌, ◌≡◌, refl, Bool, true, false, ◌&&◌, ◌||◌, cond, List, [], ◌∷◌, ◌++◌, T, ltb, eqb, length, Float}
use Rattle.std.proofs.Common.{ap, ◌∙◌, subst, arith, eq-eqb, lt→ltb}
use Rattle.head.specs.declared.Settings.{Settings}
use Rattle.rules.specs.Lists.{every, up_from, occurs}
use Rattle.rules.specs.Tree.{Node, Tree, node_at, dist_to}
use Rattle.rules.specs.Histories.{summary_seen}
use Rattle.promises.specs.Demand.{path_up, Same, OnPath, RowLocal}
use Rattle.rules.specs.Descent.{leaf_for}

unfoldable pub same_numbers : List ℕ → List ℕ → Bool
same_numbers [] [] = true
same_numbers [] (n ∷ ns) = false
same_numbers (m ∷ ms) [] = false
same_numbers (m ∷ ms) (n ∷ ns) = eqb m n && same_numbers ms ns

-- a node's kind, list and summary, in numbers: all but its parent
unfoldable pub kept : Settings → Node → List ℕ
kept s n = cond n.leaf 1 0 ∷ length n.list ∷ (n.list ++ summary_seen s n.summary)

-- each node of t is on the row's path, or has in u the kind, list and summary that it had
unfoldable pub spared : Settings → List Float → Tree → Tree → Bool
spared s x t u = every (λ q. ltb 0 (occurs q (path_up t (leaf_for t (λ c. dist_to s c x)))) || same_numbers (kept s (node_at u q)) (kept s (node_at t q))) (up_from (length t.nodes) 0)

pub numbers-same : (l : List ℕ) → same_numbers l l ≡ true
unfolding same_numbers
numbers-same [] = refl
numbers-same (n ∷ l) = rw (eq-eqb n n refl) (numbers-same l)

pub every-below : (f : ℕ → Bool) (n i : ℕ) → ((q : ℕ) → q < i + n → f q ≡ true) → every f (up_from n i) ≡ true
unfolding every up_from
every-below f zero i h = refl
every-below f (suc n) i h = rw (h i (omega arith)) (every-below f n (suc i) (λ q l. h q (omega arith)))

kept_same : {P : ℕ → Type 0} {n : ℕ} (s : Settings) (t u : Tree) (q : ℕ) → Same P n t u q → kept s (node_at u q) ≡ kept s (node_at t q)
unfolding kept
kept_same s t u q e =
    ap (λ b. cond b 1 0 ∷ length (node_at u q).list ∷ ((node_at u q).list ++ summary_seen s (node_at u q).summary)) e.leaf
    ∙ ap (λ ks. cond (node_at t q).leaf 1 0 ∷ length ks ∷ (ks ++ summary_seen s (node_at u q).summary)) e.list
    ∙ ap (λ c. cond (node_at t q).leaf 1 0 ∷ length (node_at t q).list ∷ ((node_at t q).list ++ summary_seen s c)) e.summary

pub local_spared : (s : Settings) (x : List Float) (t u : Tree) → RowLocal s x t u → spared s x t u ≡ true
unfolding spared
local_spared s x t u l =
    every-below (λ q. ltb 0 (occurs q (path_up t (leaf_for t (λ c. dist_to s c x)))) || same_numbers (kept s (node_at u q)) (kept s (node_at t q))) (length t.nodes) 0 each
  where
    alike : (q : ℕ) → Same (OnPath t (leaf_for t (λ c. dist_to s c x))) (length t.nodes) t u q → same_numbers (kept s (node_at u q)) (kept s (node_at t q)) ≡ true
    alike q e = ap (λ l. same_numbers l (kept s (node_at t q))) (kept_same s t u q e) ∙ numbers-same (kept s (node_at t q))

    each : (q : ℕ) → q < 0 + length t.nodes → (ltb 0 (occurs q (path_up t (leaf_for t (λ c. dist_to s c x)))) || same_numbers (kept s (node_at u q)) (kept s (node_at t q))) ≡ true
    each q h = go (ltb 0 (occurs q (path_up t (leaf_for t (λ c. dist_to s c x))))) refl
      where
        go : (b : Bool) → ltb 0 (occurs q (path_up t (leaf_for t (λ c. dist_to s c x)))) ≡ b → (b || same_numbers (kept s (node_at u q)) (kept s (node_at t q))) ≡ true
        go true e = refl
        go false e = alike q (l.node q (omega arith) (λ o. off e (lt→ltb 0 (occurs q (path_up t (leaf_for t (λ c. dist_to s c x)))) o)))
          where
            off : ltb 0 (occurs q (path_up t (leaf_for t (λ c. dist_to s c x)))) ≡ false → T (ltb 0 (occurs q (path_up t (leaf_for t (λ c. dist_to s c x))))) → ⊥
            off e k = subst T e k

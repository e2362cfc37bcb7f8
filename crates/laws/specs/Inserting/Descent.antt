-- A descent ends in a leaf of the tree.
use Rattle.std.specs.Prelude.{ℕ, zero, suc, ◌≤◌, ◌<◌, ◌≡◌, refl, Bool, true, false, List, [], ◌∷◌, length, Float}
use Rattle.std.proofs.Common.{not-suc-le-zero, arith}
use Rattle.std.specs.Float.Ieee.{lt}
use Rattle.feature.specs.declared.Summary.{Summary}
use Rattle.head.specs.declared.Settings.{Settings}
use Rattle.rules.specs.Lists.{occurs}
use Rattle.rules.specs.Tree.{Tree, node_at}
use Rattle.rules.specs.Descent.{Best, best, who, closer, nearest, closest, descended, leaf_for}
use Rattle.counting.specs.Count.{either}
use Rattle.counting.specs.Sums.{occurs-cons, occurs_here, occurs_later}
use Rattle.laws.specs.Invariant.Links.{Links, kid_in}
use Rattle.laws.specs.Invariant.Height.{height, rank_zero}

-- ---- the nearest of a list is in it

nearest_in : (f : ℕ → Float) (P : ℕ → Type 0) (u : Best) (cs : List ℕ) → P (who u) → ((c : ℕ) → 0 < occurs c cs → P c) → P (who (nearest f u cs))
unfolding nearest closer
nearest_in f P u [] hu h = hu
nearest_in f P (best i d) (c ∷ cs) hu h =
    nearest_in f P (closer (best i d) c (f c)) cs
    (either (λ u. P (who u)) (lt (f c) d) (best c (f c)) (best i d) (h c (occurs_here c cs)) hu)
    (λ x o. h x (occurs_later x c cs o))

pub first_in : (f : ℕ → Float) (l : List ℕ) → 0 < length l → 0 < occurs (closest f l) l
unfolding closest
first_in f [] h = absurd (not-suc-le-zero h)
first_in f (c ∷ cs) h =
    nearest_in f (λ z. 0 < occurs z (c ∷ cs)) (best c (f c)) cs (occurs_here c cs) (λ x o. let a = occurs-cons x c cs in omega arith)

-- ---- the descent

-- each step goes a rank down, and rank 0 is a leaf
pub descends : (s : Settings) (t : Tree) (f : Summary → Float) (R x y o : ℕ → ℕ)
    → Links s (node_at t) (length t.nodes) t.root (length t.entries) R x y o
    → (k m : ℕ) → m < length t.nodes → R m ≤ k
    → (descended t f k m < length t.nodes) × ((node_at t (descended t f k m)).leaf ≡ true)
unfolding descended
descends s t f R x y o g zero m l h = (l, rank_zero g m l (omega arith))
descends s t f R x y o g (suc k) m l h = go (node_at t m).leaf refl (λ c q z. descends s t f R x y o g k c q z)
  where
    Ends : ℕ → Type 0
    Ends z = (z < length t.nodes) × ((node_at t z).leaf ≡ true)

    go : (b : Bool) → (node_at t m).leaf ≡ b
        → ((c : ℕ) → c < length t.nodes → R c ≤ k → Ends (descended t f k c))
        → Ends (elim b [ true ↦ m | false ↦ descended t f k (closest (λ c. f (node_at t c).summary) (node_at t m).list) ])
    go true e ih = (l, e)
    go false e ih =
        let c = closest (λ c. f (node_at t c).summary) (node_at t m).list in
        let o' : 0 < occurs c (node_at t m).list = first_in (λ c. f (node_at t c).summary) (node_at t m).list (g.filled m l) in
        let q = (g.kid m c l e o').1 in
        ih c (kid_in g m c l e o').0 (omega arith)

-- a descent from the root ends in a leaf of the tree
pub leaf-found : (s : Settings) (t : Tree) (f : Summary → Float) (R x y o : ℕ → ℕ)
    → Links s (node_at t) (length t.nodes) t.root (length t.entries) R x y o
    → (leaf_for t f < length t.nodes) × ((node_at t (leaf_for t f)).leaf ≡ true)
unfolding leaf_for
leaf-found s t f R x y o g = descends s t f R x y o g (length t.nodes) t.root g.root_in (let h = height g in omega arith)

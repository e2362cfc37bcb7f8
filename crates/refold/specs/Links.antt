-- What the walk takes for granted of the links: with some floats they are those of a standing tree.
use Prim.Native.Nat.{ℕ, zero, suc, ◌-◌, ◌≤◌, ◌<◌}
use Rattle.std.specs.Prelude.{◌≡◌, true, false, List, [], ◌∷◌, ◌≢◌, length, get_or, Float}
use Rattle.std.proofs.Math.Path.{refl, ap}
use Rattle.std.proofs.Common.{sym, subst}
use native.Mathlib.Omega.{arith}
use Rattle.head.specs.declared.Settings.{Settings}
use Rattle.head.specs.declared.Counters.{Counters}
use Rattle.rules.specs.Lists.{occurs}
use Rattle.rules.specs.Tree.{Tree, node_at}
use Rattle.rules.specs.Slices.{tree_of}
use Rattle.counting.specs.Count.{is_same, below-le}
use Rattle.counting.specs.Sums.{occurs-cons, sum-at}
use Rattle.laws.specs.Invariant.Links.{inner, inner_yes}
use Rattle.laws.specs.ForCode.{Framed, Standing}
use Rattle.refold.specs.Walk.{last_under, node_before}
use Rattle.counting.specs.Places.{get_occurs}

abbrev pub Stands : Settings → Counters → List ℕ → Type 0
Stands s n ls = (fs : List Float) × Standing s (tree_of s n fs ls)

-- ---- down to the last

module _ (t : Tree) where
  pub last_here : (k i : ℕ) → (node_at t i).leaf ≡ true → last_under t k i ≡ i
  unfolding last_under
  last_here zero i e = refl
  last_here (suc k) i e = rw (e, last_under)

  pub last_none : (k i : ℕ) → k ≡ 0 → last_under t k i ≡ i
  unfolding last_under
  last_none k i e = rw (e, last_under)

  pub last_on : (k i : ℕ) → 0 < k → (node_at t i).leaf ≡ false → last_under t k i ≡ last_under t (k - 1) (get_or (node_at t i).list (length (node_at t i).list - 1) 0)
  unfolding last_under
  last_on zero i l e = absurd (omega arith)
  last_on (suc k) i l e = let q : suc k - 1 ≡ k = omega arith in rw (e, last_under, q)

-- ---- the place of a number in a list

-- a number that stands once has one place
pub one_place : (l : List ℕ) (j k c : ℕ) → occurs c l ≤ 1 → j < length l → k < length l → get_or l j 0 ≡ c → get_or l k 0 ≡ c → j ≡ k
one_place [] j k c o h g p q = absurd (omega arith)
one_place (x ∷ l) zero zero c o h g p q = refl
one_place (x ∷ l) zero (suc k) c o h g p q =
    let a = occurs-cons c x l in let b = is_same c x (sym p) in let d : 0 < occurs c l = subst (λ y. 0 < occurs y l) q (get_occurs l k 0 (omega arith)) in
    absurd (omega arith)
one_place (x ∷ l) (suc j) zero c o h g p q =
    let a = occurs-cons c x l in let b = is_same c x (sym q) in let d : 0 < occurs c l = subst (λ y. 0 < occurs y l) p (get_occurs l j 0 (omega arith)) in
    absurd (omega arith)
one_place (x ∷ l) (suc j) (suc k) c o h g p q = let a = occurs-cons c x l in ap suc (one_place l j k c (omega arith) (omega arith) (omega arith) p q)

-- ---- the node before

pub listed_once : (t : Tree) (g : Framed t) (p c : ℕ) → p < length t.nodes → (node_at t p).leaf ≡ false → occurs c (node_at t p).list ≤ 1
listed_once t g p c l e =
    let a = inner_yes (node_at t p) c e in
    let b = sum-at (λ k. inner (node_at t k) c) p (length t.nodes) l in
    let d = g.frame.nodes_once c in
    let f = below-le c (length t.nodes) in
    omega arith

module _ (t : Tree) (p j k : ℕ) (e : j ≡ k) where
  pub before_first : j ≡ 0 → p ≡ node_before t p k
  unfolding node_before
  before_first z = let q : k ≡ 0 = omega arith in rw (q, node_before)

  pub before_later : j ≢ 0 → last_under t (length t.nodes) (get_or (node_at t p).list (j - 1) 0) ≡ node_before t p k
  before_later d = go k e
    where
      go : (k : ℕ) → j ≡ k → last_under t (length t.nodes) (get_or (node_at t p).list (j - 1) 0) ≡ node_before t p k
      go zero q = absurd (d q)
      go (suc i) q = unfold node_before in ap (λ m. last_under t (length t.nodes) (get_or (node_at t p).list m 0)) (omega arith)

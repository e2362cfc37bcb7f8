-- Condition 6 by counts at each depth, where 4 and 5 hold: no leaf beside an inner node, and a fork where there are inner nodes.
use Rattle.std.specs.Prelude.{ℕ, zero, suc, ◌+◌, ◌≤◌, ◌<◌, ◌⊎◌, ◌≢◌, Bool, length, get_or}
use Rattle.std.proofs.Math.Path.{◌≡◌, refl, sym, ap, ap₂, subst}
use Rattle.std.proofs.Common.{◌∙◌, inl, inr, lt→ltb, eqb→eq, nltb→le}
use Rattle.std.proofs.Math.Bool.{true, false, cond, ◌&&◌, ◌||◌, not}
use mathlib.Core.List.{List, [], ◌∷◌}
use native.Mathlib.Omega.{arith}
use Rattle.std.proofs.Math.Dec.{T, ltb, eqb, ltb→lt}
use Rattle.std.specs.Float.Ieee.Bits.{is_true}
use Rattle.std.specs.Float.Ieee.Fits.{and_i, and_l, and_r, eq→eqb}
use Rattle.binary64.specs.Order.{same_test}
use Rattle.head.specs.declared.Settings.{Settings}
use Rattle.rules.specs.Lists.{every, concat, occurs}
use Rattle.rules.specs.Tree.{Tree, node_at, blank_node}
use Rattle.rules.specs.Check.{next_level, levels, lone_root, filled, same_kind, growing}
use Rattle.counting.specs.Count.{eq_test, lt?}
use Rattle.counting.specs.Sums.{over, over-same, over_zero, length_over, occurs-append, occurs_here, occurs_later}
use Rattle.counting.specs.Tests.{every-at}
use Rattle.laws.specs.Check.Passing.{or_left, or_right}
use Rattle.laws.specs.Check.Read.{Chain, below_of, next-over}
use Rattle.tour.specs.Sums.{deep_sum, at_depth, leaf_of, inner_of, fork_of}

-- what is counted at depth e over all levels
unfoldable pub deep_at : Tree → (ℕ → ℕ) → ℕ → ℕ
deep_at t w e = deep_sum (at_depth w e) 0 (levels t)

-- at a depth with l leaves, i inner nodes and f forks: no leaf beside an inner node, and a fork where there are inner nodes
unfoldable pub even_at : ℕ → ℕ → ℕ → Bool
even_at l i f = not (ltb 0 i) || (not (ltb 0 l) && ltb 0 f)

-- ---- one depth is one level

-- a node is counted at its own depth
pub at_same : (w : ℕ → ℕ) (x d i : ℕ) → x ≡ d → at_depth w x d i ≡ w i
unfolding at_depth
at_same w x d i e = ap (λ b. cond b (w i) 0) (is_true (eqb x d) (eq→eqb e))

-- and at no other
pub at_other : (w : ℕ → ℕ) (x d i : ℕ) → x ≢ d → at_depth w x d i ≡ 0
unfolding at_depth
at_other w x d i h = go (eqb x d) refl
  where
    go : (b : Bool) → eqb x d ≡ b → cond b (w i) 0 ≡ 0
    go true e = absurd (h ((eq_test x d true e).0 refl))
    go false e = refl

-- no level from depth d on is at a depth above it
above_none : (w : ℕ → ℕ) (x d : ℕ) (ls : List (List ℕ)) → x < d → deep_sum (at_depth w x) d ls ≡ 0
unfolding deep_sum
above_none w x d [] h = refl
above_none w x d (l ∷ ls) h =
    let a : over (at_depth w x d) l ≡ 0 = over-same (at_depth w x d) (λ _. 0) l (λ c _. at_other w x d c (λ e. omega arith)) ∙ over_zero l in
    let b = above_none w x (suc d) ls (omega arith) in
    omega arith

-- the levels from depth d on have the one with index e at depth d + e
pub at_depth_lem : (w : ℕ → ℕ) (x e d : ℕ) (ls : List (List ℕ)) → x ≡ d + e → deep_sum (at_depth w x) d ls ≡ over w (get_or ls e [])
unfolding deep_sum
at_depth_lem w x e d [] h = unfold over in refl
at_depth_lem w x zero d (l ∷ ls) h =
    let a : over (at_depth w x d) l ≡ over w l = over-same (at_depth w x d) w l (λ c _. at_same w x d c (omega arith)) in
    let b = above_none w x (suc d) ls (omega arith) in
    omega arith
at_depth_lem w x (suc e) d (l ∷ ls) h =
    let a : over (at_depth w x d) l ≡ 0 = over-same (at_depth w x d) (λ _. 0) l (λ c _. at_other w x d c (λ q. omega arith)) ∙ over_zero l in
    let b = at_depth_lem w x e (suc d) ls (omega arith) in
    omega arith

-- ---- the counts of a level

-- n nodes, l leaves, i inner nodes and f forks list k nodes
pub record Counts (n l i f k : ℕ) : Type 0 where
  pub all : l + i ≡ n
  pub more : i + f ≤ k
  pub forks : f ≤ i
  pub plain : f ≡ 0 → k ≤ i

-- one node more
counts_plus : {n l i f k l' i' f' k' : ℕ} → Counts 1 l i f k → Counts n l' i' f' k' → Counts (suc n) (l + l') (i + i') (f + f') (k + k')
counts_plus a b = record {
  all = (let p = a.all in let q = b.all in omega arith);
  more = (let p = a.more in let q = b.more in omega arith);
  forks = (let p = a.forks in let q = b.forks in omega arith);
  plain = (λ z. let p = a.plain (omega arith) in let q = b.plain (omega arith) in omega arith);
}

-- a node whose list has m, with an inner node's not empty
counts_one : (b c : Bool) (m : ℕ) → (b ≡ false → 0 < m) → ltb 1 m ≡ c → Counts 1 (cond b 1 0) (cond b 0 1) (cond b 0 (cond c 1 0)) (cond b 0 m)
counts_one true c m h e = record { all = omega arith; more = omega arith; forks = omega arith; plain = (λ z. omega arith) }
counts_one false true m h e =
    let q = ltb→lt 1 m (subst T (sym e) tt) in
    record { all = omega arith; more = omega arith; forks = omega arith; plain = (λ z. absurd (omega arith)) }
counts_one false false m h e =
    let q = h refl in
    let r = nltb→le 1 m (subst (λ z. T (not z)) (sym e) tt) in
    record { all = omega arith; more = omega arith; forks = omega arith; plain = (λ z. omega arith) }

-- a test that all pass is a count of none that fails it
every-none : (f : ℕ → Bool) (l : List ℕ) → every f l ≡ eqb (over (λ i. cond (f i) 0 1) l) 0
unfolding every over
every-none f [] = refl
every-none f (x ∷ l) = go (f x) (every-none f l)
  where
    go : (b : Bool) → every f l ≡ eqb (over (λ i. cond (f i) 0 1) l) 0 → (b && every f l) ≡ eqb (cond b 0 1 + over (λ i. cond (f i) 0 1) l) 0
    go true h = let e : over (λ i. cond (f i) 0 1) l ≡ 0 + over (λ i. cond (f i) 0 1) l = omega arith in h ∙ ap (λ z. eqb z 0) e
    go false h =
        same_test false (eqb (1 + over (λ i. cond (f i) 0 1) l) 0) absurd
        (λ q. let e = eqb→eq (1 + over (λ i. cond (f i) 0 1) l) 0 q in absurd (omega arith))

-- a level that lists others is of one kind and smaller than the next exactly if it is even
even_step : {n l i f k : ℕ} → Counts n l i f k → 0 < k → ((eqb i 0 || eqb l 0) && ltb n k) ≡ even_at l i f
unfolding even_at
even_step {n} {l} {i} {f} {k} h o = same_test ((eqb i 0 || eqb l 0) && ltb n k) (not (ltb 0 i) || (not (ltb 0 l) && ltb 0 f)) to from
  where
    some-inner : 0 < i
    some-inner = go (lt? 0 i)
      where
        go : (0 < i) ⊎ (i ≤ 0) → 0 < i
        go (inl q) = q
        go (inr q) = let a = h.forks in let b = h.plain (omega arith) in absurd (omega arith)

    no_leaf : (b c : Bool) → T (b || c) → (T b → i ≡ 0) → (T c → l ≡ 0) → l ≡ 0
    no_leaf true c q x y = let a = x tt in let b = some-inner in absurd (omega arith)
    no_leaf false c q x y = y q

    not_some : l ≡ 0 → T (not (ltb 0 l))
    not_some e = subst (λ z. T (not (ltb 0 z))) (sym e) tt

    to : T ((eqb i 0 || eqb l 0) && ltb n k) → T (not (ltb 0 i) || (not (ltb 0 l) && ltb 0 f))
    to q =
        let e = no_leaf (eqb i 0) (eqb l 0) (and_l (eqb i 0 || eqb l 0) (ltb n k) q) (eqb→eq i 0) (eqb→eq l 0) in
        let less = ltb→lt n k (and_r (eqb i 0 || eqb l 0) (ltb n k) q) in
        or_right (not (ltb 0 i)) (not (ltb 0 l) && ltb 0 f) (and_i (not (ltb 0 l)) (ltb 0 f) (not_some e) (lt→ltb 0 f (fork e less (lt? 0 f))))
      where
        fork : l ≡ 0 → n < k → (0 < f) ⊎ (f ≤ 0) → 0 < f
        fork e less (inl z) = z
        fork e less (inr z) = let a = h.plain (omega arith) in let b = h.all in absurd (omega arith)

    or-not : (b c : Bool) → T b → T (not b || c) → T c
    or-not true c x q = q
    or-not false c x q = absurd x

    from : T (not (ltb 0 i) || (not (ltb 0 l) && ltb 0 f)) → T ((eqb i 0 || eqb l 0) && ltb n k)
    from q =
        let z = or-not (ltb 0 i) (not (ltb 0 l) && ltb 0 f) (lt→ltb 0 i some-inner) q in
        let x = nltb→le 0 l (and_l (not (ltb 0 l)) (ltb 0 f) z) in
        let y = ltb→lt 0 f (and_r (not (ltb 0 l)) (ltb 0 f) z) in
        let a = h.all in
        let b = h.more in
        and_i (eqb i 0 || eqb l 0) (ltb n k) (or_right (eqb i 0) (eqb l 0) (eq→eqb (let w : l ≡ 0 = omega arith in w))) (lt→ltb n k (omega arith))

-- the condition of a level
unfoldable pub even_of : Tree → List ℕ → Bool
even_of t l = even_at (over (leaf_of t) l) (over (inner_of t) l) (over (fork_of t) l)

module _ (s : Settings) (t : Tree) (h5 : T (filled t)) where
  -- no list is empty, but for a leaf that is the lone root
  pub listed : (i : ℕ) → i < length t.nodes → (T ((node_at t i).leaf && lone_root t) → ⊥) → 0 < length (node_at t i).list
  unfolding filled node_at
  listed i l f =
      ltb→lt 0 (length (node_at t i).list) (or_else (ltb 0 (length (node_at t i).list)) ((node_at t i).leaf && lone_root t)
      (every-at (λ m. ltb 0 (length m.list) || (m.leaf && lone_root t)) blank_node t.nodes h5 i l) f)
    where
      or_else : (a b : Bool) → T (a || b) → (T b → ⊥) → T a
      or_else true b h n = tt
      or_else false b h n = absurd (n h)

  -- a level's counts
  pub counts : (l : List ℕ) → ((c : ℕ) → 0 < occurs c l → c < length t.nodes)
      → Counts (length l) (over (leaf_of t) l) (over (inner_of t) l) (over (fork_of t) l) (over (below_of t (λ _. 1)) l)
  unfolding over leaf_of inner_of fork_of
  counts [] h = record { all = omega arith; more = omega arith; forks = omega arith; plain = (λ z. omega arith) }
  counts (i ∷ l) h =
      counts_plus (subst (λ z. Counts 1 (leaf_of t i) (inner_of t i) (fork_of t i) (cond (node_at t i).leaf 0 z)) (length_over (node_at t i).list)
      (counts_one (node_at t i).leaf (ltb 1 (length (node_at t i).list)) (length (node_at t i).list)
      (λ f. listed i (h i (occurs_here i l)) (λ q. subst T f (and_l (node_at t i).leaf (lone_root t) q))) refl))
      (counts l (λ c o. h c (occurs_later c i l o)))

  -- a level is of one kind if it has no inner node or no leaf
  kind_is : (l : List ℕ) → same_kind t l ≡ (eqb (over (inner_of t) l) 0 || eqb (over (leaf_of t) l) 0)
  unfolding same_kind inner_of leaf_of
  kind_is l =
      ap₂ ◌||◌ (every-none (λ i. (node_at t i).leaf) l) (every-none (λ i. not (node_at t i).leaf) l
      ∙ ap (λ z. eqb z 0) (over-same (λ i. cond (not (node_at t i).leaf) 0 1) (leaf_of t) l (λ c _. turn (node_at t c).leaf)))
    where
      turn : (b : Bool) → ◌≡◌ {A = ℕ} (cond (not b) 0 1) (cond b 1 0)
      turn true = refl
      turn false = refl

  -- no level is empty
  pub chain_some : (l : List ℕ) (ls : List (List ℕ)) → Chain s t (l ∷ ls) → 0 < length l
  chain_some l [] c = c.0
  chain_some l (m ∷ ls) c = c.0

  -- a level that lists none has no inner node
  pub last_leaves : (l : List ℕ) → ((c : ℕ) → 0 < occurs c l → c < length t.nodes) → next_level t l ≡ [] → over (inner_of t) l ≡ 0
  unfolding over
  last_leaves l h e =
      let a = (counts l h).more in
      let b : over (below_of t (λ _. 1)) l ≡ 0 = sym (next-over t (λ _. 1) l) ∙ ap (λ z. over (λ _. 1) z) e in
      omega arith

  -- along the levels: of one kind and growing exactly if each is even
  pub chain_even : (ls : List (List ℕ)) → Chain s t ls → ((c : ℕ) → 0 < occurs c (concat ls) → c < length t.nodes)
      → (every (same_kind t) ls && growing ls) ≡ every (even_of t) ls
  unfolding every growing concat
  chain_even [] ch h = refl
  chain_even (l ∷ []) ch h = ap (λ b. b && true && true) (is_true (same_kind t l) kind) ∙ sym (ap (λ b. b && true) (is_true (even_of t l) even))
    where
      none : over (inner_of t) l ≡ 0
      none = last_leaves l (λ c o. h c (let q = occurs-append c l [] in omega arith)) ch.1

      kind : T (same_kind t l)
      kind = subst T (sym (kind_is l)) (or_left (eqb (over (inner_of t) l) 0) (eqb (over (leaf_of t) l) 0) (eq→eqb none))

      even : T (even_of t l)
      even = unfold even_of even_at in rw none tt
  chain_even (l ∷ (m ∷ ls)) ch h =
      turn (same_kind t l) (every (same_kind t) (m ∷ ls)) (ltb (length l) (length m)) (growing (m ∷ ls))
      ∙ ap₂ ◌&&◌ first (chain_even (m ∷ ls) ch.2 (λ c o. h c (let q = occurs-append c l (concat (m ∷ ls)) in omega arith)))
    where
      turn : (a b c d : Bool) → ((a && b) && (c && d)) ≡ ((a && c) && (b && d))
      turn true true c d = refl
      turn true false true d = refl
      turn true false false d = refl
      turn false b c d = refl

      first : (same_kind t l && ltb (length l) (length m)) ≡ even_of t l
      first =
          let k : over (below_of t (λ _. 1)) l ≡ length m = sym (next-over t (λ _. 1) l) ∙ ap (λ z. over (λ _. 1) z) ch.1 ∙ sym (length_over m) in
          let a = counts l (λ c o. h c (let q = occurs-append c l (concat (m ∷ ls)) in omega arith)) in
          ap₂ ◌&&◌ (kind_is l) (ap (ltb (length l)) (sym k)) ∙ even_step a (let q = chain_some m ls ch.2 in omega arith) ∙ unfold even_of in refl

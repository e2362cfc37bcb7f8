-- A tree that meets conditions 4 to 6 is no deeper than it has entries, and condition 6 is told by counts at each depth.
use Rattle.std.specs.Prelude.{ℕ, zero, suc, ◌+◌, ◌*◌, ◌≤◌, ◌<◌, ◌≡◌, refl, ◌⊎◌, Bool, ◌&&◌, ltb, get_or}
use Rattle.std.proofs.Math.Path.{sym, subst}
use Rattle.std.proofs.Common.{ap, ◌∙◌, one-mul, lt→ltb}
use Rattle.std.proofs.Math.Logic.{inl, inr}
use Rattle.std.proofs.Math.Bool.{true, false, cond}
use mathlib.Core.List.{List, [], ◌∷◌}
use native.Mathlib.Omega.{arith}
use Rattle.std.proofs.Math.Dec.{T, eqb, ltb→lt, eqb→eq}
use Rattle.std.specs.Float.Ieee.Fits.{and_i, and_l, and_r}
use Rattle.std.proofs.Math.ListN.{length, get_or-eq_default}
use Rattle.binary64.specs.Order.{same_test}
use Rattle.head.specs.declared.Settings.{Settings}
use Rattle.rules.specs.Lists.{every, concat, up_from, occurs}
use Rattle.rules.specs.Tree.{Tree, node_at, blank_node}
use Rattle.rules.specs.Check.{levels, levels_from, once_each, own_list, leaf_lists, linked, lone_root, filled, same_kind, growing, level}
use Rattle.counting.specs.Count.{below_in, below-lt, lt?}
use Rattle.counting.specs.Sums.{over, over-append, length_over, occurs-append, sum_to, sum_same, sum-le}
use Rattle.counting.specs.Tests.{every-at, up_at}
use Rattle.counting.specs.Totals.{over-sum}
use Rattle.laws.specs.Check.Accept.{once_back}
use Rattle.laws.specs.Check.Passing.{every_list, every_up, leaf_lists_lem}
use Rattle.laws.specs.Check.Read.{Chain, uncut}
use Rattle.tour.specs.Sums.{leaf_of, inner_of, fork_of, any_of}
use Rattle.tour.specs.Even.{deep_at, even_at, at_depth_lem, even_of, listed, counts, chain_some, last_leaves, chain_even}

-- what is counted at depth e is counted in the level with index e
pub deep_is : (t : Tree) (w : ℕ → ℕ) (e : ℕ) → deep_at t w e ≡ over w (get_or (levels t) e [])
unfolding deep_at
deep_is t w e = at_depth_lem w e e 0 (levels t) (omega arith)

module _ (s : Settings) (t : Tree) (h4 : T (linked t)) (h5 : T (filled t)) where
  -- ---- the levels have each node once

  -- as condition 4 has it
  once_nodes : T (once_each (length t.nodes) (concat (levels t)))
  unfolding linked
  once_nodes =
      and_l (once_each (length t.nodes) (concat (levels t))) (every (own_list t) (up_from (length t.nodes) 0)) (and_l
      (once_each (length t.nodes) (concat (levels t)) && every (own_list t) (up_from (length t.nodes) 0)) (once_each (length t.entries)
      (leaf_lists t.nodes)) h4)

  -- so the levels have as many as there are nodes
  all_nodes : length (concat (levels t)) ≡ length t.nodes
  unfolding once_each
  all_nodes =
      eqb→eq (length (concat (levels t))) (length t.nodes) (and_l (eqb (length (concat (levels t))) (length t.nodes))
      (every (λ i. eqb (occurs i (concat (levels t))) 1) (up_from (length t.nodes) 0)) once_nodes)

  -- and the leaf lists as many as there are entries
  all_entries : length (leaf_lists t.nodes) ≡ length t.entries
  unfolding once_each linked
  all_entries =
      eqb→eq (length (leaf_lists t.nodes)) (length t.entries) (and_l (eqb (length (leaf_lists t.nodes)) (length t.entries))
      (every (λ i. eqb (occurs i (leaf_lists t.nodes)) 1) (up_from (length t.entries) 0))
      (and_r (once_each (length t.nodes) (concat (levels t)) && every (own_list t) (up_from (length t.nodes) 0))
      (once_each (length t.entries) (leaf_lists t.nodes)) h4))

  -- what is in a level is a node
  within : (c : ℕ) → 0 < occurs c (concat (levels t)) → c < length t.nodes
  within c o = below-lt c (length t.nodes) (let a = once_back (length t.nodes) (concat (levels t)) once_nodes c in omega arith)

  -- a sum over the levels is one over the nodes
  over-all : (v : ℕ → ℕ) → over v (concat (levels t)) ≡ sum_to v (length t.nodes)
  over-all v =
      over-sum v (length t.nodes) (concat (levels t)) within
      ∙ sum_same v (λ c. occurs c (concat (levels t)) * v c) (length t.nodes)
      (λ c q. ap (λ z. z * v c) (once_back (length t.nodes) (concat (levels t)) once_nodes c ∙ below_in c (length t.nodes) q) ∙ one-mul (v c))

  -- each level lists the next, and the last lists none
  chain : Chain s t (levels t)
  unfolding levels
  chain = uncut s t (suc (length t.nodes)) (t.root ∷ []) (let a : length (concat (levels_from t (suc (length t.nodes)) (t.root ∷ []))) ≡ length
      t.nodes = all_nodes in omega arith)

  -- ---- no more levels than entries

  -- levels that grow end with as many leaves as there are levels
  deep_leaves : (l : List ℕ) (ls : List (List ℕ)) → Chain s t (l ∷ ls) → ((c : ℕ) → 0 < occurs c (concat (l ∷ ls)) → c < length t.nodes)
      → T (growing (l ∷ ls)) → length l + length ls ≤ over (leaf_of t) (concat (l ∷ ls))
  unfolding concat growing
  deep_leaves l [] ch h g =
      let w : (c : ℕ) → 0 < occurs c l → c < length t.nodes = λ c o. h c (let q = occurs-append c l [] in omega arith) in
      let a = (counts s t h5 l w).all in
      let b = last_leaves s t h5 l w ch.1 in
      let c = over-append (leaf_of t) l [] in
      omega arith
  deep_leaves l (m ∷ ls) ch h g =
      let a = deep_leaves m ls ch.2 (λ c o. h c (let q = occurs-append c l (concat (m ∷ ls)) in omega arith))
      (and_r (ltb (length l) (length m)) (growing (m ∷ ls)) g) in
      let b = ltb→lt (length l) (length m) (and_l (ltb (length l) (length m)) (growing (m ∷ ls)) g) in
      let c = over-append (leaf_of t) l (concat (m ∷ ls)) in
      omega arith

  -- so there are no more levels than leaves
  deep-few : (ls : List (List ℕ)) → Chain s t ls → ((c : ℕ) → 0 < occurs c (concat ls) → c < length t.nodes) → T (growing ls)
      → length ls ≤ over (leaf_of t) (concat ls)
  deep-few [] ch h g = omega arith
  deep-few (l ∷ ls) ch h g = let a = deep_leaves l ls ch h g in let b = chain_some s t h5 l ls ch in omega arith

  -- ---- and no more leaves, but for a lone root

  -- a lone root is the only node
  one_node : T (lone_root t) → length t.nodes ≡ 1
  unfolding lone_root
  one_node h = eqb→eq (length t.nodes) 1 (and_l (eqb (length t.nodes) 1) (eqb (length t.entries) 0) h)

  -- the entries that node i has
  unfoldable held : ℕ → ℕ
  held i = cond (node_at t i).leaf (over (λ _. 1) (node_at t i).list) 0

  -- a leaf has an entry
  leaf-held : lone_root t ≡ false → (i : ℕ) → i < length t.nodes → leaf_of t i ≤ held i
  unfolding leaf_of held
  leaf-held e i l =
      let a = listed s t h5 i l (λ q. subst T e (and_r (node_at t i).leaf (lone_root t) q)) in
      let b = length_over (node_at t i).list in
      go (node_at t i).leaf (over (λ _. 1) (node_at t i).list) (omega arith)
    where
      go : (b : Bool) (m : ℕ) → 0 < m → cond b 1 0 ≤ cond b m 0
      go true m h = h
      go false m h = omega arith

  -- and all have each entry once
  held_all : sum_to held (length t.nodes) ≡ length t.entries
  unfolding held node_at
  held_all = sym (leaf_lists_lem (λ _. 1) blank_node t.nodes) ∙ sym (length_over (leaf_lists t.nodes)) ∙ all_entries

  -- no more leaves than entries
  leaves_few : (over (leaf_of t) (concat (levels t)) ≤ 1) ⊎ (over (leaf_of t) (concat (levels t)) ≤ length t.entries)
  leaves_few = go (lone_root t) refl
    where
      go : (b : Bool) → lone_root t ≡ b → (over (leaf_of t) (concat (levels t)) ≤ 1) ⊎ (over (leaf_of t) (concat (levels t)) ≤ length t.entries)
      go true e =
          let a = (counts s t h5 (concat (levels t)) within).all in
          let b = all_nodes in
          let c = one_node (subst T (sym e) tt) in
          inl (omega arith)
      go false e =
          let a = over-all (leaf_of t) in
          let b = sum-le (leaf_of t) held (length t.nodes) (leaf-held e) in
          let c = held_all in
          inr (omega arith)

  -- a tree that meets condition 6 has no more levels than entries, but for a lone root
  pub level_shallow : T (level t) → (length (levels t) ≤ 1) ⊎ (length (levels t) ≤ length t.entries)
  unfolding level
  level_shallow h =
      let a = deep-few (levels t) chain within (and_r (every (same_kind t) (levels t)) (growing (levels t)) h) in
      elim leaves_few [ inl q ↦ inl (omega arith) | inr q ↦ inr (omega arith) ]

  -- ---- the depths are those of the levels

  -- no level is empty
  some_at : (ls : List (List ℕ)) → Chain s t ls → (e : ℕ) → e < length ls → 0 < length (get_or ls e [])
  some_at [] ch e l = absurd (omega arith)
  some_at (m ∷ ls) ch zero l = chain_some s t h5 m ls ch
  some_at (m ∷ []) ch (suc e) l = absurd (omega arith)
  some_at (m ∷ (k ∷ ls)) ch (suc e) l = some_at (k ∷ ls) ch.2 e (omega arith)

  -- a depth's nodes are its level's
  width : (e : ℕ) → deep_at t any_of e ≡ length (get_or (levels t) e [])
  unfolding any_of
  width e = deep_is t any_of e ∙ sym (length_over (get_or (levels t) e []))

  -- the greatest depth is that of the last level
  depths : (D : ℕ) → ((e : ℕ) → D < e → deep_at t any_of e ≡ 0) → 0 < deep_at t any_of D → length (levels t) ≡ suc D
  depths D none some = go (lt? D (length (levels t))) (lt? (suc D) (length (levels t)))
    where
      go : (D < length (levels t)) ⊎ (length (levels t) ≤ D) → (suc D < length (levels t)) ⊎ (length (levels t) ≤ suc D) → length (levels t) ≡ suc D
      go (inl p) (inl q) =
          let a = some_at (levels t) chain (suc D) q in let b = width (suc D) in let c = none (suc D) (omega arith) in absurd (omega arith)
      go (inl p) (inr q) = omega arith
      go (inr p) q =
          let a = width D in
          let b : length (get_or (levels t) D []) ≡ 0 = ap (λ z. length z) (get_or-eq_default (levels t) [] {n = D} p) in
          absurd (omega arith)

  -- a depth is even if its level is
  even-at : (e : ℕ) → even_of t (get_or (levels t) e []) ≡ even_at (deep_at t (leaf_of t) e) (deep_at t (inner_of t) e) (deep_at t (fork_of t) e)
  unfolding even_of
  even-at e = rw (deep_is t (leaf_of t) e, deep_is t (inner_of t) e, deep_is t (fork_of t) e)

  -- with D the greatest depth and at most 256 entries, condition 6 is that D is below 256 and each depth even
  pub level-is : length t.entries ≤ 256 → (D : ℕ) → ((e : ℕ) → D < e → deep_at t any_of e ≡ 0) → 0 < deep_at t any_of D
      → level t ≡ (ltb D 256 && every (λ e. even_at (deep_at t (leaf_of t) e) (deep_at t (inner_of t) e) (deep_at t (fork_of t) e)) (up_from (suc D) 0))
  level-is few D none some = same_test (level t) (ltb D 256 && every even (up_from (suc D) 0)) to from
    where
      even : ℕ → Bool
      even e = even_at (deep_at t (leaf_of t) e) (deep_at t (inner_of t) e) (deep_at t (fork_of t) e)

      is : level t ≡ every (even_of t) (levels t)
      is = unfold level in chain_even s t h5 (levels t) chain within

      last : length (levels t) ≡ suc D
      last = depths D none some

      near : (length (levels t) ≤ 1) ⊎ (length (levels t) ≤ length t.entries) → D < 256
      near (inl q) = let a = last in omega arith
      near (inr q) = let a = last in omega arith

      to : T (level t) → T (ltb D 256 && every even (up_from (suc D) 0))
      to h = and_i (ltb D 256) (every even (up_from (suc D) 0)) (lt→ltb D 256 (near (level_shallow h)))
          (every_up even (suc D) 0 (λ e l. subst T (even-at e) (every-at (even_of t) [] (levels t) (subst T is h) e (let a = last in omega arith))))

      from : T (ltb D 256 && every even (up_from (suc D) 0)) → T (level t)
      from h = subst T (sym is) (every_list (even_of t) [] (levels t) (λ e l. let a = last in subst T (sym (even-at e))
          (up_at even (suc D) 0 (and_r (ltb D 256) (every even (up_from (suc D) 0)) h) e (omega arith) (omega arith))))

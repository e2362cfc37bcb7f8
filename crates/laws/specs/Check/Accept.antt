-- A tree that passes the check's conditions 2 to 6, with an entry, has links with ranks.
use Rattle.std.specs.Prelude.{ℕ, zero, suc, ◌+◌, ◌-◌, ◌*◌, ◌≤◌, ◌<◌, ◌≡◌, ◌⊎◌, ◌≢◌, Bool, ◌&&◌, ◌||◌, leb, Option, None, Some}
use Rattle.std.proofs.Math.Path.{refl, sym, ap, subst}
use Rattle.std.proofs.Common.{◌∙◌, inl, inr, true≢false, not-suc-le-zero, one-mul}
use Rattle.std.proofs.Math.Bool.{true, false, cond}
use mathlib.Core.List.{List, [], ◌∷◌}
use native.Mathlib.Omega.{arith}
use Rattle.std.proofs.Math.Dec.{T, ltb, eqb, leb→le, ltb→lt, eqb→eq}
use Rattle.std.specs.Float.Ieee.Fits.{and_l, and_r}
use Rattle.std.proofs.Math.ListN.{length, get_or}
use Rattle.head.specs.declared.Settings.{Settings}
use Rattle.rules.specs.Lists.{up_from, every, occurs, concat}
use Rattle.rules.specs.Tree.{Tree, node_at, blank_node, cap}
use Rattle.rules.specs.Check.{once_each, orphan, names, rooted, list_fits, next_level, levels_from, levels, own_list, leaf_lists, linked, lone_root, filled}
use Rattle.rules.specs.Check.{same_kind, growing, level, known}
use Rattle.counting.specs.Count.{is, is_same, is_other, below, below_in, below_out, below-le, below-lt, below_suc, same?, lt?}
use Rattle.counting.specs.Sums.{is_sym, over, occurs-over, occurs-cons, length_over, sum_to, sum_same, sum_ones, sum-zero}
use Rattle.laws.specs.Invariant.Links.{Links, nil, inner, held, rank_count}
use Rattle.counting.specs.Totals.{over-sum, sum_plus}
use Rattle.laws.specs.Check.Passing.{leaf_lists_lem}
use Rattle.laws.specs.Check.Read.{Chain, uncut, listed-all, kid_rank, leaf_rank, len_at, rank_count_lem, len_grows}
use Rattle.laws.specs.Check.Ranks.{rank_in, rank_here, rank_top}
use Rattle.counting.specs.Tests.{every-at, up_at, in_at}

-- ---- each once, and nothing else

over_strict : (v w : ℕ → ℕ) (c : ℕ) (l : List ℕ) → ((k : ℕ) → v k ≤ w k) → v c < w c → 0 < occurs c l → over v l < over w l
unfolding over occurs
over_strict v w c [] h s o = absurd (not-suc-le-zero o)
over_strict v w c (x ∷ l) h s o = go (same? c x) (λ p. over_strict v w c l h s p)
  where
    le : (l : List ℕ) → over v l ≤ over w l
    le [] = unfold over in omega arith
    le (y ∷ l) =
        let p : over v (y ∷ l) ≡ v y + over v l = unfold over in refl in let q : over w
        (y ∷ l) ≡ w y + over w l = unfold over in refl in let a = le l in let b = h y in omega arith

    go : (c ≡ x) ⊎ (c ≢ x) → (0 < occurs c l → over v l < over w l) → v x + over v l < w x + over w l
    go (inl e) ih = let a = le l in let b : v c ≡ v x = ap v e in let d : w c ≡ w x = ap w e in omega arith
    go (inr e) ih =
        let a : occurs c (x ∷ l) ≡ is c x + occurs c l = occurs-cons c x l in let b = is_other c x e in let d = ih (omega arith) in let f = h x in omega arith

pub occurs-sum : (n : ℕ) (l : List ℕ) → sum_to (λ c. occurs c l) n ≡ over (λ x. below x n) l
unfolding over occurs
occurs-sum n [] = sum-zero n
occurs-sum n (x ∷ l) =
    sum_same (λ c. is c x + occurs c l) (λ c. occurs c (x ∷ l)) n (λ c q. occurs-cons c x l) ∙ sum_plus (λ c. is c x) (λ c. occurs c l) n
    ∙ ap (λ z. z + sum_to (λ c. occurs c l) n) (ones n) ∙ ap (λ z. below x n + z) (occurs-sum n l)
  where
    ones : (n : ℕ) → sum_to (λ c. is c x) n ≡ below x n
    ones zero = unfold sum_to in sym (below_out x 0 (omega arith))
    ones (suc n) =
        let p : sum_to (λ c. is c x) (suc n) ≡ sum_to
        (λ c. is c x) n + is n x = unfold sum_to in refl in let q = ones n in let a = below_suc x n in let b = is_sym n x in omega arith

-- each number below n once, and no other, as the check tests it
pub once_back : (n : ℕ) (l : List ℕ) → T (once_each n l) → (c : ℕ) → occurs c l ≡ below c n
unfolding once_each
once_back n l h c = go (lt? c n)
  where
    len : length l ≡ n
    len = eqb→eq (length l) n (and_l (eqb (length l) n) (every (λ i. eqb (occurs i l) 1) (up_from n 0)) h)

    one : (k : ℕ) → k < n → occurs k l ≡ 1
    one k q =
        eqb→eq (occurs k l) 1
        (up_at (λ i. eqb (occurs i l) 1) n 0 (and_r (eqb (length l) n) (every (λ i. eqb (occurs i l) 1) (up_from n 0)) h) k (omega arith) (omega arith))

    go : (c < n) ⊎ (n ≤ c) → occurs c l ≡ below c n
    go (inl q) = one c q ∙ sym (below_in c n q)
    go (inr q) = zero? (same? (occurs c l) 0)
      where
        zero? : (occurs c l ≡ 0) ⊎ (occurs c l ≢ 0) → occurs c l ≡ below c n
        zero? (inl z) = z ∙ sym (below_out c n q)
        zero? (inr z) =
            let a = occurs-sum n l in
            let b : sum_to (λ c. occurs c l) n ≡ sum_to (λ _. 1) n = sum_same (λ _. 1) (λ c. occurs c l) n one in
            let d = sum_ones n in
            let e = length_over l in
            let f = over_strict (λ x. below x n) (λ _. 1) c l (λ k. below-le k n) (let w = below_out c n q in omega arith) (omega arith) in
            let g = len in
            absurd (omega arith)

or_else : (a b : Bool) → T (a || b) → (T b → ⊥) → T a
or_else true b h n = tt
or_else false b h n = absurd (n h)

pub names-is : (i : ℕ) (o : Option ℕ) → T (names i o) → o ≡ Some i
unfolding names
names-is i None h = absurd h
names-is i (Some p) h = ap Some (sym (eqb→eq i p h))

pub orphan-none : (o : Option ℕ) → T (orphan o) → o ≡ None
unfolding orphan
orphan-none None h = refl
orphan-none (Some p) h = absurd h

module _ (s : Settings) (t : Tree) (h2 : T (rooted t)) (h3 : T (every (list_fits s t) t.nodes)) (h4 : T (linked t)) (h5 : T (filled t))
    (not-lone : T (lone_root t) → ⊥) where
  rest : List (List ℕ)
  rest = levels_from t (length t.nodes) (next_level t (t.root ∷ []))

  pub ranks : ℕ → ℕ
  ranks = rank_in (levels t)

  shape : levels t ≡ (t.root ∷ []) ∷ rest
  unfolding levels levels_from rest
  shape = refl

  once_nodes : T (once_each (length t.nodes) (concat (levels t)))
  unfolding linked
  once_nodes =
      and_l (once_each (length t.nodes) (concat (levels t))) (every (own_list t) (up_from (length t.nodes) 0)) (and_l
      (once_each (length t.nodes) (concat (levels t)) && every (own_list t) (up_from (length t.nodes) 0)) (once_each (length t.entries)
      (leaf_lists t.nodes)) h4)

  owns : T (every (own_list t) (up_from (length t.nodes) 0))
  unfolding linked
  owns =
      and_r (once_each (length t.nodes) (concat (levels t))) (every (own_list t) (up_from (length t.nodes) 0)) (and_l
      (once_each (length t.nodes) (concat (levels t)) && every (own_list t) (up_from (length t.nodes) 0)) (once_each (length t.entries)
      (leaf_lists t.nodes)) h4)

  once_entries : T (once_each (length t.entries) (leaf_lists t.nodes))
  unfolding linked
  once_entries =
      and_r (once_each (length t.nodes) (concat (levels t)) && every (own_list t) (up_from (length t.nodes) 0))
      (once_each (length t.entries) (leaf_lists t.nodes)) h4

  J_once : (c : ℕ) → occurs c (concat (levels t)) ≡ below c (length t.nodes)
  J_once = once_back (length t.nodes) (concat (levels t)) once_nodes

  J_one : (c : ℕ) → occurs c (concat (levels t)) ≤ 1
  J_one c = let a = J_once c in let b = below-le c (length t.nodes) in omega arith

  J_in : (c : ℕ) → c < length t.nodes → 0 < occurs c (concat (levels t))
  J_in c l = let a = J_once c in let b = below_in c (length t.nodes) l in omega arith

  J_over : (v : ℕ → ℕ) → over v (concat (levels t)) ≡ sum_to v (length t.nodes)
  J_over v =
      over-sum v (length t.nodes) (concat (levels t)) (λ c o. below-lt c (length t.nodes) (let a = J_once c in omega arith))
      ∙ sum_same v (λ c. occurs c (concat (levels t)) * v c) (length t.nodes)
      (λ c q. ap (λ z. z * v c) (J_once c ∙ below_in c (length t.nodes) q) ∙ one-mul (v c))

  chain : Chain s t (levels t)
  unfolding levels
  chain = uncut s t (suc (length t.nodes)) (t.root ∷ []) (let a = len in omega arith)
    where
      len : length (concat (levels_from t (suc (length t.nodes)) (t.root ∷ []))) ≡ length t.nodes
      len =
          unfold levels once_each in eqb→eq (length (concat (levels t))) (length t.nodes) (and_l (eqb (length (concat (levels t))) (length t.nodes))
          (every (λ i. eqb (occurs i (concat (levels t))) 1) (up_from (length t.nodes) 0)) once_nodes)

  kid' : (i c : ℕ) → i < length t.nodes → (node_at t i).leaf ≡ false → 0 < occurs c (node_at t i).list → ((node_at t c).parent ≡ Some i) ×
      (ranks i ≡ suc (ranks c))
  unfolding own_list ranks
  kid' i c l f o = (
    names-is i (node_at t c).parent (in_at (λ c. names i (node_at t c).parent) (node_at t i).list
        (go (node_at t i).leaf f (up_at (own_list t) (length t.nodes) 0 owns i (omega arith) (omega arith))) c o),
    kid_rank s t i c (levels t) chain J_one (J_in i l) f o,
  )
    where
      go : (b : Bool) → b ≡ false → T (b || every (λ c. names i (node_at t c).parent) (node_at t i).list) → T
          (every (λ c. names i (node_at t c).parent) (node_at t i).list)
      go true e h = absurd (true≢false e)
      go false e h = h

  nodes' : (c : ℕ) → is c t.root + 0 + sum_to (λ i. inner (node_at t i) c) (length t.nodes) ≡ below c (length t.nodes)
  unfolding inner
  nodes' c =
      let a : over (is c) (concat (levels t)) ≡ over (is c) (t.root ∷ []) + over (λ k. cond (node_at t k).leaf 0 (over (is c) (node_at t k).list))
      (concat (levels t)) =
      subst (λ z. over (is c) (concat z) ≡ over (is c) (t.root ∷ []) + over (λ k. cond (node_at t k).leaf 0 (over (is c) (node_at t k).list)) (concat z))
      (sym shape) (listed-all s t (is c) (t.root ∷ []) rest (subst (λ z. Chain s t z) shape chain)) in
      let b : over (is c) (t.root ∷ []) ≡ is c t.root + 0 = unfold over in refl in
      let d = occurs-over c (concat (levels t)) in
      let e = J_once c in
      let f = J_over (λ k. cond (node_at t k).leaf 0 (over (is c) (node_at t k).list)) in
      let g : sum_to (λ i. inner (node_at t i) c) (length t.nodes) ≡ sum_to (λ k. cond (node_at t k).leaf 0 (over (is c) (node_at t k).list))
      (length t.nodes) =
      sum_same (λ k. cond (node_at t k).leaf 0 (over (is c) (node_at t k).list)) (λ i. inner (node_at t i) c) (length t.nodes)
      (λ k q. ap (λ z. cond (node_at t k).leaf 0 z) (occurs-over c (node_at t k).list)) in
      omega arith

  entries' : (c : ℕ) → sum_to (λ i. held (node_at t i) c) (length t.nodes) ≡ below c (length t.entries)
  unfolding held node_at
  entries' c =
      sum_same (λ k. cond (get_or t.nodes k blank_node).leaf (over (is c) (get_or t.nodes k blank_node).list) 0) (λ i. held (node_at t i) c)
      (length t.nodes) (λ k q. ap (λ z. cond (node_at t k).leaf z 0) (occurs-over c (node_at t k).list))
      ∙ sym (leaf_lists_lem (is c) blank_node t.nodes) ∙ sym (occurs-over c (leaf_lists t.nodes)) ∙ once_back (length t.entries)
      (leaf_lists t.nodes) once_entries c

  caps' : (i : ℕ) → i < length t.nodes → length (node_at t i).list ≤ cap s (node_at t i).leaf + 0
  unfolding node_at list_fits
  caps' i l =
      let m = get_or t.nodes i blank_node in
      let a : length m.list ≤ cap s m.leaf = leb→le (length m.list) (cap s m.leaf) (and_l (leb (length m.list) (cap s m.leaf))
      (every (λ c. ltb c (known t m.leaf)) m.list) (every-at (list_fits s t) blank_node t.nodes h3 i l)) in
      omega arith

  filled' : (i : ℕ) → i < length t.nodes → 0 < length (node_at t i).list
  unfolding node_at filled
  filled' i l =
      let m = get_or t.nodes i blank_node in
      ltb→lt 0 (length m.list) (or_else (ltb 0 (length m.list)) (m.leaf && lone_root t)
      (every-at (λ n. ltb 0 (length n.list) || (n.leaf && lone_root t)) blank_node t.nodes h5 i l)
      (λ q. not-lone (and_r m.leaf (lone_root t) q)))

  top' : (i : ℕ) → i < length t.nodes → ranks i ≤ ranks t.root
  unfolding ranks
  top' i l =
      let a : rank_in (levels t) i ≤ length rest = subst (λ z. rank_in z i ≤ length rest) (sym shape) (rank_top (t.root ∷ []) rest i) in
      let b : rank_in (levels t) t.root ≡ length rest = ap (λ z. rank_in z t.root) shape ∙ rank_here (t.root ∷ []) rest t.root
      (let p = occurs-cons t.root t.root [] in let q = is_same t.root t.root refl in omega arith) in
      omega arith

  counted : (r : ℕ) → rank_count ranks (length t.nodes) r ≡ len_at s t (levels t) r
  unfolding ranks rank_count
  counted r = sym (J_over (λ k. is r (rank_in (levels t) k))) ∙ rank_count_lem s t r (levels t) J_one

  in' : t.root < length t.nodes
  unfolding rooted
  in' = ltb→lt t.root (length t.nodes) (and_l (ltb t.root (length t.nodes)) (orphan (node_at t t.root).parent) h2)

  root_top' : (node_at t t.root).parent ≡ None
  unfolding rooted
  root_top' = orphan-none (node_at t t.root).parent (and_r (ltb t.root (length t.nodes)) (orphan (node_at t t.root).parent) h2)

  -- with any ranks that fall by one from a node to what it lists
  pub links_by : (R : ℕ → ℕ) → ((i c : ℕ) → i < length t.nodes → (node_at t i).leaf ≡ false → 0 < occurs c (node_at t i).list → R i ≡ suc (R c))
      → ((i : ℕ) → i < length t.nodes → (node_at t i).leaf ≡ true → R i ≡ 0) → ((i : ℕ) → i < length t.nodes → R i ≤ R t.root)
      → ((r : ℕ) → rank_count R (length t.nodes) (suc r) + 0 ≤ rank_count R (length t.nodes) r - 1)
      → Links s (node_at t) (length t.nodes) t.root (length t.entries) R nil nil nil
  links_by R falls grounded top grows = record {
    root_in = in';
    root_top = root_top';
    kid = (λ i c l f o. ((kid' i c l f o).0, falls i c l f o));
    grounded = grounded;
    nodes_once = nodes';
    entries_once = entries';
    caps = caps';
    filled = filled';
    top = top;
    grows = grows;
  }

  module _ (h6 : T (level t)) where
    kinds : T (every (same_kind t) (levels t))
    unfolding level
    kinds = and_l (every (same_kind t) (levels t)) (growing (levels t)) h6

    grows₀ : T (growing (levels t))
    unfolding level
    grows₀ = and_r (every (same_kind t) (levels t)) (growing (levels t)) h6

    pub accepted_links : Links s (node_at t) (length t.nodes) t.root (length t.entries) ranks nil nil nil
    accepted_links =
        links_by ranks (λ i c l f o. (kid' i c l f o).1) (λ i l f. unfold ranks in leaf_rank s t i (levels t) chain kinds (J_in i l) f) top'
        (λ r. let a = counted (suc r) in let b = counted r in let c = len_grows s t r (levels t) grows₀ in omega arith)

-- Condition 7 as code computes it is condition 7 as document 01 has it, where 2 to 6 hold and the floats are of binary64.
use Rattle.std.specs.Prelude.{◌≡◌, ℕ, zero, suc, ◌+◌, ◌<◌, ◌≤◌, Bool, true, false, ◌&&◌, T, ◌≢◌, ◌⊎◌, List, [], ◌∷◌, map, length, ◌==◌, nat_le, slice_index_or}
use Rattle.std.proofs.Math.Path.{refl, ap₂, subst}
use Rattle.std.proofs.Common.{sym, ap, ◌∙◌, inl, inr, arith, eqb→eq, leb→le}
use borrow.Author.Tests.{eq-eqb, ne_eqb}
use Rattle.std.specs.Float.Ieee.{eq}
use Rattle.std.specs.Float.Ieee.Bits.{is_true}
use Rattle.std.specs.Float.Ieee.Fits.{and_i, and_l, and_r}
use Rattle.binary64.specs.Counts.{is_count, Counts}
use Rattle.binary64.specs.CountLaws.{counted as count-laws}
use Rattle.binary64.specs.Operators.{◌⊕◌}
use Rattle.binary64.specs.Order.{same_test, eq-whole, eq_is}
use Rattle.binary64.specs.Sums.{sum_from}
use Rattle.binary64.specs.Whole.{whole, most, whole_0, add-whole}
use Rattle.feature.specs.declared.Summary.{Summary}
use Rattle.feature.specs.Summaries.{blank}
use Rattle.head.specs.declared.Settings.{Settings}
use Rattle.rules.specs.Lists.{every, up_from, occurs}
use Rattle.rules.specs.Tree.{Tree, node_at, entry_at, child, row_count}
use Rattle.rules.specs.Check.{rooted, list_fits, linked, lone_root, filled, level, total_of, weighs, weighed, Binary64}
use Rattle.rules.specs.Reinsert.{collected}
use Rattle.counting.specs.Count.{same?}
use Rattle.counting.specs.Sums.{over, sum_to, occurs_here, occurs_later}
use Rattle.counting.specs.Tests.{every-at, up_at}
use Rattle.laws.specs.Invariant.Beneath.{Frame, frame-of, kid_below, entry_below}
use Rattle.laws.specs.Invariant.Height.{rank_zero}
use Rattle.laws.specs.Invariant.Links.{Links, nil, leaf?}
use Rattle.laws.specs.Invariant.Weights.{blank_exact, exact_count}
use Rattle.laws.specs.Invariant.Weigh.{own-leaf, own-inner}
use Rattle.laws.specs.Invariant.Sound.{entry_weight, node_weight, Settled}
use Rattle.laws.specs.Check.Accept.{ranks, accepted_links}
use Rattle.laws.specs.Check.Passing.{every_up, entries_sum}
use Rattle.laws.specs.Check.Beneath.{rows_beneath, rows_leaf, rows_inner, rows_le, rows_some, beneath-is}
use Rattle.laws.specs.Check.Taken.{taken}
use Rattle.laws.specs.Check.Empty.{one_node, root_zero}
use Rattle.weights.specs.Adding.{weight_listed, adds_up, nodes_add_up, weighs_nothing, summed}

-- a list weighs the float of a sum, where each number c of it weighs that of v c and the sum is at most 2^53
sum_list : (f : ℕ → Summary) (v : ℕ → ℕ) (a : ℕ) (l : List ℕ) → ((c : ℕ) → 0 < occurs c l → (f c).weight ≡ whole (v c)) → a + over v l ≤ most
    → sum_from (whole a) (map (λ c. (f c).weight) l) ≡ whole (a + over v l)
unfolding sum_from over
sum_list f v a [] h b = ap whole (let e : a ≡ a + 0 = omega arith in e)
sum_list f v a (c ∷ l) h b =
    ap (λ x. sum_from x (map (λ c. (f c).weight) l)) (ap (λ y. whole a ⊕ y) (h c (occurs_here c l)) ∙ add-whole a (v c) (omega arith) (omega arith))
    ∙ sum_list f v (a + v c) l (λ d o. h d (occurs_later d c l o)) (omega arith)
    ∙ ap whole (let e : a + v c + over v l ≡ a + (v c + over v l) = omega arith in e)

listed-whole : (t : Tree) (k : ℕ) (v : ℕ → ℕ) → ((c : ℕ) → 0 < occurs c (node_at t k).list → (child t (node_at t k).leaf c).weight ≡ whole (v c))
    → over v (node_at t k).list ≤ most → weight_listed t k ≡ whole (over v (node_at t k).list)
unfolding weight_listed
listed-whole t k v h b =
    ap (λ x. sum_from x (map (λ c. (child t (node_at t k).leaf c).weight) (node_at t k).list)) (sym whole_0)
    ∙ sum_list (child t (node_at t k).leaf) v 0 (node_at t k).list h (omega arith)
    ∙ ap whole (let e : 0 + over v (node_at t k).list ≡ over v (node_at t k).list = omega arith in e)

-- ---- no entries

blank-total : (t : Tree) → length t.entries ≡ 0 → (cs : List ℕ) → total_of (map (entry_at t) cs) ≡ 0
unfolding total_of entry_at
blank-total t e [] = refl
blank-total t e (c ∷ cs) =
    let a = blank-total t e cs in let b : row_count (slice_index_or t.entries c blank) ≡ 0 = ap row_count (none t.entries e)
    ∙ exact_count blank 0 blank_exact in omega arith
  where
    none : (l : List Summary) → length l ≡ 0 → slice_index_or l c blank ≡ blank
    none [] e = refl
    none (x ∷ l) e = absurd (omega arith)

module _ (s : Settings) (t : Tree) (h2 : T (rooted t)) (h3 : T (every (list_fits s t) t.nodes)) (h4 : T (linked t)) (h5 : T (filled t))
    (h6 : T (level t)) where
  empty_weighs : length t.entries ≡ 0 → every (weighs t) (up_from (length t.nodes) 0) ≡ weighs_nothing t
  empty_weighs e =
      same_test (every (weighs t) (up_from (length t.nodes) 0)) (weighs_nothing t)
      (λ h. subst T (at_root t.root refl) (up_at (weighs t) (length t.nodes) 0 h t.root (omega arith) (let a = one in let b = top in omega arith)))
      (λ h. every_up (weighs t) (length t.nodes) 0 (λ c q. subst T (sym (at_root c (let a =
      one in let b = top in let w : c ≡ t.root = omega arith in w))) h))
    where
      one : length t.nodes ≡ 1
      one = one_node s t h2 h3 h4 h5 h6 e

      top : t.root ≡ 0
      top = root_zero s t h2 h3 h4 h5 h6 e

      at_root : (c : ℕ) → c ≡ t.root → weighs t c ≡ weighs_nothing t
      at_root c q = unfold weighs weighs_nothing in rw (blank-total t e (collected t (length t.nodes) (c ∷ [])), q) refl

  module _ (lent : Binary64 t) (here : length t.entries ≢ 0) where
    there : T (lone_root t) → ⊥
    unfolding lone_root
    there q = here (eqb→eq (length t.entries) 0 (and_r (length t.nodes == 1) (length t.entries == 0) q))

    abbrev R : ℕ → ℕ
    R = ranks s t h2 h3 h4 h5 there

    g : Links s (node_at t) (length t.nodes) t.root (length t.entries) R nil nil nil
    g = accepted_links s t h2 h3 h4 h5 there h6

    fr : Frame (node_at t) (length t.nodes) t.root (length t.entries) R
    fr = frame-of s (node_at t) (length t.nodes) t.root (length t.entries) R nil nil g

    -- a leaf's list, where entries weigh what they count; an inner node's, where the nodes weigh v
    leaf-listed : (k : ℕ) → (node_at t k).leaf ≡ true → k < length t.nodes → ((c : ℕ) → c < length t.entries → (entry_at t c).weight ≡ whole (entry_weight t c))
        → over (entry_weight t) (node_at t k).list ≤ most → weight_listed t k ≡ whole (over (entry_weight t) (node_at t k).list)
    unfolding child
    leaf-listed k f l w b = listed-whole t k (entry_weight t) (λ c o. rw f (w c (entry_below fr k c l f o))) b

    inner-listed : (k : ℕ) (v : ℕ → ℕ) → (node_at t k).leaf ≡ false → ((c : ℕ) → 0 < occurs c (node_at t k).list → (node_at t c).summary.weight ≡ whole (v c))
        → over v (node_at t k).list ≤ most → weight_listed t k ≡ whole (over v (node_at t k).list)
    unfolding child
    inner-listed k v f w b = listed-whole t k v (λ c o. rw f (w c o)) b

    -- ---- from document 01 to the lists

    weighed_adds : T (weighed t) → T (nodes_add_up t)
    unfolding nodes_add_up adds_up node_weight entry_weight
    weighed_adds h7 = every_up (adds_up t) (length t.nodes) 0 (λ k l. adds k (omega arith) (leaf? (node_at t k)))
      where
        w : Settled s t R (total_of t.entries)
        w = taken g lent h7

        few : (k : ℕ) → k < length t.nodes → node_weight t k ≤ most
        few k l = let a = w.weighs.bound k l in let b = w.exact.small in omega arith

        same : (k : ℕ) → k < length t.nodes → weight_listed t k ≡ whole (node_weight t k) → T (adds_up t k)
        same k l e =
            let q : eq (weight_listed t k) (node_at t k).summary.weight ≡ true =
            ap₂ eq e (w.exact.at_node k l).0 ∙ eq-whole (node_weight t k) (node_weight t k) (few k l) (few k l) ∙ eq-eqb (node_weight t k) (node_weight t k) refl in
            subst T (sym q) tt

        adds : (k : ℕ) → k < length t.nodes → ((node_at t k).leaf ≡ true) ⊎ ((node_at t k).leaf ≡ false) → T (adds_up t k)
        adds k l (inl f) =
            let e : node_weight t k ≡ over (entry_weight t) (node_at t k).list = w.weighs.sums k l ∙ own-leaf (node_at t k) (entry_weight t) (node_weight t) f in
            let b = few k l in
            same k l (leaf-listed k f l (λ c q. (w.exact.at_entry c q).0) (omega arith) ∙ ap whole (sym e))
        adds k l (inr f) =
            let e : node_weight t k ≡ over (node_weight t) (node_at t k).list = w.weighs.sums k l ∙ own-inner (node_at t k) (entry_weight t) (node_weight t) f in
            let b = few k l in
            same k l (inner-listed k (node_weight t) f (λ c o. (w.exact.at_node c (kid_below fr k c l f o)).0) (omega arith) ∙ ap whole (sym e))

    -- ---- from the lists to document 01

    module _ (counts : T (every (λ e. is_count e.weight) t.entries)) (small : T (nat_le (total_of t.entries) most)) (adds : T (nodes_add_up t)) where
      entry_counts : (c : ℕ) → c < length t.entries → Counts (entry_at t c).weight (entry_weight t c)
      unfolding entry_at row_count entry_weight
      entry_counts c l =
          count-laws (entry_at t c).weight (lent.entries_fit c l)
          (is_true (is_count (entry_at t c).weight) (every-at (λ e. is_count e.weight) blank t.entries counts c l))

      some : (k : ℕ) → k < length t.nodes → 1 ≤ rows_beneath t g k
      some k l = rows_some t g (λ c q. (entry_counts c q).some) (R k) k l (omega arith)

      total-is : total_of t.entries ≡ sum_to (entry_weight t) (length t.entries)
      unfolding entry_weight entry_at
      total-is = entries_sum blank t.entries

      few : (k : ℕ) → k < length t.nodes → rows_beneath t g k ≤ most
      few k l = let a = rows_le t g k l in let b = total-is in let c = leb→le (total_of t.entries) most small in omega arith

      -- a node whose list weighs what is beneath it
      weighs_list : (k : ℕ) → k < length t.nodes → weight_listed t k ≡ whole (rows_beneath t g k) → (node_at t k).summary.weight ≡ whole (rows_beneath t g k)
      unfolding nodes_add_up adds_up
      weighs_list k l e =
          eq_is (rows_beneath t g k) (node_at t k).summary.weight (some k l) (few k l) (lent.nodes_fit k l)
          (subst (λ x. T (eq x (node_at t k).summary.weight)) e (up_at (adds_up t) (length t.nodes) 0 adds k (omega arith) (omega arith)))

      at_leaf : (k : ℕ) → k < length t.nodes → (node_at t k).leaf ≡ true → (node_at t k).summary.weight ≡ whole (rows_beneath t g k)
      at_leaf k l f =
          let e = rows_leaf t g k l f in
          let b = few k l in
          weighs_list k l (leaf-listed k f l (λ c q. (entry_counts c q).is) (omega arith) ∙ ap whole (sym e))

      -- by rank, from the leaves up
      node_weight_lem : (h k : ℕ) → k < length t.nodes → R k ≤ h → (node_at t k).summary.weight ≡ whole (rows_beneath t g k)
      node_weight_lem zero k l b = at_leaf k l (rank_zero g k l (omega arith))
      node_weight_lem (suc h) k l b = go (leaf? (node_at t k)) (λ c q z. node_weight_lem h c q z)
        where
          go : ((node_at t k).leaf ≡ true) ⊎ ((node_at t k).leaf ≡ false) → ((c : ℕ) → c < length t.nodes → R c ≤ h → (node_at t c).summary.weight ≡ whole
              (rows_beneath t g c))
              → (node_at t k).summary.weight ≡ whole (rows_beneath t g k)
          go (inl f) ih = at_leaf k l f
          go (inr f) ih =
              let e = rows_inner t g k l f in
              let m = few k l in
              weighs_list k l (inner-listed k (rows_beneath t g) f (λ c o. ih c (kid_below fr k c l f o) (let q = (g.kid k c l f o).1 in omega arith)) (omega arith)
              ∙ ap whole (sym e))

      all_weigh : T (every (weighs t) (up_from (length t.nodes) 0))
      unfolding weighs
      all_weigh = every_up (weighs t) (length t.nodes) 0 (λ k l. at k (omega arith))
        where
          at : (k : ℕ) → k < length t.nodes → T (weighs t k)
          at k l =
              let q : eq (whole (total_of (map (entry_at t) (collected t (length t.nodes) (k ∷ []))))) (node_at t k).summary.weight ≡ true =
              ap₂ eq (ap whole (beneath-is t g k l)) (node_weight_lem (R k) k l (omega arith))
              ∙ eq-whole (rows_beneath t g k) (rows_beneath t g k) (few k l) (few k l) ∙ eq-eqb (rows_beneath t g k) (rows_beneath t g k) refl in
              subst T (sym q) tt

  abbrev counting : Bool
  counting = every (λ e. is_count e.weight) t.entries

  abbrev within : Bool
  within = nat_le (total_of t.entries) most

  -- condition 7, computed
  pub weighed-is : Binary64 t → weighed t ≡ summed t
  weighed-is lent = go (same? (length t.entries) 0)
    where
      go : (length t.entries ≡ 0) ⊎ (length t.entries ≢ 0) → weighed t ≡ summed t
      go (inl e) = unfold weighed summed in rw (eq-eqb (length t.entries) 0 e) (ap (λ b. counting && within && b) (empty_weighs e))
      go (inr e) = unfold summed in rw (ne_eqb (length t.entries) 0 e) (same_test (weighed t) (counting && within && nodes_add_up t) down up)
        where
          down : T (weighed t) → T (counting && within && nodes_add_up t)
          down h =
              and_i (counting && within) (nodes_add_up t) (unfold weighed in and_l (counting && within) (every (weighs t) (up_from (length t.nodes) 0)) h)
              (weighed_adds lent e h)

          up : T (counting && within && nodes_add_up t) → T (weighed t)
          up h =
              let q = and_l (counting && within) (nodes_add_up t) h in
              unfold weighed in and_i (counting && within) (every (weighs t) (up_from (length t.nodes) 0)) q
              (all_weigh lent e (and_l counting within q) (and_r counting within q) (and_r (counting && within) (nodes_add_up t) h))

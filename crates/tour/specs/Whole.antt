-- Condition 4, the nodes: a walk that comes to its end and has met as many nodes as there are has met each of the levels' nodes once.
use Rattle.std.specs.Prelude.{ℕ, suc, ◌+◌, ◌≤◌, ◌<◌, ◌≡◌, ◌⊎◌, ◌≢◌, Bool, true, [], ◌∷◌, ltb, drop, None, Some}
use Rattle.std.proofs.Math.Path.{refl, sym, ap, subst}
use Rattle.std.proofs.Common.{◌∙◌, inl, inr}
use Rattle.std.proofs.Math.Bool.{false}
use native.Mathlib.Omega.{arith}
use Rattle.std.proofs.Math.Dec.{T, eqb, ltb→lt, eqb_refl}
use Rattle.std.specs.Float.Ieee.Bits.{is_true}
use Rattle.std.specs.Float.Ieee.Fits.{and_i, and_l, and_r, eq→eqb}
use Rattle.std.proofs.Math.ListN.{length, get_or}
use Rattle.head.specs.declared.Settings.{Settings}
use Rattle.rules.specs.Lists.{every, concat, up_from, occurs}
use Rattle.rules.specs.Tree.{Tree, node_at}
use Rattle.rules.specs.Check.{rooted, orphan, known, list_fits, levels_from, levels, once_each, names, own_list}
use Rattle.counting.specs.Count.{same?, lt?, is, is_same, is_other, below_in}
use Rattle.counting.specs.Sums.{over, occurs-over, length_over, sum_to, sum_same, sum_full, is_sym}
use Rattle.counting.specs.Totals.{sum_plus}
use Rattle.counting.specs.Flags.{is_sum}
use Rattle.laws.specs.Check.Accept.{orphan-none}
use Rattle.laws.specs.Check.Passing.{every_list, every_up, or_left, or_right}
use Rattle.lists.specs.Lent as L
use Rattle.tour.specs.Sums.{kids, deep_sum, beneath}
use Rattle.tour.specs.Walking.{step_of}
use Rattle.tour.specs.Steps.{step_down, end_is, kids-inner, kids_list, at-occurs}
use Rattle.tour.specs.Ending.{tally, is_node, one, Ends, ends_once, met_ends, met-most, met-sum}
use Rattle.tour.specs.Touring.{tour_from}
use Rattle.tour.specs.Levels.{deep-over, levels-beneath, levels-few}
use Rattle.tour.specs.declared.Step.TheVariants.{Down}

module _ (s : Settings) (t : Tree) (h2 : T (rooted t)) (h3 : T (every (list_fits s t) t.nodes)) where
  pub root_in : t.root < length t.nodes
  unfolding rooted
  root_in = ltb→lt t.root (length t.nodes) (and_l (ltb t.root (length t.nodes)) (orphan (node_at t t.root).parent) h2)

  pub root_none : (node_at t t.root).parent ≡ None
  unfolding rooted
  root_none = orphan-none (node_at t t.root).parent (and_r (ltb t.root (length t.nodes)) (orphan (node_at t t.root).parent) h2)

  -- what an inner node lists exists
  pub kid_in : (i k : ℕ) → k < length (kids t i) → get_or (kids t i) k 0 < length t.nodes
  unfolding known
  kid_in i k h =
      let (inner, there) = kids-inner t i (omega arith) in
      let same = kids_list t i inner in
      let a : k < length (node_at t i).list = subst (λ l. k < length l) same h in
      let b = L.listed_in s t (is_true (every (list_fits s t) t.nodes) h3) i k there a in
      let c : get_or (kids t i) k 0 ≡ get_or (node_at t i).list k 0 = ap (λ l. get_or l k 0) same in
      let d : known t (node_at t i).leaf ≡ length t.nodes = rw inner in
      omega arith

  pub down_in : (i k c : ℕ) → step_of t i k ≡ Down c → c < length t.nodes
  down_in i k c e = let (q, w, p) = step_down t i k c e in let a = kid_in i k q in omega arith

  -- ---- sums over the levels are sums over the nodes met

  pub walk_sums : (m f : ℕ) (v : ℕ → ℕ → ℕ) → Ends t m t.root 0 → m ≤ f
      → deep_sum v 0 (levels_from t (suc f) (t.root ∷ [])) ≡ v 0 t.root + tally t v m t.root 0 0
  walk_sums m f v g h =
      let r = t.root in
      let toured = tour_from t m r g in
      let a = levels-beneath t v (suc f) 0 (r ∷ []) in
      let b : over (beneath t v (suc f) 0) (r ∷ []) ≡ beneath t v (suc f) 0 r + 0 = unfold over in refl in
      let c : beneath t v (suc f) 0 r ≡ v 0 r + over (beneath t v f 1) (kids t r) = unfold beneath in refl in
      let d = toured.sums v 0 f h in
      let e = ends_once t toured.n 0 r (length (kids t r)) toured.ends (end_is t r (length (kids t r)) (omega arith) root_none) in
      let w : tally t v toured.n r (length (kids t r)) 0 ≡ 0 = ap (λ n. tally t v n r (length (kids t r)) 0) e ∙ (unfold tally in refl) in
      let z : over (beneath t v f 1) (drop 0 (kids t r)) ≡ over (beneath t v f 1) (kids t r) = refl in
      omega arith

  -- ---- from the walk to the levels

  module _ (m : ℕ) (g : Ends t m t.root 0) (all : 1 + tally t one m t.root 0 0 ≡ length t.nodes) where
    abbrev times : ℕ → ℕ
    times c = is c t.root + tally t (is_node c) m t.root 0 0

    -- the root is not met again, and no other twice
    times-few : (c : ℕ) → times c ≤ 1
    times-few c = go (same? c t.root) (lt? 0 (tally t (is_node c) m t.root 0 0))
      where
        go : (c ≡ t.root) ⊎ (c ≢ t.root) → (0 < tally t (is_node c) m t.root 0 0) ⊎ (tally t (is_node c) m t.root 0 0 ≤ 0) → times c ≤ 1
        go (inl e) (inl q) =
            let (n, l, z) = met_ends t c m t.root 0 0 g q in
            let w = ends_once t n m t.root 0 (subst (λ x. Ends t n x 0) e z) g in
            absurd (omega arith)
        go (inl e) (inr q) = let a = is_same c t.root e in omega arith
        go (inr e) q = let a = is_other c t.root e in let b = met-most t c m t.root 0 0 g in omega arith

    times-sum : sum_to times (length t.nodes) ≡ length t.nodes
    times-sum =
        let n = length t.nodes in
        let a = sum_plus (λ c. is c t.root) (λ c. tally t (is_node c) m t.root 0 0) n in
        let b = sum_same (λ c. is t.root c) (λ c. is c t.root) n (λ c q. is_sym c t.root) in
        let c = is_sum t.root n in
        let d = below_in t.root n root_in in
        let e = met-sum t n m t.root 0 0 g down_in in
        omega arith

    -- each node once
    times-one : (c : ℕ) → c < length t.nodes → times c ≡ 1
    times-one c h = sum_full times (length t.nodes) (λ k q. times-few k) times-sum c h

    -- from each node the walk goes on to its end
    goes_on : (c : ℕ) → c < length t.nodes → (n : ℕ) × Ends t n c 0
    goes_on c h = go (same? c t.root)
      where
        go : (c ≡ t.root) ⊎ (c ≢ t.root) → (n : ℕ) × Ends t n c 0
        go (inl e) = (m, subst (λ x. Ends t m x 0) (sym e) g)
        go (inr e) =
            let a = times-one c h in
            let b = is_other c t.root e in
            let (n, l, z) = met_ends t c m t.root 0 0 g (omega arith) in
            (n, z)

    -- in fewer levels than there are nodes
    pub levels_are : levels_from t (suc (m + length t.nodes)) (t.root ∷ []) ≡ levels t
    unfolding levels
    levels_are =
        let ls = levels_from t (suc (m + length t.nodes)) (t.root ∷ []) in
        let a = walk_sums m (m + length t.nodes) one g (omega arith) in
        let b = deep-over (λ _. 1) 0 ls in
        let c = length_over (concat ls) in
        levels-few t (suc (m + length t.nodes)) (length t.nodes) (t.root ∷ []) (omega arith) (omega arith)

    pub level_sums : (v : ℕ → ℕ → ℕ) → deep_sum v 0 (levels t) ≡ v 0 t.root + tally t v m t.root 0 0
    level_sums v = ap (deep_sum v 0) (sym levels_are) ∙ walk_sums m (m + length t.nodes) v g (omega arith)

    pub levels_once : T (once_each (length t.nodes) (concat (levels t)))
    unfolding once_each
    levels_once =
        and_i (eqb (length (concat (levels t))) (length t.nodes)) _
        (eq→eqb (length_over (concat (levels t)) ∙ sym (deep-over (λ _. 1) 0 (levels t)) ∙ level_sums one ∙ all))
        (every_up (λ c. eqb (occurs c (concat (levels t))) 1) (length t.nodes) 0
        (λ c q. eq→eqb (occurs-over c (concat (levels t)) ∙ sym (deep-over (is c) 0 (levels t)) ∙ level_sums (is_node c) ∙ times-one c (omega arith))))

    pub lists_own : T (every (own_list t) (up_from (length t.nodes) 0))
    lists_own = every_up (own_list t) (length t.nodes) 0 (λ i h. own i (omega arith))
      where
        own : (i : ℕ) → i < length t.nodes → T (own_list t i)
        own i h =
            let (n, z) = goes_on i h in
            let toured = tour_from t n i z in
            go (node_at t i).leaf refl toured.own
          where
            go : (b : Bool) → (node_at t i).leaf ≡ b → ((c : ℕ) → 0 < occurs c (drop 0 (kids t i)) → (node_at t c).parent ≡ Some i) → T (own_list t i)
            go true e o = unfold own_list in or_left (node_at t i).leaf _ (subst T (sym e) tt)
            go false e o = unfold own_list in or_right (node_at t i).leaf _
                (every_list (λ c. names i (node_at t c).parent) 0 (node_at t i).list (λ k q. named (get_or (node_at t i).list k 0)
                (o (get_or (node_at t i).list k 0) (subst (λ l. 0 < occurs (get_or (node_at t i).list k 0) l) (sym (kids_list t i e)) (at-occurs _ (node_at t i).list k q refl)))))
              where
                named : (c : ℕ) → (node_at t c).parent ≡ Some i → T (names i (node_at t c).parent)
                named c p = unfold names in subst (λ x. T (names i x)) (sym p) (eqb_refl i)

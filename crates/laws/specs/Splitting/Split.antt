-- A split keeps the invariant, with an orphan left over.
use Rattle.std.specs.Prelude.{ℕ, suc, ◌≤◌, ◌<◌, ◌≡◌, ◌⊎◌, ◌≢◌, Bool, length}
use Rattle.std.proofs.Math.Path.{refl, ap}
use Rattle.std.proofs.Common.{sym, ◌∙◌, subst, inl, inr}
use Rattle.std.proofs.Math.Bool.{true, false}
use native.Mathlib.Omega.{arith}
use Rattle.binary64.specs.Whole.{most}
use Rattle.head.specs.declared.Settings.{Settings}
use Rattle.rules.specs.Lists.{occurs}
use Rattle.rules.specs.Tree.{Tree, node_at, child, row_count}
use Rattle.rules.specs.Split.{split, gathered}
use Rattle.laws.specs.Invariant.Weights.{IsExact, Exactly, exact_count, exact_is, gather_exact, weight_of}
use Rattle.counting.specs.Count.{is, below-lt, same?}
use Rattle.counting.specs.Sums.{over, sum_to, sum-at, occurs-over}
use Rattle.laws.specs.Invariant.Links.{Links, held, held_yes, leaf?, nil, kid_in, put}
use Rattle.laws.specs.Splitting.Torn.{Parts, torn_links}
use Rattle.laws.specs.Splitting.Groups.{stay_list, move_list, TwoLists, two_lists}
use Rattle.laws.specs.Splitting.Nodes.{split_parts, split-sum_i, split-sum_n, split-sum_o}
use Rattle.laws.specs.Invariant.Weigh.{pick, own, Short}
use Rattle.laws.specs.Splitting.Weighed.{short}
use Rattle.laws.specs.Invariant.Sound.{Looking, Caps, node_weight, entry_weight, weight_pick}

module _ {s : Settings} {t : Tree} {R : ℕ → ℕ} (i : ℕ) {total : ℕ} (g : Looking s t R i total) (l : i < length t.nodes) (c : Caps s) where
  -- every member of i's list weighs a whole number
  members : (x : ℕ) → 0 < occurs x (node_at t i).list → IsExact (child t (node_at t i).leaf x)
  unfolding child
  members x o = go (node_at t i).leaf refl
    where
      go : (b : Bool) → (node_at t i).leaf ≡ b → IsExact (child t b x)
      go false e = g.exact.at_node x (kid_in g.links i x l e o).0
      go true e =
          let a : held (node_at t i) x ≡ occurs x (node_at t i).list = held_yes (node_at t i) x e in
          let b : held (node_at t i) x ≤ sum_to (λ k. held (node_at t k) x) (length t.nodes) = sum-at (λ k. held (node_at t k) x) i (length t.nodes) l in
          let d = g.links.entries_once x in
          g.exact.at_entry x (below-lt x (length t.entries) (omega arith))

  over-own : over (weight_of t (node_at t i).leaf) (node_at t i).list ≤ most
  unfolding own
  over-own =
      let a : node_weight t i ≡ over (pick (node_at t i).leaf (entry_weight t) (node_weight t)) (node_at t i).list = g.weighs.sums i l in
      let b : over (weight_of t (node_at t i).leaf) (node_at t i).list ≡ over (pick (node_at t i).leaf (entry_weight t) (node_weight t)) (node_at t i).list =
      ap (λ w. over w (node_at t i).list) (weight_pick t (node_at t i).leaf) in
      let d = g.weighs.bound i l in
      let e = g.exact.small in
      omega arith

  module _ (many : 1 < length (node_at t i).list) where
    lists : TwoLists (node_at t i).list (stay_list s t i) (move_list s t i)
    lists = two_lists s t i many

    in_stay : (x : ℕ) → 0 < occurs x (stay_list s t i) → 0 < occurs x (node_at t i).list
    in_stay x o = let a = lists.sums (is x) in let b = occurs-over x (stay_list s t i) in let d = occurs-over x (node_at t i).list in omega arith

    pub in_move : (x : ℕ) → 0 < occurs x (move_list s t i) → 0 < occurs x (node_at t i).list
    in_move x o = let a = lists.sums (is x) in let b = occurs-over x (move_list s t i) in let d = occurs-over x (node_at t i).list in omega arith

    stay_exact : Exactly (gathered s t (node_at t i).leaf (stay_list s t i)) (over (weight_of t (node_at t i).leaf) (stay_list s t i))
    stay_exact =
        gather_exact s t (node_at t i).leaf (stay_list s t i) (λ x o. members x (in_stay x o)) (let a = lists.sums (weight_of t (node_at t i).leaf) in
        let b = over-own in omega arith)

    move_exact : Exactly (gathered s t (node_at t i).leaf (move_list s t i)) (over (weight_of t (node_at t i).leaf) (move_list s t i))
    move_exact =
        gather_exact s t (node_at t i).leaf (move_list s t i) (λ x o. members x (in_move x o)) (let a = lists.sums (weight_of t (node_at t i).leaf) in
        let b = over-own in omega arith)

    not_new : ((node_at t i).leaf ≡ true) ⊎ (occurs (length t.nodes) (move_list s t i) ≡ 0)
    not_new = go (leaf? (node_at t i))
      where
        go : ((node_at t i).leaf ≡ true) ⊎ ((node_at t i).leaf ≡ false) → ((node_at t i).leaf ≡ true) ⊎ (occurs (length t.nodes) (move_list s t i) ≡ 0)
        go (inl e) = inl e
        go (inr e) = inr (zero? (same? (occurs (length t.nodes) (move_list s t i)) 0))
          where
            no : length t.nodes < length t.nodes → ⊥
            no h = omega arith

            zero? : (occurs (length t.nodes) (move_list s t i) ≡ 0) ⊎ (occurs (length t.nodes) (move_list s t i) ≢ 0)
                → occurs (length t.nodes) (move_list s t i) ≡ 0
            zero? (inl z) = z
            zero? (inr z) = absurd (no (kid_in g.links i (length t.nodes) l e (in_move (length t.nodes) (omega arith))).0)

    pub parts_of : Parts (node_at t) (node_at (split s i t)) i (length t.nodes) (stay_list s t i) (move_list s t i)
    parts_of = split_parts s t i l not_new many

    w_i : node_weight (split s i t) i ≡ over (pick (node_at t i).leaf (entry_weight t) (node_weight t)) (stay_list s t i)
    unfolding node_weight
    w_i =
        ap (λ e. row_count e) (split-sum_i s t i l)
        ∙ exact_count (gathered s t (node_at t i).leaf (stay_list s t i)) (over (weight_of t (node_at t i).leaf) (stay_list s t i)) stay_exact
        ∙ ap (λ w. over w (stay_list s t i)) (weight_pick t (node_at t i).leaf)

    w_n : node_weight (split s i t) (length t.nodes) ≡ over (pick (node_at t i).leaf (entry_weight t) (node_weight t)) (move_list s t i)
    unfolding node_weight
    w_n =
        ap (λ e. row_count e) (split-sum_n s t i l)
        ∙ exact_count (gathered s t (node_at t i).leaf (move_list s t i)) (over (weight_of t (node_at t i).leaf) (move_list s t i)) move_exact
        ∙ ap (λ w. over w (move_list s t i)) (weight_pick t (node_at t i).leaf)

    w_o : (k : ℕ) → k ≢ i → k ≢ length t.nodes → node_weight (split s i t) k ≡ node_weight t k
    unfolding node_weight
    w_o k d e = ap (λ e. row_count e) (split-sum_o s t i l k d e)

    pub short_of : Short (node_at (split s i t)) (entry_weight t) (node_weight (split s i t)) (suc (length t.nodes)) t.root total i (length t.nodes)
    short_of = short (node_weight (split s i t))
        g.links l parts_of g.weighs w_i w_n w_o (lists.sums (pick (node_at t i).leaf (entry_weight t) (node_weight t)))

    pub torn_of : Links s (node_at (split s i t)) (suc (length t.nodes)) t.root (length t.entries) (put R (length t.nodes) (R i)) nil
        (is (suc (R i))) (is (length t.nodes))
    torn_of = torn_links g.links l parts_of

    pub split_exact : (k : ℕ) → k < suc (length t.nodes) → IsExact (node_at (split s i t) k).summary
    split_exact k h = go (same? k i) (same? k (length t.nodes))
      where
        go : (k ≡ i) ⊎ (k ≢ i) → (k ≡ length t.nodes) ⊎ (k ≢ length t.nodes) → IsExact (node_at (split s i t) k).summary
        go (inl e) q =
            subst (λ z. IsExact (node_at (split s i t) z).summary) (sym e) (subst (λ m. IsExact m) (sym (split-sum_i s t i l))
            (exact_is (gathered s t (node_at t i).leaf (stay_list s t i)) (over (weight_of t (node_at t i).leaf) (stay_list s t i)) stay_exact))
        go (inr e) (inl q) =
            subst (λ z. IsExact (node_at (split s i t) z).summary) (sym q) (subst (λ m. IsExact m) (sym (split-sum_n s t i l))
            (exact_is (gathered s t (node_at t i).leaf (move_list s t i)) (over (weight_of t (node_at t i).leaf) (move_list s t i)) move_exact))
        go (inr e) (inr q) = subst (λ m. IsExact m) (sym (split-sum_o s t i l k e q)) (g.exact.at_node k (omega arith))

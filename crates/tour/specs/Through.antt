-- Condition 4, the other way: where the levels have each node once and each list's nodes name its node, the walk comes to its end.
use Rattle.std.specs.Prelude.{ℕ, zero, suc, ◌+◌, ◌-◌, ◌*◌, ◌≤◌, ◌<◌, ◌≡◌, false, cond, ◌||◌, List, [], ◌∷◌, eqb, get_or, None, Some}
use Rattle.std.proofs.Math.Path.{refl, ap, subst}
use Rattle.std.proofs.Common.{sym, ◌∙◌, inl, inr}
use native.Mathlib.Omega.{arith}
use Rattle.std.proofs.Math.Dec.{T, eqb→eq}
use Rattle.std.specs.Float.Ieee.Fits.{and_l}
use Rattle.std.proofs.Math.ListN.{length}
use Rattle.head.specs.declared.Settings.{Settings}
use Rattle.rules.specs.Lists.{every, concat, up_from, occurs}
use Rattle.rules.specs.Tree.{Tree, node_at}
use Rattle.rules.specs.Check.{rooted, list_fits, next_level, levels_from, levels, once_each, names, own_list}
use Rattle.counting.specs.Count.{is, below, below_in, below-le}
use Rattle.counting.specs.Sums.{over, occurs-over, over_in, length_over}
use Rattle.counting.specs.Tests.{up_at, in_at}
use Rattle.laws.specs.Check.Accept.{names-is, once_back}
use Rattle.laws.specs.Check.Ranks.{rank_in}
use Rattle.laws.specs.Check.Read.{Chain, uncut, listed-all, kid_rank}
use Rattle.tour.specs.Sums.{kids, deep_sum}
use Rattle.tour.specs.Walking.{step_of}
use Rattle.tour.specs.Steps.{after_is, at-occurs, down_is, up_is, end_is, kids-inner, kids_list}
use Rattle.tour.specs.Ending.{tally, one, Ends, tally_down, tally_up}
use Rattle.tour.specs.Levels.{deep-over, levels_more}
use Rattle.tour.specs.Whole.{root_none, walk_sums}
use Rattle.tour.specs.declared.Step.TheVariants.{Down, Up}

none-some : {a : ℕ} → None ≡ Some a → ⊥
none-some e = let z : ◌≡◌ {A = ℕ} 0 1 = cc in omega arith

module _ (s : Settings) (t : Tree) (h2 : T (rooted t)) (h3 : T (every (list_fits s t) t.nodes))
    (once : T (once_each (length t.nodes) (concat (levels t)))) (owns : T (every (own_list t) (up_from (length t.nodes) 0))) where
  long : length (concat (levels t)) ≡ length t.nodes
  unfolding once_each
  long = eqb→eq (length (concat (levels t))) (length t.nodes) (and_l (eqb (length (concat (levels t))) (length t.nodes)) _ once)

  abbrev rest : List (List ℕ)
  rest = levels_from t (length t.nodes) (next_level t (t.root ∷ []))

  abbrev all : List (List ℕ)
  all = (t.root ∷ []) ∷ rest

  all_are : levels t ≡ all
  unfolding levels levels_from
  all_are = refl

  chain : Chain s t all
  unfolding levels
  chain = subst (Chain s t) all_are (uncut s t (suc (length t.nodes)) (t.root ∷ []) (let l = long in omega arith))

  once_all : (c : ℕ) → occurs c (concat all) ≡ below c (length t.nodes)
  once_all c = ap (λ ls. occurs c (concat ls)) (sym all_are) ∙ once_back (length t.nodes) (concat (levels t)) once c

  -- ---- what place k of node i's list holds

  module _ (i k : ℕ) (h : k < length (kids t i)) where
    abbrev c : ℕ
    c = get_or (kids t i) k 0

    inner : (node_at t i).leaf ≡ false
    inner = (kids-inner t i (omega arith)).0

    there : i < length t.nodes
    there = (kids-inner t i (omega arith)).1

    lists : 0 < occurs c (node_at t i).list
    lists = subst (λ l. 0 < occurs c l) (kids_list t i inner) (at-occurs c (kids t i) k h refl)

    kid_names : (node_at t c).parent ≡ Some i
    unfolding own_list
    kid_names =
        let q = up_at (own_list t) (length t.nodes) 0 owns i (omega arith) (let a = there in omega arith) in
        names-is i (node_at t c).parent (in_at (λ c. names i (node_at t c).parent) (node_at t i).list
        (subst (λ b. T (b || every (λ c. names i (node_at t c).parent) (node_at t i).list)) inner q) c lists)

    -- it stands there once
    kid_once : occurs c (node_at t i).list ≤ 1
    kid_once =
        let a = listed-all s t (is c) (t.root ∷ []) rest chain in
        let b = occurs-over c (concat all) in
        let e = once_all c in
        let f = below-le c (length t.nodes) in
        let d = over_in (λ k. cond (node_at t k).leaf 0 (over (is c) (node_at t k).list)) i (concat all)
        (let x = once_all i in let y = below_in i (length t.nodes) there in omega arith) in
        let w : cond (node_at t i).leaf 0 (over (is c) (node_at t i).list) ≡ over (is c) (node_at t i).list = rw inner in
        let z = occurs-over c (node_at t i).list in
        omega arith

    -- and is one rank lower
    kid_lower : rank_in all i ≡ suc (rank_in all c)
    kid_lower =
        kid_rank s t i c all chain (λ d. let a = once_all d in let b = below-le d (length t.nodes) in omega arith)
        (let a = once_all i in let b = below_in i (length t.nodes) there in omega arith) inner lists

    go_down : step_of t i k ≡ Down c
    go_down = down_is t i k c h refl kid_names

    go_up : step_of t c (length (kids t c)) ≡ Up i (suc k)
    go_up =
        let same = kids_list t i inner in
        let e : get_or (node_at t i).list k 0 ≡ c = ap (λ l. get_or l k 0) (sym same) in
        up_is t c (length (kids t c)) i (omega arith) kid_names
        ∙ ap (Up i) (after_is c (node_at t i).list k (subst (λ l. k < length l) same h) e kid_once)

  -- ---- through node i's list from place k on, and all beneath

  -- from place k in m steps, of which two for each of y nodes, where it is n from the end of the list
  pub record Through (i k n : ℕ) : Type 0 where
    pub m : ℕ
    pub y : ℕ
    pub ends : Ends t m i k
    pub long : m ≡ n + 2 * y
    pub meets : (d : ℕ) → tally t one m i k d ≡ y + tally t one n i (length (kids t i)) d

  abbrev Lower : ℕ → Type 0
  Lower r = (i : ℕ) → rank_in all i < r → (x k n : ℕ) → k + x ≡ length (kids t i) → Ends t n i (length (kids t i)) → Through i k n

  along : (r : ℕ) → Lower r → Lower (suc r)
  along r low i l zero k n e g =
      let w : length (kids t i) ≡ k = omega arith in record {
        m = n;
        y = 0;
        ends = subst (Ends t n i) w g;
        long = omega arith;
        meets = (λ d. let a : tally t one n i k d ≡ tally t one n i (length (kids t i)) d = ap (λ j. tally t one n i j d) (sym w) in omega arith);
      }
  along r low i l (suc x) k n e g = into (omega arith) (along r low i l x (suc k) n (omega arith) g)
    where
      into : k < length (kids t i) → Through i (suc k) n → Through i k n
      into h on =
          let c = get_or (kids t i) k 0 in
          let q = kid_lower i k h in
          let under = low c (omega arith) (length (kids t c)) 0 (suc on.m) (omega arith) (inr (i, suc k, go_up i k h, on.ends)) in record {
            m = suc under.m;
            y = suc (under.y + on.y);
            ends = inl (c, go_down i k h, under.ends);
            long = (let a = under.long in let b = on.long in omega arith);
            meets = (λ d. let a = tally_down t one under.m i k d c (go_down i k h) in
                let b = under.meets (suc d) in
                let f = tally_up t one on.m c (length (kids t c)) (suc d) i (suc k) (go_up i k h) in
                let up : suc d - 1 ≡ d = omega arith in
                let j : tally t one on.m i (suc k) (suc d - 1) ≡ tally t one on.m i (suc k) d = ap (tally t one on.m i (suc k)) up in
                let z = on.meets d in
                omega arith);
          }

  lower : (r : ℕ) → Lower r
  lower zero = λ i l. absurd (omega arith)
  lower (suc r) = along r (lower r)

  -- ---- from the root

  whole : Through t.root 0 0
  whole =
      let r = t.root in
      lower (suc (rank_in all r)) r (omega arith) (length (kids t r)) 0 0 (omega arith) (end_is t r (length (kids t r)) (omega arith) (root_none s t h2 h3))

  -- it meets every node, in fewer than two steps each
  pub comes_back : (m : ℕ) × Ends t m t.root 0 × (m < 2 * length t.nodes) × (1 + tally t one m t.root 0 0 ≡ length t.nodes)
  unfolding levels
  comes_back =
      let r = t.root in
      let w = whole in
      let n = length t.nodes in
      let f = w.m + n in
      let a = walk_sums s t h2 h3 w.m f one w.ends (omega arith) in
      let l = long in
      let same = levels_more t (suc f) n (r ∷ []) (omega arith) (omega arith) in
      let b : deep_sum one 0 (levels_from t (suc f) (r ∷ [])) ≡ deep_sum one 0 (levels t) = ap (deep_sum one 0) same in
      let c = deep-over (λ _. 1) 0 (levels t) in
      let d = length_over (concat (levels t)) in
      let e = w.long in
      let g = w.meets 0 in
      let z : tally t one 0 r (length (kids t r)) 0 ≡ 0 = unfold tally in refl in
      (w.m, w.ends, omega arith, omega arith)

-- Each entry once, by one pass over the leaf lists with the set of those met: as many as the entries, all below their count, none twice.
use Prim.Native.Nat.{ℕ, ◌+◌, ◌≤◌, ◌<◌}
use Rattle.std.specs.Prelude.{◌≡◌, ◌⊎◌, ◌≢◌, Bool, cond, ◌&&◌, List, [], Option, Some, None, eqb, Float, get_or}
use Rattle.std.proofs.Math.Path.{refl, ap, subst}
use Rattle.std.proofs.Common.{sym, ◌∙◌, inl, inr}
use Rattle.std.proofs.Math.Bool.{true, false}
use native.Mathlib.Omega.{arith}
use borrow.Author.Tests.{le-leb, lt-leb, eqb-true, eqb-false, ne_eqb}
use Rattle.std.proofs.Math.Dec.{T, leb, ltb, leb→le, ltb→lt, le→leb}
use Rattle.std.specs.Float.Ieee.Fits.{and_r}
use Rattle.std.proofs.Math.ListN.{length}
use Rattle.binary64.specs.Order.{same_test}
use Rattle.head.specs.declared.Settings.{Settings}
use Rattle.head.specs.declared.Counters.{Counters}
use Rattle.rules.specs.Lists.{every, up_from, occurs}
use Rattle.rules.specs.Tree.{Tree, blank_node, node_at, cap}
use Rattle.rules.specs.Check.{known, list_fits, once_each, leaf_lists}
use Rattle.rules.specs.Slices.{tree_of}
use Rattle.arena.specs.Trees.{count_nodes_lem, count_entries_lem}
use Rattle.counting.specs.Count.{is, is_same, lt?, below, below_in, below_out, below-le}
use Rattle.counting.specs.Sums.{length_over, over-same, sum_to, sum_full, sum-some}
use Rattle.laws.specs.Check.Accept.{occurs-sum, once_back}
use Rattle.laws.specs.Check.Passing.{every_up, once_each_lem}
use Rattle.lists.specs.Loops.{fails_at, passed_all, sum-none, sum_more, sum_grows, occurs-places}
use Rattle.lists.specs.Lent.{leaf_list, holds, leaves_occurs}
use Rattle.seen.specs.declared.Seen.{Seen}
use Rattle.seen.specs.Sets.{Holds, Marked, marked_apart, marked_twice, none, times, times_none, times-few, with, with-new}
use Rattle.counting.specs.Tests.{every-at, up_at, in_at}

-- no number below n stands twice in a list
unfoldable pub none_twice : ℕ → List ℕ → Bool
none_twice n l = every (λ i. leb (occurs i l) 1) (up_from n 0)

-- ---- as many as there are numbers below n, none twice: each once

module _ (n : ℕ) (l : List ℕ) (long : length l ≡ n) (in-n : (c : ℕ) → 0 < occurs c l → c < n) where
  full : T (none_twice n l) → (c : ℕ) → occurs c l ≡ below c n
  unfolding none_twice
  full h c = go (lt? c n)
    where
      few : (k : ℕ) → k < n → occurs k l ≤ 1
      few k q = leb→le (occurs k l) 1 (up_at (λ i. leb (occurs i l) 1) n 0 h k (omega arith) (omega arith))

      sum : sum_to (λ k. occurs k l) n ≡ n
      sum =
          let a = occurs-sum n l in
          let b = over-same (λ x. below x n) (λ _. 1) l (λ k o. below_in k n (in-n k o)) in
          let d = length_over l in
          omega arith

      go : (c < n) ⊎ (n ≤ c) → occurs c l ≡ below c n
      go (inl q) = sum_full (λ k. occurs k l) n few sum c q ∙ sym (below_in c n q)
      go (inr q) = away (lt? 0 (occurs c l))
        where
          away : (0 < occurs c l) ⊎ (occurs c l ≤ 0) → occurs c l ≡ below c n
          away (inl o) = let a = in-n c o in absurd (omega arith)
          away (inr o) = let a = below_out c n q in omega arith

  once_is : none_twice n l ≡ once_each n l
  once_is = same_test (none_twice n l) (once_each n l) (λ h. once_each_lem n l long (full h)) back
    where
      back : T (once_each n l) → T (none_twice n l)
      back h = unfold none_twice in every_up (λ i. leb (occurs i l) 1) n 0
          (λ c q. le→leb (occurs c l) 1 (let a = once_back n l h c in let b = below-le c n in omega arith))

-- ---- one list, after the first k of its places

module _ (seen : Seen) (l : List ℕ) where
  -- how often c was in the set, and is among those places
  unfoldable pub marks_at : ℕ → ℕ → ℕ
  marks_at k c = times seen c + sum_to (λ j. is c (get_or l j 0)) k

  pub list_start : Holds seen (marks_at 0)
  unfolding marks_at
  list_start c = let a = sum-none (λ j. is c (get_or l j 0)) in omega arith

  pub list_turn : (k e : ℕ) (z : Seen) {y : Seen} {b : Bool} → Holds z (marks_at k) → e ≡ get_or l k 0 → e < 256 → b ≡ eqb (times z e) 1 → b ≡ false
      → y ≡ with z e → Holds y (marks_at (k + 1))
  unfolding marks_at
  list_turn k e z h p q t f w c =
      let new : times z e ≢ 1 = eqb-false (times z e) 1 (sym t ∙ f) in
      let a = with-new z e q new c in
      let b = sum_more (λ j. is c (get_or l j 0)) k {b = is c e} refl (ap (is c) p) in
      ap (λ (z : Seen). times z c) w ∙ (let d = h c in omega arith)

  pub list_twice : (k e : ℕ) (z : Seen) {b : Bool} → Holds z (marks_at k) → e ≡ get_or l k 0 → k < length l → b ≡ eqb (times z e) 1 → b ≡ true
      → Marked None (λ c. times seen c + occurs c l)
  unfolding marks_at Marked
  list_twice k e z h p q t f =
      let old : times z e ≡ 1 = eqb-true (times z e) 1 (sym t ∙ f) in
      let a = h e in
      let b = sum_more (λ j. is e (get_or l j 0)) k {b = 1} refl (sym (is_same e (get_or l k 0) p)) in
      let d = sum_grows (λ j. is e (get_or l j 0)) (length l) (k + 1) (omega arith) in
      let g = occurs-places e l in
      (e, omega arith)

  pub list_end : (k : ℕ) (z : Seen) {len : ℕ} → Holds z (marks_at k) → k ≤ len → len ≤ k → len ≡ length l
      → Marked (Some z) (λ c. times seen c + occurs c l)
  unfolding marks_at Marked
  list_end k z h p q e c =
      let w : k ≡ length l = omega arith in
      let a : sum_to (λ j. is c (get_or l j 0)) k ≡ sum_to (λ j. is c (get_or l j 0)) (length l) = ap (sum_to (λ j. is c (get_or l j 0))) w in
      let b = occurs-places c l in
      h c ∙ omega arith

-- ---- the lists of the nodes below i

module _ (t : Tree) where
  -- how often c is in them
  unfoldable pub leaves_to : ℕ → ℕ → ℕ
  leaves_to i c = sum_to (λ j. occurs c (leaf_list (node_at t j))) i

  pub leaves_start : {z : Seen} → z ≡ none → Holds z (leaves_to 0)
  unfolding leaves_to sum_to
  leaves_start e c = ap (λ (z : Seen). times z c) e ∙ times_none c

  pub leaves_turn : (i : ℕ) (z : Seen) {y : Seen} {r : Option Seen} → Holds z (leaves_to i) → Marked r (λ c. times z c + occurs c (leaf_list (node_at t i)))
      → r ≡ Some y → Holds y (leaves_to (i + 1))
  unfolding leaves_to
  leaves_turn i z h m e c =
      marked_apart (λ c. times z c + occurs c (leaf_list (node_at t i))) m e c ∙ sum_more (λ j. occurs c (leaf_list (node_at t j))) i (h c) refl

  leaves_twice : (i : ℕ) (z : Seen) {r : Option Seen} → Holds z (leaves_to i) → Marked r (λ c. times z c + occurs c (leaf_list (node_at t i))) → r ≡ None
      → (c : ℕ) × (2 ≤ leaves_to (i + 1) c)
  unfolding leaves_to
  leaves_twice i z h m e =
      let (c, two) = marked_twice (λ c. times z c + occurs c (leaf_list (node_at t i))) m e in
      (c, subst (λ x. 2 ≤ x) (sum_more (λ j. occurs c (leaf_list (node_at t j))) i (h c) refl) two)

  -- what a leaf lists is an entry's number
  leaf_in_lem : (s : Settings) → every (list_fits s t) t.nodes ≡ true → (i c : ℕ) → i < length t.nodes → 0 < occurs c (leaf_list (node_at t i))
      → c < length t.entries
  unfolding leaf_list list_fits node_at known occurs
  leaf_in_lem s h i c q = go (node_at t i).leaf (every-at (list_fits s t) blank_node t.nodes (holds h) i q)
    where
      go : (b : Bool) → T (leb (length (node_at t i).list) (cap s b) && every (λ k. ltb k (known t b)) (node_at t i).list)
          → 0 < occurs c (cond b (node_at t i).list []) → c < length t.entries
      go true f o =
          ltb→lt c (length t.entries) (in_at (λ k. ltb k (length t.entries)) (node_at t i).list
          (and_r (leb (length (node_at t i).list) (cap s true)) _ f) c o)
      go false f o = absurd (omega arith)

module _ (s : Settings) (n : Counters) (fs : List Float) (ls : List ℕ) (h : every (list_fits s (tree_of s n fs ls)) (tree_of s n fs ls).nodes ≡ true) where
  leaves_are : (c : ℕ) → occurs c (leaf_lists (tree_of s n fs ls).nodes) ≡ leaves_to (tree_of s n fs ls) n.nodes c
  unfolding leaves_to
  leaves_are c = leaves_occurs s n fs ls c

  leaves_in : (c : ℕ) → 0 < occurs c (leaf_lists (tree_of s n fs ls).nodes) → c < n.entries
  unfolding leaves_to
  leaves_in c o =
      let t = tree_of s n fs ls in
      let a = leaves_are c in
      let (i, q, p) = sum-some (λ j. occurs c (leaf_list (node_at t j))) n.nodes (omega arith) in
      let b = leaf_in_lem t s h i c (rw (count_nodes_lem s n fs ls) q) p in
      rw (count_entries_lem s n fs ls) at b

  -- node i lists a number that was met
  pub some_twice : (i : ℕ) (z : Seen) {r : Option Seen} → Holds z (leaves_to (tree_of s n fs ls) i)
      → Marked r (λ c. times z c + occurs c (leaf_list (node_at (tree_of s n fs ls) i))) → r ≡ None → i < n.nodes
      → false ≡ none_twice n.entries (leaf_lists (tree_of s n fs ls).nodes)
  unfolding none_twice leaves_to
  some_twice i z g m e q =
      let t = tree_of s n fs ls in
      let l = leaf_lists t.nodes in
      let (c, two) = leaves_twice t i z g m e in
      let a = leaves_are c in
      let b = sum_grows (λ j. occurs c (leaf_list (node_at t j))) n.nodes (i + 1) (omega arith) in
      fails_at (λ k. leb (occurs k l) 1) n.entries c (leaves_in c (omega arith)) refl (lt-leb (occurs c l) 1 (omega arith))

  -- all nodes are passed
  pub none_twice_lem : (i : ℕ) (z : Seen) → Holds z (leaves_to (tree_of s n fs ls) i) → i ≤ n.nodes → n.nodes ≤ i
      → true ≡ none_twice n.entries (leaf_lists (tree_of s n fs ls).nodes)
  unfolding none_twice
  none_twice_lem i z g p q =
      let t = tree_of s n fs ls in
      let l = leaf_lists t.nodes in
      let w : leaves_to t i ≡ leaves_to t n.nodes = ap (leaves_to t) (omega arith) in
      passed_all (λ k. leb (occurs k l) 1) n.entries n.entries (λ c _. le-leb (occurs c l) 1
      (let a = leaves_are c in let b = g c in let d = times-few z c in let f = ap (λ (g : ℕ → ℕ). g c) w in omega arith))
      (omega arith)

  -- lists as long as the entries together
  pub once_told : {k : ℕ} {b : Bool} → k ≡ length (leaf_lists (tree_of s n fs ls).nodes) → k ≡ n.entries
      → b ≡ none_twice n.entries (leaf_lists (tree_of s n fs ls).nodes)
      → b ≡ once_each (length (tree_of s n fs ls).entries) (leaf_lists (tree_of s n fs ls).nodes)
  once_told e p q =
      let l = leaf_lists (tree_of s n fs ls).nodes in
      q ∙ once_is n.entries l (sym e ∙ p) leaves_in ∙ ap (λ k. once_each k l) (sym (count_entries_lem s n fs ls))

-- lists of another length than the entries
pub once_not : (s : Settings) (n : Counters) (fs : List Float) (ls : List ℕ) {k : ℕ} → k ≡ length (leaf_lists (tree_of s n fs ls).nodes) → k ≢ n.entries
    → false ≡ once_each (length (tree_of s n fs ls).entries) (leaf_lists (tree_of s n fs ls).nodes)
unfolding once_each
once_not s n fs ls {k} e d = rw (← e, count_entries_lem s n fs ls, ne_eqb k n.entries d)

-- Weights under push and merge: a list merged in order into an empty summary weighs the sum of its members' whole numbers.
use Rattle.std.specs.Prelude.{ℕ, suc, ◌+◌, ◌≤◌, ◌<◌, ◌≡◌, Bool, Float}
use Rattle.std.proofs.Common.{sym, ap, ◌∙◌}
use Rattle.std.proofs.Math.Path.{subst}
use mathlib.Core.List.{List, [], ◌∷◌, foldl}
use native.Mathlib.Omega.{arith}
use Rattle.std.specs.Float.Ieee.{to_unsigned}
use Rattle.binary64.specs.Whole.{whole, most, whole_back}
use Rattle.feature.specs.declared.Summary.{Summary}
use Rattle.feature.specs.Summaries.{blank}
use Rattle.feature.specs.Weights.{blank_weight, pushed_weight, merged_weight}
use Rattle.head.specs.declared.Settings.{Settings}
use Rattle.rules.specs.Lists.{occurs}
use Rattle.rules.specs.Tree.{Tree, push, merge, child, row_count}
use Rattle.rules.specs.Split.{gathered}
use Rattle.counting.specs.Sums.{over, occurs_here, occurs_later}

-- a summary that weighs exactly n
abbrev pub Exactly : Summary → ℕ → Type 0
Exactly e n = (e.weight ≡ whole n) × (n ≤ most)

-- a summary whose weight is its count of rows
abbrev pub IsExact : Summary → Type 0
IsExact e = Exactly e (row_count e)

abbrev pub AllExact : List Summary → Type 0
AllExact [] = Unit
AllExact (e ∷ es) = IsExact e × AllExact es

pub exact_count : (e : Summary) (n : ℕ) → Exactly e n → row_count e ≡ n
unfolding row_count
exact_count e n h = ap (to_unsigned 64) h.0 ∙ whole_back n h.1

pub exact_is : (e : Summary) (n : ℕ) → Exactly e n → IsExact e
exact_is e n h = subst (Exactly e) (sym (exact_count e n h)) h

-- weights that are whole numbers add up exactly, to 2^53
pub merge_weight_lem : (s : Settings) (a b : Summary) (m n : ℕ) → Exactly a m → Exactly b n → m + n ≤ most → Exactly (merge s a b) (m + n)
merge_weight_lem s a b m n ha hb h = (merged_weight s.feature s.dim a b m n ha.1 hb.1 ha.0 hb.0, h)

-- a row weighs one
pub push_weigh : (s : Settings) (x : List Float) (a : Summary) (m : ℕ) → Exactly a m → m < most → Exactly (push s x a) (suc m)
push_weigh s x a m h l = let e : m + 1 ≡ suc m = omega arith in (pushed_weight s.feature s.dim a x m h.1 h.0 ∙ ap whole e, l)

pub blank_exact : Exactly blank 0
blank_exact = (blank_weight, omega arith)

-- the number that a list's member c weighs
unfoldable pub weight_of : Tree → Bool → ℕ → ℕ
weight_of t l c = row_count (child t l c)

module _ (s : Settings) (t : Tree) (l : Bool) where
  fold_exact : (ks : List ℕ) (a : Summary) (m : ℕ) → Exactly a m → ((c : ℕ) → 0 < occurs c ks → IsExact (child t l c)) → m + over (weight_of t l) ks ≤ most
      → Exactly (foldl (λ a c. merge s a (child t l c)) a ks) (m + over (weight_of t l) ks)
  unfolding over weight_of
  fold_exact [] a m ha hc h = let e : m + 0 ≡ m = omega arith in subst (Exactly a) (sym e) ha
  fold_exact (c ∷ ks) a m ha hc h =
      let n = row_count (child t l c) in
      let here : IsExact (child t l c) = hc c (occurs_here c ks) in
      let one : Exactly (merge s a (child t l c)) (m + n) = merge_weight_lem s a (child t l c) m n ha here (omega arith) in
      let r = fold_exact ks (merge s a (child t l c)) (m + n) one (λ d o. hc d (occurs_later d c ks o)) (omega arith) in
      let e : m + n + over (weight_of t l) ks ≡ m + (n + over (weight_of t l) ks) = omega arith in
      subst (Exactly (foldl (λ a c. merge s a (child t l c)) (merge s a (child t l c)) ks)) e r

  pub gather_exact : (ks : List ℕ) → ((c : ℕ) → 0 < occurs c ks → IsExact (child t l c)) → over (weight_of t l) ks ≤ most
      → Exactly (gathered s t l ks) (over (weight_of t l) ks)
  unfolding gathered
  gather_exact ks hc h =
      let e : 0 + over (weight_of t l) ks ≡ over (weight_of t l) ks = omega arith in
      subst (Exactly (foldl (λ a c. merge s a (child t l c)) blank ks)) e (fold_exact ks blank 0 blank_exact hc (omega arith))

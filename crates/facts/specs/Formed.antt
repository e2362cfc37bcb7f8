-- Whether an account names the right rows, as a test that computes: an account whose entries are made of their rows passes it.
use Prim.Native.Nat.{ℕ, zero, suc, ◌+◌, ◌≤◌, ◌<◌}
use Rattle.std.specs.Prelude.{◌≡◌, ◌⊎◌, ◌≢◌, Bool, true, false, cond, List, [], ◌∷◌, eqb, length, get_or}
use Rattle.std.proofs.Math.Path.{refl, sym, ap}
use Rattle.std.proofs.Common.{◌∙◌, inl, inr, not-suc-le-zero, le_of_suc-le-suc}
use native.Mathlib.Omega.{arith}
use Rattle.feature.specs.Summaries.{blank}
use Rattle.feature.specs.Weights.{blank_weight, pushed_weight, merged-none, merged_copy, zero_low}
use Rattle.head.specs.declared.Settings.{Settings}
use Rattle.rules.specs.Lists.{every, up_from, occurs}
use Rattle.rules.specs.Tree.{Tree, push, merge, entry_at, row_count}
use Rattle.rules.specs.Histories.{summary_seen}
use Rattle.counting.specs.Count.{is, is_same, is_other, is_eq, same?, lt?, eq_test, is_le}
use Rattle.counting.specs.Sums.{occurs-cons, occurs_here}
use Rattle.promises.specs.Demand.{Origin, called, origin_at, owns, Made, empty, taking, lent, joining, alike, behind}
use Rattle.promises.specs.Ownership.Made.{AllMade, owns_none}
use Rattle.facts.specs.Spared.{same_numbers, numbers-same, every-below}
use Rattle.counting.specs.Places.{get_occurs}
use Rattle.feature.specs.declared.Summary.{Summary}
use Rattle.binary64.specs.Whole.{most, whole}

-- what is made of one row alone: a call's row pushed into an empty summary, or a lent entry as it came
unfoldable pub alone : Settings → Origin → Summary
alone s (called x) = push s x blank
alone s (behind e k) = e

-- at each place whose owner owns no other, that entry is made of the row there alone
unfoldable pub formed : Settings → List Origin → Tree → List ℕ → Bool
formed s ys t a =
    every (λ i. cond (eqb (occurs (get_or a i 0) a) 1) (same_numbers (summary_seen s (entry_at t (get_or a i 0))) (summary_seen s (alone s (origin_at ys i)))) true)
    (up_from (length a) 0)

-- ---- what is made of no row, and of one

up_here : (n i : ℕ) → 0 < n → 0 < occurs i (up_from n i)
unfolding up_from
up_here zero i h = absurd (omega arith)
up_here (suc n) i h = occurs_here i (up_from n (suc i))

unused : {s : Settings} {ys : List Origin} {e : Summary} {p : ℕ → ℕ} → Made s ys e p → ((k : ℕ) → p k ≡ 0) → e ≡ blank
unused empty h = refl
unused (taking i x o m) h = let q = h i in let r = is_same i i refl in absurd (omega arith)
unused (lent e i pos at) h = let q = h i in let r = up_here (row_count e) i pos in absurd (omega arith)
unused {s} (joining {e} {f} m n) h =
    ap (λ x. merge s x f) (unused m (λ k. let q = h k in omega arith))
    ∙ ap (λ x. merge s blank x) (unused n (λ k. let q = h k in omega arith)) ∙ merged-none s.feature s.dim blank blank blank_weight
unused (alike m h) k = unused m (λ i. sym (h i) ∙ k i)

-- what is behind a lent entry is a count of rows
abbrev pub Counted : List Origin → Type 0
Counted ys = (i : ℕ) → i < length ys → (e : Summary) (k : ℕ) → origin_at ys i ≡ behind e k → (b : ℕ) × (suc b ≤ most) × (e.weight ≡ whole (suc b))

-- so one row alone weighs something, and an empty summary that takes it over becomes it
taken-over : (s : Settings) (ys : List Origin) → Counted ys → (i : ℕ) → i < length ys → merge s blank (alone s (origin_at ys i)) ≡ alone s (origin_at ys i)
taken-over s ys n i h = go (origin_at ys i) refl
  where
    go : (o : Origin) → origin_at ys i ≡ o → merge s blank (alone s o) ≡ alone s o
    go (called x) e =
        unfold alone in merged_copy s.feature s.dim blank (push s x blank) 0 (omega arith) (zero_low blank_weight)
        (pushed_weight s.feature s.dim blank x 0 (omega arith) blank_weight)
    go (behind f k) e = let (b, few, is) = n i h f k e in unfold alone in merged_copy s.feature s.dim blank f b few (zero_low blank_weight) is

module _ {s : Settings} {ys : List Origin} (n : Counted ys) (i : ℕ) (inn : i < length ys) where
  -- one row used once, and merges with nothing
  single : {e : Summary} {p : ℕ → ℕ} → Made s ys e p → ((k : ℕ) → p k ≡ is k i) → e ≡ alone s (origin_at ys i)
  unfolding alone
  single empty h = let q = h i in let r = is_same i i refl in absurd (omega arith)
  single (taking {e} j x o m) h =
      let q = h j in
      let r = is_same j j refl in
      let same : j ≡ i = is_eq j i (omega arith) in
      ap (λ c. push s x c) (unused m (λ k. let p = h k in let z : is k j ≡ is k i = ap (λ x. is k x) same in omega arith))
      ∙ sym (ap (alone s) (ap (origin_at ys) (sym same) ∙ o))
  single (lent e j pos at) h =
      let q = h j in
      let r = up_here (row_count e) j pos in
      let same : j + 0 ≡ i = (let z : j + 0 ≡ j = omega arith in z) ∙ is_eq j i (let b = is_le j i in omega arith) in
      sym (ap (alone s) (ap (origin_at ys) (sym same) ∙ at 0 pos))
  single (joining {e} {f} {p} {q} m w) h = go (lt? 0 (p i)) (λ f. single m f) (λ f. single w f)
    where
      one : is i i ≡ 1
      one = is_same i i refl

      go : (0 < p i) ⊎ (p i ≤ 0) → (((k : ℕ) → p k ≡ is k i) → e ≡ alone s (origin_at ys i))
          → (((k : ℕ) → q k ≡ is k i) → f ≡ alone s (origin_at ys i)) → merge s e f ≡ alone s (origin_at ys i)
      go (inl o) first second =
          ap (λ x. merge s e x) (unused w (λ k. none k (same? k i))) ∙ merged-none s.feature s.dim e blank blank_weight
          ∙ first (λ k. let x = h k in let y = none k (same? k i) in omega arith)
        where
          none : (k : ℕ) → (k ≡ i) ⊎ (k ≢ i) → q k ≡ 0
          none k (inl e) = let x = h i in let y = one in let z : q k ≡ q i = ap q e in omega arith
          none k (inr e) = let x = h k in let z = is_other k i e in omega arith
      go (inr o) first second =
          let is = second (λ k. let x = h k in let y = none k (same? k i) in omega arith) in
          ap (λ x. merge s x f) (unused m (λ k. none k (same? k i))) ∙ ap (λ x. merge s blank x) is ∙ taken-over s ys n i inn
        where
          none : (k : ℕ) → (k ≡ i) ⊎ (k ≢ i) → p k ≡ 0
          none k (inl e) = let z : p k ≡ p i = ap p e in omega arith
          none k (inr e) = let x = h k in let z = is_other k i e in omega arith
  single (alike m e) h = single m (λ k. sym (e k) ∙ h k)

-- ---- an owner of one row owns its place alone

owns_sole : (a : List ℕ) (i : ℕ) → i < length a → occurs (get_or a i 0) a ≡ 1 → (k : ℕ) → owns a (get_or a i 0) k ≡ is k i
unfolding owns
owns_sole [] i h o k = absurd (not-suc-le-zero h)
owns_sole (d ∷ a) zero h o zero = is_same d d refl ∙ sym (is_same 0 0 refl)
owns_sole (d ∷ a) zero h o (suc k) =
    (unfold owns in owns_none a d k (let p = occurs-cons d d a in let q = is_same d d refl in omega arith)) ∙ sym (is_other (suc k) 0 (λ e. clash e))
  where
    clash : suc k ≡ 0 → ⊥
    clash e = omega arith
owns_sole (d ∷ a) (suc i) h o zero =
    let p = occurs-cons (get_or a i 0) d a in
    let q = get_occurs a i 0 (le_of_suc-le-suc h) in
    let r = is_other 0 (suc i) (λ e. clash e) in
    omega arith
  where
    clash : 0 ≡ suc i → ⊥
    clash e = omega arith
owns_sole (d ∷ a) (suc i) h o (suc k) = owns_sole a i (le_of_suc-le-suc h) only k ∙ up (same? k i)
  where
    only : occurs (get_or a i 0) a ≡ 1
    only = let p = occurs-cons (get_or a i 0) d a in let q = get_occurs a i 0 (le_of_suc-le-suc h) in omega arith

    up : (k ≡ i) ⊎ (k ≢ i) → is k i ≡ is (suc k) (suc i)
    up (inl e) = is_same k i e ∙ sym (is_same (suc k) (suc i) (ap suc e))
    up (inr e) = is_other k i e ∙ sym (is_other (suc k) (suc i) (λ z. e (down z)))
      where
        down : suc k ≡ suc i → k ≡ i
        down z = omega arith

pub made-formed : (s : Settings) (ys : List Origin) (t : Tree) (a : List ℕ) → length a ≡ length ys → Counted ys → AllMade s ys (entry_at t) a → formed s ys t a ≡ true
unfolding formed
made-formed s ys t a len counts m =
    every-below
    (λ i. cond (eqb (occurs (get_or a i 0) a) 1) (same_numbers (summary_seen s (entry_at t (get_or a i 0))) (summary_seen s (alone s (origin_at ys i)))) true)
    (length a) 0 each
  where
    each : (i : ℕ) → i < 0 + length a
        → cond (eqb (occurs (get_or a i 0) a) 1) (same_numbers (summary_seen s (entry_at t (get_or a i 0))) (summary_seen s (alone s (origin_at ys i)))) true ≡ true
    each i h = go (eqb (occurs (get_or a i 0) a) 1) refl
      where
        go : (b : Bool) → eqb (occurs (get_or a i 0) a) 1 ≡ b
            → cond b (same_numbers (summary_seen s (entry_at t (get_or a i 0))) (summary_seen s (alone s (origin_at ys i)))) true ≡ true
        go false e = refl
        go true e =
            let o = get_occurs a i 0 (omega arith) in
            let p = m (get_or a i 0) o in
            let q = owns_sole a i (omega arith) ((eq_test (occurs (get_or a i 0) a) 1 true e).0 refl) in
            ap (λ c. same_numbers (summary_seen s c) (summary_seen s (alone s (origin_at ys i))))
            (single counts i (omega arith) p q)
            ∙ numbers-same (summary_seen s (alone s (origin_at ys i)))

-- Makings: what keeps each owner of rows made of just these rows, when a row comes and when two are merged.
use Rattle.std.specs.Prelude.{ℕ, zero, suc, ◌+◌, ◌≤◌, ◌<◌, ◌≡◌, ◌⊎◌, ◌≢◌, length, get_or, Float}
use Rattle.std.proofs.Math.Path.{refl}
use Rattle.std.proofs.Common.{sym, ap, ◌∙◌, subst, inl, inr}
use mathlib.Core.List.{List, [], ◌∷◌, map}
use native.Mathlib.Omega.{arith}
use Rattle.std.proofs.lemmas.List.{length-map}
use Rattle.feature.specs.declared.Summary.{Summary}
use Rattle.feature.specs.Summaries.{blank}
use Rattle.head.specs.declared.Settings.{Settings}
use Rattle.rules.specs.Lists.{snoc, occurs}
use Rattle.rules.specs.Tree.{push, row_count}
use Rattle.promises.specs.Demand.{Origin, called, behind, origin_at, owns, Made, empty, taking, lent, joining, alike}
use Rattle.laws.specs.Invariant.Weights.{exact_count, blank_exact}
use Rattle.counting.specs.Count.{is, is_same, is_other, same?, lt?}
use Rattle.counting.specs.Sums.{occurs_here, occurs_later}
use Rattle.counting.specs.Lists.{snoc-at, snoc_off, past_end}

-- each owner of a row, of the entries E, is made of the rows that the account gives it, each pushed once, and of no others
abbrev pub AllMade : Settings → List Origin → (ℕ → Summary) → List ℕ → Type 0
AllMade s ys E a = (c : ℕ) → 0 < occurs c a → Made s ys (E c) (owns a c)

-- ---- places

-- what is the same for every owner is the same at every place
pub map_same : (g h : ℕ → ℕ) (a : List ℕ) → ((c : ℕ) → 0 < occurs c a → g c ≡ h c) → map g a ≡ map h a
map_same g h [] e = refl
map_same g h (c ∷ a) e = ap (λ n. n ∷ map g a) (e c (occurs_here c a)) ∙ ap (λ l. h c ∷ l) (map_same g h a (λ d o. e d (occurs_later d c a o)))

-- a sum, place by place
pub at_plus : (g h : ℕ → ℕ) (a : List ℕ) (i : ℕ) → get_or (map (λ c. g c + h c) a) i 0 ≡ get_or (map g a) i 0 + get_or (map h a) i 0
at_plus g h [] i = refl
at_plus g h (c ∷ a) zero = refl
at_plus g h (c ∷ a) (suc i) = at_plus g h a i

-- one more at the end, mapped
pub map_snoc : {A B : Type 0} (g : A → B) (a : List A) (c : A) → map g (snoc a c) ≡ snoc (map g a) (g c)
unfolding snoc
map_snoc g [] c = refl
map_snoc g (d ∷ a) c = ap (λ l. g d ∷ l) (map_snoc g a c)

-- past the end of the account there is no row to own
owns_past : (a : List ℕ) (c i : ℕ) → length a ≤ i → owns a c i ≡ 0
unfolding owns
owns_past a c i h = past_end (map (is c) a) 0 i (let q = length-map a (is c) in omega arith)

-- the new place is its taker's
snoc_last : (a : List ℕ) (c d i : ℕ) → i ≡ length a → owns (snoc a d) c i ≡ is c d
unfolding owns
snoc_last a c d i e =
    ap (λ l. get_or l i 0) (map_snoc (is c) a d) ∙ ap (λ k. get_or (snoc (map (is c) a) (is c d)) k 0) (e ∙ sym (length-map a (is c)))
    ∙ snoc-at (map (is c) a) (is c d) 0

-- the places before it are as they were
snoc-before : (a : List ℕ) (c d i : ℕ) → i ≢ length a → owns (snoc a d) c i ≡ owns a c i
unfolding owns
snoc-before a c d i e =
    ap (λ l. get_or l i 0) (map_snoc (is c) a d) ∙ snoc_off (map (is c) a) (is c d) 0 i (λ z. e (z ∙ length-map a (is c)))

-- a row more: its taker owns the new place too
owns-taken : (a : List ℕ) (c d i : ℕ) → c ≡ d → owns (snoc a d) c i ≡ is i (length a) + owns a c i
owns-taken a c d i q = go (same? i (length a))
  where
    go : (i ≡ length a) ⊎ (i ≢ length a) → owns (snoc a d) c i ≡ is i (length a) + owns a c i
    go (inl e) =
        let x = snoc_last a c d i e in let y = is_same c d q in let z = is_same i (length a) e in let w = owns_past a c i (omega arith) in omega arith
    go (inr e) = let x = snoc-before a c d i e in let z = is_other i (length a) e in omega arith

-- and every other entry what it owned
owns_other : (a : List ℕ) (c d i : ℕ) → c ≢ d → owns (snoc a d) c i ≡ owns a c i
owns_other a c d i q = go (same? i (length a))
  where
    go : (i ≡ length a) ⊎ (i ≢ length a) → owns (snoc a d) c i ≡ owns a c i
    go (inl e) = let x = snoc_last a c d i e in let y = is_other c d q in let w = owns_past a c i (omega arith) in omega arith
    go (inr e) = snoc-before a c d i e

-- who owns no row owns none at any place
pub owns_none : (a : List ℕ) (c i : ℕ) → occurs c a ≡ 0 → owns a c i ≡ 0
unfolding owns
owns_none a c i e =
    ap (λ l. get_or l i 0) (map_same (is c) (λ _. 0) a (λ d o. is_other c d (λ z. clash d o z))) ∙ zeros a i
  where
    clash : (d : ℕ) → 0 < occurs d a → c ≡ d → ⊥
    clash d o z = let q : occurs c a ≡ occurs d a = ap (λ n. occurs n a) z in omega arith

    zeros : (a : List ℕ) (i : ℕ) → ◌≡◌ {A = ℕ} (get_or (map (λ _. 0) a) i 0) 0
    zeros [] i = refl
    zeros (d ∷ a) zero = refl
    zeros (d ∷ a) (suc i) = zeros a i

-- ---- steps of a making

-- the same summary and the same places, said otherwise
pub made_as : {s : Settings} {ys : List Origin} (e f : Summary) (p q : ℕ → ℕ) → Made s ys e p → e ≡ f → ((i : ℕ) → q i ≡ p i) → Made s ys f q
made_as {s} {ys} e f p q m h k = subst (λ z. Made s ys z q) h (alike m k)

-- a row of a call stands for itself, one behind an entry for as many as the entry weighs
unfoldable stands_for : Origin → ℕ
stands_for (called x) = 1
stands_for (behind e k) = row_count e

-- what something is made of stands before the end
origin_in : (ys : List Origin) (i : ℕ) (o : Origin) → origin_at ys i ≡ o → 0 < stands_for o → i < length ys
unfolding origin_at
origin_in ys i o e h = go (lt? i (length ys))
  where
    none : stands_for (behind blank 0) ≡ 0
    none = unfold stands_for in exact_count blank 0 blank_exact

    go : (i < length ys) ⊎ (length ys ≤ i) → i < length ys
    go (inl l) = l
    go (inr l) =
        let q : stands_for o ≡ 0 = ap stands_for (sym e ∙ past_end ys (behind blank 0) i l) ∙ none in
        absurd (omega arith)

-- so it stays at its place when more rows come
origin_kept : (ys : List Origin) (z : Origin) (i : ℕ) (o : Origin) → origin_at ys i ≡ o → 0 < stands_for o → origin_at (snoc ys z) i ≡ o
unfolding origin_at
origin_kept ys z i o e h = snoc_off ys z (behind blank 0) i (λ q. clash q) ∙ e
  where
    clash : i ≡ length ys → ⊥
    clash q = let l = origin_in ys i o (unfold origin_at in e) h in omega arith

-- and what was made of the rows so far is still made so
made_kept : {s : Settings} {ys : List Origin} {e : Summary} {p : ℕ → ℕ} (z : Origin) → Made s ys e p → Made s (snoc ys z) e p
unfolding stands_for
made_kept z empty = empty
made_kept {s} {ys} z (taking i x o m) = taking i x (origin_kept ys z i (called x) o (omega arith)) (made_kept z m)
made_kept {s} {ys} z (lent e i pos at) = lent e i pos (λ k h. origin_kept ys z (i + k) (behind e k) (at k h) pos)
made_kept z (joining m n) = joining (made_kept z m) (made_kept z n)
made_kept z (alike m h) = alike (made_kept z m) h

-- a call's row came, and was pushed
made_row : {s : Settings} {ys : List Origin} {e : Summary} {p : ℕ → ℕ} (x : List Float) → Made s ys e p
    → Made s (snoc ys (called x)) (push s x e) (λ i. is i (length ys) + p i)
made_row {s} {ys} x m = taking (length ys) x (unfold origin_at in snoc-at ys (called x) (behind blank 0)) (made_kept (called x) m)

-- among rows of calls nothing stands behind an entry: what is made of them is made without lent entries
pub none-behind : (xs : List (List Float)) (i : ℕ) (e : Summary) (k : ℕ) → 0 < row_count e → origin_at (map called xs) i ≡ behind e k → ⊥
unfolding origin_at
none-behind [] i e k pos q =
    let z : stands_for (behind e k) ≡ row_count e = unfold stands_for in refl in let l = origin_in [] i (behind e k) (unfold origin_at in q) (omega arith) in omega arith
none-behind (x ∷ xs) zero e k pos q = let z : ◌≡◌ {A = ℕ} 0 1 = cc in omega arith
none-behind (x ∷ xs) (suc i) e k pos q = none-behind xs i e k pos (unfold origin_at in q)

-- ---- a row more, whoever takes it

-- an entry that owns nothing yet is empty
pub blank-made : {s : Settings} {ys : List Origin} (a : List ℕ) (c : ℕ) → occurs c a ≡ 0 → Made s ys blank (owns a c)
blank-made a c e = alike empty (λ i. owns_none a c i e)

module _ {s : Settings} (ys : List Origin) (x : List Float) (a : List ℕ) (len : length a ≡ length ys) where
  -- the taker d: the row at the new place is pushed into it
  pub taker-made : (c d : ℕ) (e : Summary) → c ≡ d → Made s ys e (owns a c) → Made s (snoc ys (called x)) (push s x e) (owns (snoc a d) c)
  taker-made c d e q m = alike (made_row x m) (λ i. owns-taken a c d i q ∙ ap (λ n. is i n + owns a c i) len)

  -- any other entry is as it was
  pub other_made : (c d : ℕ) (e : Summary) → c ≢ d → Made s ys e (owns a c) → Made s (snoc ys (called x)) e (owns (snoc a d) c)
  other_made c d e q m = alike (made_kept (called x) m) (λ i. owns_other a c d i q)

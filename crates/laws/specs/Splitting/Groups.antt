-- A split's two groups: neither is empty, and each member of the list goes to one of them.
use Prim.Native.Nat.{ℕ, zero, suc, ◌+◌, ◌≤◌, ◌<◌}
use Rattle.std.specs.Prelude.{◌≡◌, refl, Bool, true, false, not, length, get_or, Float}
use Rattle.std.proofs.Common.{ap, ◌∙◌, subst, true≢false, le_of_suc-le-suc, not-suc-le-zero}
use Rattle.std.proofs.lemmas.Bool.{false≢true}
use mathlib.Core.List.{List, [], ◌∷◌, map}
use Rattle.std.proofs.Math.Nat.{lt_irrefl}
use native.Mathlib.Omega.{arith}
use borrow.Author.Tests.{eq-eqb, ne_eqb}
use Rattle.std.proofs.lemmas.List.{length-map}
use Rattle.std.specs.Float.Ieee.{lt}
use Rattle.binary64.specs.Operators.{f0}
use Rattle.feature.specs.declared.Summary.{Summary}
use Rattle.feature.specs.Summaries.{blank}
use Rattle.head.specs.declared.Settings.{Settings}
use Rattle.rules.specs.Lists.{keep, flip}
use Rattle.rules.specs.Tree.{Tree, node_at, child, dist_between}
use Rattle.rules.specs.Split.{Seeds, seeds, farther, seeds_with, seeds_from, side, plus_if, sides, sides_by, stays}
use Rattle.counting.specs.Count.{either}
use Rattle.counting.specs.Sums.{over, over-keep}

module _ {A : Type 0} where
  -- a flag that is up keeps its element
  keep_some : (bs : List Bool) (p : ℕ) (l : List A) → p < length l → get_or bs p false ≡ true → 0 < length (keep bs l)
  unfolding keep
  keep_some bs p [] h e = absurd (not-suc-le-zero h)
  keep_some [] p (x ∷ l) h e = absurd (false≢true e)
  keep_some (true ∷ bs) p (x ∷ l) h e = omega arith
  keep_some (false ∷ bs) zero (x ∷ l) h e = absurd (false≢true e)
  keep_some (false ∷ bs) (suc p) (x ∷ l) h e = keep_some bs p l (le_of_suc-le-suc h) e

flip-at : (bs : List Bool) (p : ℕ) → p < length bs → get_or bs p false ≡ false → get_or (flip bs) p false ≡ true
unfolding flip
flip-at [] p h e = absurd (not-suc-le-zero h)
flip-at (true ∷ bs) zero h e = absurd (true≢false e)
flip-at (false ∷ bs) zero h e = refl
flip-at (true ∷ bs) (suc p) h e = flip-at bs p (le_of_suc-le-suc h) e
flip-at (false ∷ bs) (suc p) h e = flip-at bs p (le_of_suc-le-suc h) e

-- ---- the flags

abbrev Chooser : Type 0
Chooser = ℕ → ℕ → ℕ → Summary → Bool

sides-length : (f : Chooser) (i n m : ℕ) (cs : List Summary) → length (sides f i n m cs) ≡ length cs
unfolding sides
sides-length f i n m [] = refl
sides-length f i n m (c ∷ cs) = ap suc (sides-length f (suc i) (plus_if (f i n m c) n) (plus_if (not (f i n m c)) m) cs)

-- where the choice at a place q is v whatever the groups, the flag at q is v
sides-at : (f : Chooser) (v : Bool) (q i n m p : ℕ) (cs : List Summary) → i + p ≡ q → p < length cs → ((n m : ℕ) (c : Summary) → f q n m c ≡ v)
    → get_or (sides f i n m cs) p false ≡ v
unfolding sides
sides-at f v q i n m p [] e h k = absurd (not-suc-le-zero h)
sides-at f v q i n m zero (c ∷ cs) e h k =
    let iq : i ≡ q = omega arith in
    ap (λ j. f j n m c) iq ∙ k n m c
sides-at f v q i n m (suc p) (c ∷ cs) e h k =
    sides-at f v q (suc i) (plus_if (f i n m c) n) (plus_if (not (f i n m c)) m) p cs (omega arith) (le_of_suc-le-suc h) k

-- ---- the seeds are two places of the list

abbrev Two : ℕ → Seeds → Type 0
Two n (seeds a b m) = (a < b) × (b < n)

farther_two : (n : ℕ) (u : Seeds) (i j : ℕ) (d : Float) → Two n u → i < j → j < n → Two n (farther u i j d)
unfolding farther
farther_two n (seeds a b m) i j d h hi hj = either (Two n) (lt m d) (seeds i j d) (seeds a b m) (hi, hj) h

module _ (s : Settings) (n : ℕ) where
  with_two : (i : ℕ) (a : Summary) (j : ℕ) (cs : List Summary) (u : Seeds) → Two n u → i < j → j + length cs ≤ n → Two n (seeds_with s i a j cs u)
  unfolding seeds_with
  with_two i a j [] u h hi hj = h
  with_two i a j (c ∷ cs) u h hi hj =
      with_two i a (suc j) cs (farther u i j (dist_between s a c)) (farther_two n u i j (dist_between s a c) h hi (omega arith)) (omega arith) (omega arith)

  from_two : (i : ℕ) (cs : List Summary) (u : Seeds) → Two n u → i + length cs ≤ n → Two n (seeds_from s i cs u)
  unfolding seeds_from
  from_two i [] u h hi = h
  from_two i (c ∷ cs) u h hi = from_two (suc i) cs (seeds_with s i c (suc i) cs u) (with_two i c (suc i) cs u h (omega arith) (omega arith)) (omega arith)

-- ---- so each group has its seed

module _ (s : Settings) (a b : ℕ) (c d : Summary) where
  side_first : (n m : ℕ) (e : Summary) → side s a b c d a n m e ≡ true
  unfolding side
  side_first n m e = rw (eq-eqb a a refl)

  side_second : a < b → (n m : ℕ) (e : Summary) → side s a b c d b n m e ≡ false
  unfolding side
  side_second h n m e = rw (ne_eqb b a (λ z. lt_irrefl a (subst (λ x. a < x) z h)), eq-eqb b b refl)

both_groups : {A : Type 0} (s : Settings) (u : Seeds) (cs : List Summary) (l : List A) → Two (length cs) u → length cs ≡ length l
    → (length (sides_by s u cs) ≡ length l) × (0 < length (keep (sides_by s u cs) l)) × (0 < length (keep (flip (sides_by s u cs)) l))
unfolding sides_by
both_groups s (seeds a b m) cs l h e =
    let f : Chooser = side s a b (get_or cs a blank) (get_or cs b blank) in
    let n = sides-length f 0 0 0 cs in
    let at_a : get_or (sides f 0 0 0 cs) a false ≡ true =
    sides-at f true a 0 0 0 a cs (omega arith) (omega arith) (side_first s a b (get_or cs a blank) (get_or cs b blank)) in
    let at_b : get_or (sides f 0 0 0 cs) b false ≡ false =
    sides-at f false b 0 0 0 b cs (omega arith) (omega arith) (side_second s a b (get_or cs a blank) (get_or cs b blank) h.0) in (
      n ∙ e,
      keep_some (sides f 0 0 0 cs) a l (omega arith) at_a,
      keep_some (flip (sides f 0 0 0 cs)) b l (omega arith)
          (flip-at (sides f 0 0 0 cs) b (omega arith) at_b),
    )

abbrev pub stay_list : Settings → Tree → ℕ → List ℕ
stay_list s t i = keep (stays s t (node_at t i)) (node_at t i).list

abbrev pub move_list : Settings → Tree → ℕ → List ℕ
move_list s t i = keep (flip (stays s t (node_at t i))) (node_at t i).list

-- a list parted in two
pub record TwoLists (l one two : List ℕ) : Type 0 where
  pub sums : (w : ℕ → ℕ) → over w one + over w two ≡ over w l
  pub one-some : 0 < length one
  pub two_some : 0 < length two

-- with two members or more
pub two_lists : (s : Settings) (t : Tree) (i : ℕ) → 1 < length (node_at t i).list → TwoLists (node_at t i).list (stay_list s t i) (move_list s t i)
unfolding stays
two_lists s t i h =
    let n = node_at t i in
    let cs : List Summary = map (child t n.leaf) n.list in
    let len : length cs ≡ length n.list = length-map n.list (child t n.leaf) in
    let u : Seeds = seeds_from s 0 cs (seeds 0 1 f0) in
    let r = both_groups s u cs n.list (from_two s (length cs) 0 cs (seeds 0 1 f0) (omega arith, omega arith) (omega arith)) len in
    record { sums = (λ w. over-keep w (sides_by s u cs) n.list r.0); one-some = r.1; two_some = r.2 }

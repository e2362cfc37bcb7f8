-- Sorting in place: a pair moves back past the cheaper ones, and the pairs from the last to the first do so.
use Prim.Native.Nat.{ℕ, zero, suc, ◌+◌, ◌-◌, ◌≤◌, ◌<◌}
use Rattle.std.specs.Prelude.{◌≡◌, true, false, Float, length, get_or, drop}
use Rattle.std.proofs.Math.Path.{refl, sym, ap, ap₂}
use Rattle.std.proofs.Common.{◌∙◌, add-one, drop_of_length-le, drop-cons, drop_at, length-take-le}
use mathlib.Core.List.{List, [], ◌∷◌, ◌++◌, append_assoc}
use native.Mathlib.Omega.{arith}
use Rattle.std.specs.Float.Ieee.{lt}
use Rattle.std.proofs.Math.ListN.{take}
use Rattle.rules.specs.declared.Pair.{Pair}
use Rattle.rules.specs.Lists.{change_at}
use Rattle.rules.specs.Pairs.{sort_in, sorted}
use Rattle.rules.specs.ListLaws.{table_at}
use Rattle.scratch.specs.Stored.{pair_at, pairs_in, length_pairs, Put, put_among}

module _ {A : Type 0} where
  -- an element put in place i
  pub put_parts : (l : List A) (i : ℕ) (a : A) → i < length l → change_at (λ _. a) i l ≡ take i l ++ (a ∷ drop (suc i) l)
  unfolding change_at
  put_parts (x ∷ l) zero a h = refl
  put_parts (x ∷ l) (suc i) a h = ap (λ m. x ∷ m) (put_parts l i a (omega arith))
  put_parts [] i a h = absurd (omega arith)

  length-put : (l : List A) (i : ℕ) (a : A) → length (change_at (λ _. a) i l) ≡ length l
  unfolding change_at
  length-put [] i a = refl
  length-put (x ∷ l) zero a = refl
  length-put (x ∷ l) (suc i) a = ap suc (length-put l i a)

  put_front : (l : List A) (i : ℕ) (a : A) → i < length l → take (suc i) (change_at (λ _. a) i l) ≡ take i l ++ (a ∷ [])
  unfolding change_at
  put_front (x ∷ l) zero a h = refl
  put_front (x ∷ l) (suc i) a h = ap (λ m. x ∷ m) (put_front l i a (omega arith))
  put_front [] i a h = absurd (omega arith)

  put_back : (l : List A) (i j : ℕ) (a : A) → i < j → drop j (change_at (λ _. a) i l) ≡ drop j l
  unfolding change_at
  put_back [] i j a h = refl
  put_back (x ∷ l) zero zero a h = absurd (omega arith)
  put_back (x ∷ l) zero (suc j) a h = refl
  put_back (x ∷ l) (suc i) zero a h = absurd (omega arith)
  put_back (x ∷ l) (suc i) (suc j) a h = put_back l i j a (omega arith)

-- ---- a pair moves back

-- the pairs with a gap at place i, and p to be put in from there on
unfoldable pub inserted_from : Pair → ℕ → List Pair → List Pair
inserted_from p i l = take i l ++ sort_in p (drop (suc i) l)

module _ (p q : Pair) (l : List Pair) (i : ℕ) (h : suc i < length l) (e : q ≡ get_or l (suc i) q) where
  next : drop (suc i) l ≡ q ∷ drop (suc (suc i)) l
  next = drop-cons l (suc i) q h ∙ ap (λ x. x ∷ drop (suc (suc i)) l) (sym e)

  -- a cheaper one comes forward
  pub insert_turn : lt q.cost p.cost ≡ true → inserted_from p (suc i) (change_at (λ _. q) i l) ≡ inserted_from p i l
  unfolding inserted_from sort_in
  insert_turn t =
      ap₂ (λ a b. a ++ sort_in p b) (put_front l i q (omega arith)) (put_back l i (suc (suc i)) q (omega arith))
      ∙ append_assoc (take i l) (q ∷ []) (sort_in p (drop (suc (suc i)) l))
      ∙ ap (λ b. take i l ++ b) (sym (ap (sort_in p) next ∙ rw (t, sort_in)))

  -- before one that is not cheaper
  pub insert_stop : lt q.cost p.cost ≡ false → change_at (λ _. p) i l ≡ inserted_from p i l
  unfolding inserted_from sort_in
  insert_stop t = put_parts l i p (omega arith) ∙ ap (λ b. take i l ++ b) (ap (λ m. p ∷ m) next ∙ sym (ap (sort_in p) next ∙ rw (t, sort_in)))

-- behind all
pub insert_end : (p : Pair) (l : List Pair) (i : ℕ) → i < length l → length l ≤ suc i → change_at (λ _. p) i l ≡ inserted_from p i l
unfolding inserted_from sort_in
insert_end p l i h g =
    let none : drop (suc i) l ≡ [] = drop_of_length-le l {i = suc i} g in
    put_parts l i p h ∙ ap (λ b. take i l ++ b) (ap (λ m. p ∷ m) none ∙ sym (ap (sort_in p) none))

-- ---- the same in scratch, n pairs in all

module _ (cs : List Float) (ns : List ℕ) (n i : ℕ) (p : Pair) where
  read : (q : Pair) (j : ℕ) → j < n → q ≡ pair_at cs ns j → q ≡ get_or (pairs_in cs ns n) j q
  unfolding pairs_in
  read q j h e = e ∙ sym (table_at (pair_at cs ns) n j q h)

  pub moved : {cs' : List Float} {ns' : List ℕ} (q : Pair) → i + 1 < n → q ≡ pair_at cs ns (i + 1) → lt q.cost p.cost ≡ true → Put i q cs ns cs' ns'
      → inserted_from p (i + 1) (pairs_in cs' ns' n) ≡ inserted_from p i (pairs_in cs ns n)
  moved q h e t w =
      let one = add-one i in
      let l = length_pairs cs ns n in
      ap₂ (λ k m. inserted_from p k m) one (put_among w n (omega arith))
      ∙ insert_turn p q (pairs_in cs ns n) i (omega arith) (read q (suc i) (omega arith) (e ∙ ap (pair_at cs ns) one)) t

  pub stopped : {cs' : List Float} {ns' : List ℕ} (q : Pair) → i + 1 < n → q ≡ pair_at cs ns (i + 1) → lt q.cost p.cost ≡ false → Put i p cs ns cs' ns'
      → pairs_in cs' ns' n ≡ inserted_from p i (pairs_in cs ns n)
  stopped q h e t w =
      let l = length_pairs cs ns n in
      put_among w n (omega arith)
      ∙ insert_stop p q (pairs_in cs ns n) i (omega arith) (read q (suc i) (omega arith) (e ∙ ap (pair_at cs ns) (add-one i))) t

  pub ended : {cs' : List Float} {ns' : List ℕ} → i < n → n ≤ i + 1 → Put i p cs ns cs' ns' → pairs_in cs' ns' n ≡ inserted_from p i (pairs_in cs ns n)
  ended h g w = let l = length_pairs cs ns n in put_among w n h ∙ insert_end p (pairs_in cs ns n) i (omega arith) (omega arith)

-- ---- all pairs, from the last to the first

-- those from place i on are sorted
unfoldable pub sorted_from : ℕ → List Pair → List Pair
sorted_from i l = take i l ++ sorted (drop i l)

pub sorted_start : (l : List Pair) → l ≡ sorted_from (length l) l
unfolding sorted_from sorted
sorted_start [] = refl
sorted_start (x ∷ l) = ap (λ m. x ∷ m) (sorted_start l)

pub sorted_end : (l : List Pair) → sorted_from 0 l ≡ sorted l
unfolding sorted_from
sorted_end l = refl

-- pair i goes in, and those from i on are sorted
pub sorted_turn : (i : ℕ) (l m : List Pair) (p : Pair) → i < length l → m ≡ sorted_from (suc i) l → p ≡ get_or m i p → inserted_from p i m ≡ sorted_from i l
unfolding sorted_from inserted_from sorted
sorted_turn i l m p h e q =
    let rest = sorted (drop (suc i) l) in
    let long : length (take (suc i) l) ≡ suc i = length-take-le (suc i) l h in
    let back : drop (suc i) m ≡ rest = ap (drop (suc i)) e ∙ drop_at (take (suc i) l) rest (suc i) long in
    let here : p ≡ get_or l i p = q ∙ ap (λ x. get_or x i p) e ∙ get_d_less i l rest p h in
    ap₂ (λ a b. a ++ sort_in p b) (ap (take i) e ∙ take_less i l rest h) back
    ∙ ap (λ b. take i l ++ b) (sym (ap sorted (drop-cons l i p h ∙ ap (λ x. x ∷ drop (suc i) l) (sym here))))
  where
    take_less : (i : ℕ) (l r : List Pair) → i < length l → take i (take (suc i) l ++ r) ≡ take i l
    take_less i [] r h = absurd (omega arith)
    take_less zero (x ∷ l) r h = refl
    take_less (suc i) (x ∷ l) r h = ap (λ m. x ∷ m) (take_less i l r (omega arith))

    get_d_less : (i : ℕ) (l r : List Pair) (d : Pair) → i < length l → get_or (take (suc i) l ++ r) i d ≡ get_or l i d
    get_d_less i [] r d h = absurd (omega arith)
    get_d_less zero (x ∷ l) r d h = refl
    get_d_less (suc i) (x ∷ l) r d h = get_d_less i l r d (omega arith)

module _ (cs : List Float) (ns : List ℕ) (n : ℕ) where
  pub sort_start : pairs_in cs ns n ≡ sorted_from n (pairs_in cs ns n)
  sort_start = sorted_start (pairs_in cs ns n) ∙ ap (λ k. sorted_from k (pairs_in cs ns n)) (length_pairs cs ns n)

  -- the pair before those that are sorted goes in
  pub sort_turn : (i : ℕ) (l m : List Pair) → 0 < i → i ≤ n → length l ≡ n → pairs_in cs ns n ≡ sorted_from i l
      → m ≡ inserted_from (pair_at cs ns (i - 1)) (i - 1) (pairs_in cs ns n) → m ≡ sorted_from (i - 1) l
  unfolding pairs_in
  sort_turn i l m z h e q w =
      let j = i - 1 in
      let one : i ≡ suc j = omega arith in
      w ∙ sorted_turn j l (pairs_in cs ns n) (pair_at cs ns j) (omega arith) (q ∙ ap (λ k. sorted_from k l) one)
      (sym (table_at (pair_at cs ns) n j (pair_at cs ns j) (omega arith)))

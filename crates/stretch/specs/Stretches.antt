-- Lists that are written in stretches: what a lent part leaves, and what is read elsewhere.
use Rattle.std.specs.Prelude.{ℕ, suc, ◌+◌, ◌-◌, ◌*◌, ◌≤◌, ◌<◌, ◌≡◌, refl, ◌⊎◌}
use Rattle.std.proofs.Math.Path.{sym, ap}
use Rattle.std.proofs.Common.{◌∙◌, inl, inr, mul-le-mul_right, eq-or-lt_of_le, add-one, length-append, length-drop, take-append-drop, drop-cons, length-take-le, take_all, take-suc}
use Rattle.std.proofs.Math.Logic.{⊎_elim}
use mathlib.Core.List.{List, [], ◌∷◌, ◌++◌, append_assoc}
use native.Mathlib.Omega.{arith}
use Rattle.std.proofs.Math.ListN.{length, get_or, set, take, drop, length-take}
use Rattle.std.proofs.lemmas.List.{take-append-le, drop-append-le}
use Rattle.std.proofs.Math.Seq.{set_at, drop-append-add, take_at, drop_at, drop-drop, drop-length}
use Rattle.rules.specs.Slices.{stretch}
use Rattle.rules.specs.ListLaws.{below?}

-- two stretches of k, of other numbers, are apart
apart : (i j k : ℕ) → ¬ (j ≡ i) → (j * k + k ≤ i * k) ⊎ (i * k + k ≤ j * k)
apart i j k d =
    ⊎_elim (λ l. inl (omega (arith, mul-le-mul_right k l)))
    (λ g. ⊎_elim (λ e. absurd (d (sym e))) (λ l. inr (omega (arith, mul-le-mul_right k l))) (eq-or-lt_of_le g)) (below? j i)

-- stretch i of k is there where there is room for more than i
pub room : (i n k l : ℕ) → i < n → n * k ≤ l → i * k + k ≤ l
room i n k l h r = omega (arith, mul-le-mul_right k h)

-- the same by a width k that the code has worked out to be w
pub turn_room : (i n k w l : ℕ) → i < n → k ≡ w → n * w ≤ l → (i * k + k ≤ l) × (i * w ≤ l)
turn_room i n k w l h e r = let q = room i n w l h r in (rw e q, omega arith)

module _ {A : Type 0} where
  -- xs with ys in the place of the k elements from place a on
  unfoldable pub put_stretch : List A → ℕ → ℕ → List A → List A
  put_stretch xs a k ys = take a xs ++ (ys ++ drop k (drop a xs))

  -- what is lent of xs from its start to its end
  pub whole : (xs : List A) → take (length xs - 0) xs ≡ xs
  whole xs = take_all (length xs - 0) xs (omega arith)

  pub length-stretch : (xs : List A) (a k : ℕ) → a + k ≤ length xs → length (stretch xs a k) ≡ k
  unfolding stretch
  length-stretch xs a k h = simp (length-take, length-drop) (omega arith)

  pub stretch-same : (xs : List A) (a k : ℕ) (ys : List A) → a ≤ length xs → length ys ≡ k → stretch (put_stretch xs a k ys) a k ≡ ys
  unfolding stretch put_stretch
  stretch-same xs a k ys h e = ap (take k) (drop_at (take a xs) _ a (length-take-le a xs h)) ∙ take_at ys _ k e

  -- a stretch within the first list of two
  stretch_front : (p q : List A) (b m : ℕ) → b + m ≤ length p → take m (drop b (p ++ q)) ≡ take m (drop b p)
  stretch_front p q b m h =
      let h₁ : b ≤ length p = omega arith in
      let h₂ : m ≤ length (drop b p) = simp length-drop (omega arith) in
      rw (drop-append-le b p q h₁) (take-append-le m (drop b p) q h₂)

  -- a stretch of a front that holds it
  pub take-stretch : (l : List A) (n b m : ℕ) → b + m ≤ n → stretch (take n l) b m ≡ stretch l b m
  unfolding stretch
  take-stretch l n b m h =
      ⊎_elim (λ (q : n < length l).
      sym (ap (λ x. take m (drop b x)) (sym (take-append-drop n l)) ∙ stretch_front (take n l) (drop n l) b m (rw (length-take-le n l (omega arith)) h)))
      (λ q. ap (λ x. take m (drop b x)) (take_all n l q)) (below? n (length l))

  -- what is dropped is all of the first list of two
  drop_past : (p q : List A) (n b : ℕ) → length p ≡ n → n ≤ b → drop b (p ++ q) ≡ drop (b - n) q
  drop_past p q n b e h =
      let s : b ≡ length p + (b - n) = omega arith in
      ap (λ (m : ℕ). drop m (p ++ q)) s ∙ drop-append-add p q (b - n)

  stretch-before : (xs : List A) (a k : ℕ) (ys : List A) (b m : ℕ) → a ≤ length xs → b + m ≤ a → stretch (put_stretch xs a k ys) b m ≡ stretch xs b m
  unfolding stretch put_stretch
  stretch-before xs a k ys b m h l =
      let f : b + m ≤ length (take a xs) = simp length-take (omega arith) in
      stretch_front (take a xs) (ys ++ drop k (drop a xs)) b m f
      ∙ sym (ap (λ (l : List A). take m (drop b l)) (sym (take-append-drop a xs)) ∙ stretch_front (take a xs) (drop a xs) b m f)

  stretch-after : (xs : List A) (a k : ℕ) (ys : List A) (b m : ℕ) → a + k ≤ length xs → length ys ≡ k → a + k ≤ b
      → stretch (put_stretch xs a k ys) b m ≡ stretch xs b m
  unfolding stretch put_stretch
  stretch-after xs a k ys b m h e l =
      let f : length (take a xs ++ ys) ≡ a + k = simp (length-append, length-take) (omega arith) in
      let g : a + k + (b - (a + k)) ≡ b = omega arith in
      ap (λ (l : List A). take m (drop b l)) (sym (append_assoc (take a xs) ys (drop k (drop a xs))))
      ∙ ap (take m) (drop_past (take a xs ++ ys) (drop k (drop a xs)) (a + k) b f l
      ∙ ap (drop (b - (a + k))) (drop-drop k a xs)
      ∙ drop-drop (b - (a + k)) (a + k) xs
      ∙ ap (λ (n : ℕ). drop n xs) g)

  -- the list in stretches of k: what is read of another one after a write
  pub stretch_other : (xs : List A) (k i j : ℕ) (ys : List A) → i * k + k ≤ length xs → length ys ≡ k → ¬ (j ≡ i)
      → stretch (put_stretch xs (i * k) k ys) (j * k) k ≡ stretch xs (j * k) k
  stretch_other xs k i j ys h e d =
      ⊎_elim (λ l. stretch-before xs (i * k) k ys (j * k) k (omega arith) l) (λ l. stretch-after xs (i * k) k ys (j * k) k (omega arith) e l) (apart i j k d)

  -- the front known, a part behind it is put
  pub put_past : (xs ys zs : List A) (a k : ℕ) → length xs ≡ a → put_stretch (xs ++ ys) a k zs ≡ xs ++ (zs ++ drop k ys)
  unfolding put_stretch
  put_past xs ys zs a k e = rw (take_at xs ys a e, drop_at xs ys a e)

  pub append-none : (l : List A) → l ++ [] ≡ l
  append-none [] = refl
  append-none (x ∷ l) = ap (λ m. x ∷ m) (append-none l)

  -- all that is left dropped
  pub drop_end : (l : List A) (k : ℕ) → length l ≡ k → drop k l ≡ []
  drop_end l k e = ap (λ n. drop n l) (sym e) ∙ drop-length l

  -- all that is behind a front put anew
  pub put_rest : (xs ys zs : List A) (a k : ℕ) → length xs ≡ a → length ys ≡ k → put_stretch (xs ++ ys) a k zs ≡ xs ++ zs
  put_rest xs ys zs a k e f = put_past xs ys zs a k e ∙ ap (λ l. xs ++ (zs ++ l)) (drop_end ys k f) ∙ ap (λ l. xs ++ l) (append-none zs)

  -- ---- copies: l with its first i elements those of another list

  unfoldable pub copied_to : ℕ → List A → List A → List A
  copied_to i from l = take i from ++ drop i l

  pub copied_turn : (from l : List A) (i : ℕ) (d : A) → i < length from → i < length l → set (copied_to i from l) i (get_or from i d) ≡ copied_to (i + 1) from l
  unfolding copied_to
  copied_turn from l i d h k =
      let v = get_or from i d in
      ap (λ (m : List A). set (take i from ++ m) i v) (drop-cons l i d k)
      ∙ set_at (take i from) (get_or l i d) (drop (suc i) l) v i (length-take-le i from (omega arith))
      ∙ sym (append_assoc (take i from) (v ∷ []) (drop (suc i) l))
      ∙ ap (λ m. m ++ drop (suc i) l) (sym (take-suc from i d h))
      ∙ ap (λ n. take n from ++ drop n l) (sym (add-one i))

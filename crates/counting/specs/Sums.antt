-- How often a number stands in a list; sums over a list and over the numbers below n.
use Rattle.std.specs.Prelude.{ℕ, zero, suc, ◌+◌, ◌≤◌, ◌<◌, ◌≡◌, refl, ◌⊎◌, ◌≢◌, Bool, true, false, cond, List, [], ◌∷◌, ◌++◌, map, eqb, length}
use Rattle.std.proofs.Common.{sym, ap, ◌∙◌, subst, inl, inr, not-suc-le-zero, suc-ne-zero, lt_irrefl, arith}
use Rattle.std.proofs.Math.Nat.{suc_inj}
use Rattle.rules.specs.Lists.{keep, flip, snoc, occurs}
use Rattle.counting.specs.Count.{is, is_eq, is_other, same?, is_same, eq_test, lt?, bit}

-- ---- sums over a list

unfoldable pub over : (ℕ → ℕ) → List ℕ → ℕ
over w [] = 0
over w (c ∷ cs) = w c + over w cs

pub occurs-over : (i : ℕ) (l : List ℕ) → occurs i l ≡ over (is i) l
unfolding occurs over is
occurs-over i [] = refl
occurs-over i (j ∷ js) = go (eqb i j) (occurs-over i js)
  where
    go : (b : Bool) → occurs i js ≡ over (is i) js → cond b (suc (occurs i js)) (occurs i js) ≡ bit b + over (is i) js
    go true h = omega arith
    go false h = omega arith

pub occurs-cons : (i j : ℕ) (l : List ℕ) → occurs i (j ∷ l) ≡ is i j + occurs i l
unfolding over
occurs-cons i j l = let a = occurs-over i (j ∷ l) in let b = occurs-over i l in omega arith

pub occurs_here : (i : ℕ) (l : List ℕ) → 0 < occurs i (i ∷ l)
occurs_here i l = let a = occurs-cons i i l in let b = is_same i i refl in omega arith

pub occurs_later : (i j : ℕ) (l : List ℕ) → 0 < occurs i l → 0 < occurs i (j ∷ l)
occurs_later i j l o = let a = occurs-cons i j l in omega arith

-- what is in a list of one
pub occurs-only : (i j : ℕ) → 0 < occurs i (j ∷ []) → i ≡ j
unfolding occurs
occurs-only i j o = let a = occurs-cons i j [] in is_eq i j (omega arith)

pub over-append : (w : ℕ → ℕ) (l m : List ℕ) → over w (l ++ m) ≡ over w l + over w m
unfolding over
over-append w [] m = omega arith
over-append w (c ∷ l) m = let h = over-append w l m in omega arith

pub over-keep : (w : ℕ → ℕ) (bs : List Bool) (l : List ℕ) → length bs ≡ length l → over w (keep bs l) + over w (keep (flip bs) l) ≡ over w l
unfolding over keep flip
over-keep w [] [] h = refl
over-keep w [] (x ∷ l) h = absurd (suc-ne-zero (length l) (sym h))
over-keep w (b ∷ bs) [] h = absurd (suc-ne-zero (length bs) h)
over-keep w (true ∷ bs) (x ∷ l) h = let k = over-keep w bs l (suc_inj h) in omega arith
over-keep w (false ∷ bs) (x ∷ l) h = let k = over-keep w bs l (suc_inj h) in omega arith

pub length_over : (l : List ℕ) → length l ≡ over (λ _. 1) l
unfolding over
length_over [] = refl
length_over (c ∷ l) = let h = length_over l in omega arith

pub over-same : (v w : ℕ → ℕ) (l : List ℕ) → ((c : ℕ) → 0 < occurs c l → v c ≡ w c) → over v l ≡ over w l
unfolding over
over-same v w [] h = refl
over-same v w (c ∷ l) h =
    let a : v c ≡ w c = h c (occurs_here c l) in
    let b : over v l ≡ over w l = over-same v w l (λ d k. h d (occurs_later d c l k)) in
    omega arith

-- one element's weight changes
pub over_once : (v w : ℕ → ℕ) (i : ℕ) (l : List ℕ) → occurs i l ≡ 1 → ((c : ℕ) → 0 < occurs c l → c ≢ i → v c ≡ w c) → over v l + w i ≡ over w l + v i
unfolding over occurs
over_once v w i [] o h = absurd (suc-ne-zero 0 (sym o))
over_once v w i (c ∷ l) o h = go (same? c i) (λ x. over_once v w i l x (λ d k z. h d (occurs_later d c l k) z))
  where
    go : (c ≡ i) ⊎ (c ≢ i) → (occurs i l ≡ 1 → over v l + w i ≡ over w l + v i) → v c + over v l + w i ≡ w c + over w l + v i
    go (inl e) ih =
        let p : occurs i (c ∷ l) ≡ is i c + occurs i l = occurs-cons i c l in
        let q : is i c ≡ 1 = is_same i c (sym e) in
        let r : over v l ≡ over w l = over-same v w l (λ d k. h d (let p = occurs-cons d c l in omega arith)
        (λ z. lt_irrefl 0 (subst (λ x. 0 < x) (let y : occurs d l ≡ occurs i l = ap (λ m. occurs m l) z in omega arith) k))) in
        let a : v c ≡ v i = ap v e in
        let b : w c ≡ w i = ap w e in
        omega arith
    go (inr e) ih =
        let p : occurs i (c ∷ l) ≡ is i c + occurs i l = occurs-cons i c l in
        let q : is i c ≡ 0 = is_other i c (λ z. e (sym z)) in
        let a : v c ≡ w c = h c (occurs_here c l) e in
        let r : over v l + w i ≡ over w l + v i = ih (omega arith) in
        omega arith

-- ---- sums over the numbers below n

unfoldable pub sum_to : (ℕ → ℕ) → ℕ → ℕ
sum_to g zero = 0
sum_to g (suc n) = sum_to g n + g n

pub sum_same : (g h : ℕ → ℕ) (n : ℕ) → ((k : ℕ) → k < n → h k ≡ g k) → sum_to h n ≡ sum_to g n
unfolding sum_to
sum_same g h zero e = refl
sum_same g h (suc n) e = let a : h n ≡ g n = e n (omega arith) in let b : sum_to h n ≡ sum_to g n = sum_same g h n (λ k q. e k (omega arith)) in omega arith

pub sum-le : (g h : ℕ → ℕ) (n : ℕ) → ((k : ℕ) → k < n → g k ≤ h k) → sum_to g n ≤ sum_to h n
unfolding sum_to
sum-le g h zero q = omega arith
sum-le g h (suc n) q = let a = sum-le g h n (λ k l. q k (omega arith)) in let b = q n (omega arith) in omega arith

pub sum_ones : (n : ℕ) → sum_to (λ _. 1) n ≡ n
unfolding sum_to
sum_ones zero = refl
sum_ones (suc n) = let h = sum_ones n in omega arith

-- as much as there are numbers, none more than 1: each is 1
pub sum_full : (g : ℕ → ℕ) (n : ℕ) → ((k : ℕ) → k < n → g k ≤ 1) → sum_to g n ≡ n → (k : ℕ) → k < n → g k ≡ 1
unfolding sum_to
sum_full g zero h e k q = absurd (omega arith)
sum_full g (suc n) h e k q =
    let a = h n (omega arith) in
    let b = sum-le g (λ _. 1) n (λ j l. h j (omega arith)) in
    let d = sum_ones n in
    go (same? k n) (sum_full g n (λ j l. h j (omega arith)) (omega arith) k) (omega arith)
  where
    go : (k ≡ n) ⊎ (k ≢ n) → (k < n → g k ≡ 1) → g n ≡ 1 → g k ≡ 1
    go (inl w) ih one = ap g w ∙ one
    go (inr w) ih one = ih (omega arith)

pub sum-change : (g h : ℕ → ℕ) (i n : ℕ) → i < n → ((k : ℕ) → k < n → k ≢ i → h k ≡ g k) → sum_to h n + g i ≡ sum_to g n + h i
unfolding sum_to
sum-change g h i zero l e = absurd (not-suc-le-zero l)
sum-change g h i (suc n) l e = go (same? n i) (λ q. sum-change g h i n q (λ k x y. e k (omega arith) y))
  where
    go : (n ≡ i) ⊎ (n ≢ i) → (i < n → sum_to h n + g i ≡ sum_to g n + h i) → sum_to h n + h n + g i ≡ sum_to g n + g n + h i
    go (inl q) ih =
        let a : sum_to h n ≡ sum_to g n = sum_same g h n (λ k x. e k (omega arith) (λ y. lt_irrefl n (subst (λ z. z < n) (y ∙ sym q) x))) in
        let b : g n ≡ g i = ap g q in
        let d : h n ≡ h i = ap h q in
        omega arith
    go (inr q) ih =
        let a : h n ≡ g n = e n (omega arith) q in
        let b : sum_to h n + g i ≡ sum_to g n + h i = ih (omega arith) in
        omega arith

pub sum-at : (g : ℕ → ℕ) (i n : ℕ) → i < n → g i ≤ sum_to g n
unfolding sum_to
sum-at g i zero l = absurd (not-suc-le-zero l)
sum-at g i (suc n) l = go (same? n i) (λ q. sum-at g i n q)
  where
    go : (n ≡ i) ⊎ (n ≢ i) → (i < n → g i ≤ sum_to g n) → g i ≤ sum_to g n + g n
    go (inl q) ih = let b : g n ≡ g i = ap g q in omega arith
    go (inr q) ih = let a : g i ≤ sum_to g n = ih (omega arith) in omega arith

pub sum_two : (g : ℕ → ℕ) (i j n : ℕ) → i < n → j < n → i ≢ j → g i + g j ≤ sum_to g n
sum_two g i j n hi hj d =
    let h : ℕ → ℕ = λ k. cond (eqb k i) 0 (g k) in
    let a : sum_to h n + g i ≡ sum_to g n + h i = sum-change g h i n hi (λ k _ q. off k i (g k) q) in
    let b : h j ≡ g j = off j i (g j) (λ e. d (sym e)) in
    let e : h j ≤ sum_to h n = sum-at h j n hj in
    let z : h i ≡ 0 = on i (g i) in
    omega arith
  where
    on : (i v : ℕ) → cond (eqb i i) 0 v ≡ 0
    on i v = go (eqb i i) refl
      where
        go : (b : Bool) → eqb i i ≡ b → cond b 0 v ≡ 0
        go true e = refl
        go false e = absurd ((eq_test i i false e).1 refl refl)

    off : (k i v : ℕ) → k ≢ i → cond (eqb k i) 0 v ≡ v
    off k i v q = go (eqb k i) refl
      where
        go : (b : Bool) → eqb k i ≡ b → cond b 0 v ≡ v
        go true e = absurd (q ((eq_test k i true e).0 refl))
        go false e = refl

pub sum-some : (g : ℕ → ℕ) (n : ℕ) → 0 < sum_to g n → (i : ℕ) × (i < n) × (0 < g i)
unfolding sum_to
sum-some g zero h = absurd (not-suc-le-zero h)
sum-some g (suc n) h = go (lt? 0 (g n)) (λ q. sum-some g n q)
  where
    go : (0 < g n) ⊎ (g n ≤ 0) → (0 < sum_to g n → (i : ℕ) × (i < n) × (0 < g i)) → (i : ℕ) × (i < suc n) × (0 < g i)
    go (inl p) ih = (n, omega arith, p)
    go (inr p) ih = let r = ih (omega arith) in (r.0, omega arith, r.2)

-- one replaced parts in two, the second new
pub sum-part : (g h : ℕ → ℕ) (i n : ℕ) → i < n → ((k : ℕ) → k < n → k ≢ i → h k ≡ g k) → h i + h n ≡ g i → sum_to h (suc n) ≡ sum_to g n
unfolding sum_to
sum-part g h i n l e p = let a = sum-change g h i n l e in omega arith

pub is_sym : (i j : ℕ) → is i j ≡ is j i
is_sym i j = go (same? i j)
  where
    go : (i ≡ j) ⊎ (i ≢ j) → is i j ≡ is j i
    go (inl e) = is_same i j e ∙ sym (is_same j i (sym e))
    go (inr e) = is_other i j e ∙ sym (is_other j i (λ z. e (sym z)))

pub occurs-append : (i : ℕ) (l m : List ℕ) → occurs i (l ++ m) ≡ occurs i l + occurs i m
occurs-append i l m =
    occurs-over i (l ++ m) ∙ over-append (is i) l m ∙ ap (λ z. z + over (is i) m) (sym (occurs-over i l)) ∙ ap (λ z. occurs i l + z) (sym (occurs-over i m))

pub occurs-snoc : (i : ℕ) (l : List ℕ) (j : ℕ) → occurs i (snoc l j) ≡ occurs i l + is i j
unfolding snoc occurs
occurs-snoc i l j = let a = occurs-append i l (j ∷ []) in let b : occurs i (j ∷ []) ≡ is i j + 0 = occurs-cons i j [] in omega arith

pub length-snoc : (l : List ℕ) (j : ℕ) → length (snoc l j) ≡ suc (length l)
unfolding snoc
length-snoc [] j = refl
length-snoc (x ∷ l) j = ap suc (length-snoc l j)

pub sum-none : (g : ℕ → ℕ) (n : ℕ) → ((k : ℕ) → k < n → g k ≡ 0) → sum_to g n ≡ 0
unfolding sum_to
sum-none g zero h = refl
sum-none g (suc n) h = let a : g n ≡ 0 = h n (omega arith) in let b : sum_to g n ≡ 0 = sum-none g n (λ k q. h k (omega arith)) in omega arith

pub over_in : (w : ℕ → ℕ) (i : ℕ) (m : List ℕ) → 0 < occurs i m → w i ≤ over w m
unfolding over occurs
over_in w i [] q = absurd (not-suc-le-zero q)
over_in w i (c ∷ m) q = go (same? i c) (λ p. over_in w i m p)
  where
    go : (i ≡ c) ⊎ (i ≢ c) → (0 < occurs i m → w i ≤ over w m) → w i ≤ w c + over w m
    go (inl z) ih = let r : w i ≡ w c = ap w z in omega arith
    go (inr z) ih = let r = occurs-cons i c m in let y = is_other i c z in let x = ih (omega arith) in omega arith

pub over_zero : (l : List ℕ) → over (λ _. 0) l ≡ 0
unfolding over
over_zero [] = refl
over_zero (k ∷ l) = let q = over_zero l in omega arith

pub sum-zero : (n : ℕ) → sum_to (λ _. 0) n ≡ 0
unfolding sum_to
sum-zero zero = refl
sum-zero (suc n) = let q = sum-zero n in omega arith

pub first_of : (l : List ℕ) → 0 < length l → (c : ℕ) × (0 < occurs c l)
first_of [] h = absurd (omega arith)
first_of (c ∷ l) h = (c, occurs_here c l)

pub map-occurs : (f : ℕ → ℕ) (c : ℕ) (a : List ℕ) → occurs c (map f a) ≡ over (λ i. is c (f i)) a
unfolding over occurs
map-occurs f c [] = refl
map-occurs f c (i ∷ a) = occurs-cons c (f i) (map f a) ∙ ap (λ z. is c (f i) + z) (map-occurs f c a)

pub over_plus : (f g : ℕ → ℕ) (a : List ℕ) → over (λ i. f i + g i) a ≡ over f a + over g a
unfolding over
over_plus f g [] = refl
over_plus f g (i ∷ a) = let h = over_plus f g a in omega arith

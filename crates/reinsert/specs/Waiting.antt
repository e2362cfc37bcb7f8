-- Numbers on a stack whose top is last, as a list from the top down.
use Rattle.std.specs.Prelude.{ℕ, zero, suc, ◌+◌, ◌-◌, ◌≤◌, ◌<◌, ◌≡◌, refl, List, [], ◌∷◌, ◌++◌, length, get_or, set, drop}
use Rattle.std.proofs.Common.{sym, ap, ap₂, ◌∙◌, add-one, arith, drop_of_length-le, drop-cons, get_or-set_same, get_or-set_other}

-- the first h numbers, the last of them first
unfoldable pub waiting : List ℕ → ℕ → List ℕ
waiting st zero = []
waiting st (suc h) = get_or st h 0 ∷ waiting st h

pub length-waiting : (st : List ℕ) (h : ℕ) → length (waiting st h) ≡ h
unfolding waiting
length-waiting st zero = refl
length-waiting st (suc h) = ap suc (length-waiting st h)

pub none_wait : (st : List ℕ) (h : ℕ) → h ≡ 0 → waiting st h ≡ []
unfolding waiting
none_wait st h e = rw (e, waiting)

pub waiting_top : (st : List ℕ) (h : ℕ) → 0 < h → waiting st h ≡ get_or st (h - 1) 0 ∷ waiting st (h - 1)
unfolding waiting
waiting_top st zero l = absurd (omega arith)
waiting_top st (suc h) l = let e : suc h - 1 ≡ h = omega arith in rw e

below : (st : List ℕ) (h v k : ℕ) → k ≤ h → waiting (set st h v) k ≡ waiting st k
unfolding waiting
below st h v zero l = refl
below st h v (suc k) l = ap₂ (λ x xs. x ∷ xs) (get_or-set_other st h k v 0 (λ e. omega arith)) (below st h v k (omega arith))

-- one more on top
pub waiting-put : (st : List ℕ) (h v : ℕ) → h < length st → waiting (set st h v) (h + 1) ≡ v ∷ waiting st h
unfolding waiting
waiting-put st h v l = rw add-one (ap₂ (λ x xs. x ∷ xs) (get_or-set_same st h v 0 l) (below st h v h (omega arith)))

-- ---- a list put on top of h numbers, from its last to its first; ns are those

module _ (l ns : List ℕ) (h : ℕ) where
  pub stack_start : (st : List ℕ) → waiting st h ≡ ns → waiting st (h + 0) ≡ drop (length l - 0) l ++ ns
  stack_start st q =
      let e : h + 0 ≡ h = omega arith in
      ap (waiting st) e ∙ q ∙ ap (λ m. m ++ ns) (sym (drop_of_length-le l {i = length l - 0} (omega arith)))

  pub stack_turn : (k : ℕ) (st : List ℕ) → k < length l → h + k < length st → waiting st (h + k) ≡ drop (length l - k) l ++ ns
      → waiting (set st (h + k) (get_or l (length l - 1 - k) 0)) (h + (k + 1)) ≡ drop (length l - (k + 1)) l ++ ns
  stack_turn k st b r q =
      let i = length l - 1 - k in
      let e : h + (k + 1) ≡ h + k + 1 = omega arith in
      let p : length l - (k + 1) ≡ i = omega arith in
      let n : length l - k ≡ suc i = omega arith in
      let here : drop i l ≡ get_or l i 0 ∷ drop (suc i) l = drop-cons l i 0 (omega arith) in
      ap (waiting (set st (h + k) (get_or l i 0))) e ∙ waiting-put st (h + k) (get_or l i 0) r
      ∙ ap (λ r. get_or l i 0 ∷ r) (q ∙ ap (λ n. drop n l ++ ns) n) ∙ ap (λ m. m ++ ns) (sym here ∙ ap (λ i. drop i l) (sym p))

  pub stack_end : (k : ℕ) (st : List ℕ) → k ≤ length l → length l ≤ k → waiting st (h + k) ≡ drop (length l - k) l ++ ns
      → waiting st (h + length l) ≡ l ++ ns
  stack_end k st a b q =
      let e : k ≡ length l = omega arith in
      let z : length l - k ≡ 0 = omega arith in
      ap (λ k. waiting st (h + k)) (sym e) ∙ q ∙ ap (λ n. drop n l ++ ns) z

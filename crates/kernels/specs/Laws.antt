-- What the two combinations give: at each channel, when a rule is replaced by another, and in a loop over the channels.
use Rattle.std.specs.Prelude.{◌≡◌, refl, List, ℕ, zero, suc, ◌+◌, ◌<◌, ◌≤◌, length, set, min, take, drop, ◌-◌, ◌++◌, Float}
use Rattle.std.proofs.Common.{sym, ap, ap₂, ◌∙◌, ⊎_elim, ne_of_lt, eq-or-lt_of_le, arith, length-set, length-append, length-drop, length-take-le, get_or-take, get_or-drop, ext_get_or, get_or-set_same, get_or-set_other}
use Rattle.std.proofs.lemmas.Bool.{cases_lt}
use Rattle.std.proofs.lemmas.List.{get_or-append_right}
use Rattle.std.proofs.Math.ListN.{get_or-append}
use Rattle.std.specs.Float.{nan}
use Rattle.binary64.specs.Operators.{◌⊕◌, f0}
use Rattle.kernels.specs.Channels.{at, sum_to, up_to, SumsUp}

-- ---- lists

pub length-up_to : (f : ℕ → Float) (n : ℕ) (l : List Float) → length (up_to f n l) ≡ length l
unfolding up_to
length-up_to f zero l = refl
length-up_to f (suc i) l = length-set (up_to f i l) i (f i) ∙ length-up_to f i l

-- from n on, the list as it was
pub up_to_past : (f : ℕ → Float) (n : ℕ) (l : List Float) (k : ℕ) → n ≤ k → at (up_to f n l) k ≡ at l k
unfolding up_to
up_to_past f zero l k h = refl
up_to_past f (suc i) l k h = get_or-set_other (up_to f i l) i k (f i) nan (λ e. omega arith) ∙ up_to_past f i l k (omega arith)

-- below n, the rule
pub up_to-below : (f : ℕ → Float) (n : ℕ) (l : List Float) (k : ℕ) → n ≤ length l → k < n → at (up_to f n l) k ≡ f k
unfolding up_to
up_to-below f zero l k b h = elim h [ ]
up_to-below f (suc i) l k b h =
    ⊎_elim (λ (e : k ≡ i). rw e (get_or-set_same (up_to f i l) i (f i) nan (rw length-up_to (omega arith))))
    (λ (g : k < i). get_or-set_other (up_to f i l) i k (f i) nan (ne_of_lt g) ∙ up_to-below f i l k (omega arith) g)
    (eq-or-lt_of_le (omega arith))

-- ---- a loop over all 8 channels whose turn i acts where i is below n: m after i turns, which may read the place that it writes
module _ (f : ℕ → Float) (n : ℕ) (l : List Float) where
  pub turns_none : l ≡ up_to f (min 0 n) l
  unfolding up_to
  turns_none = let z : min 0 n ≡ 0 = omega arith in rw z

  module _ (i : ℕ) (m : List Float) (e : m ≡ up_to f (min i n) l) where
    pub turn_unread : at m i ≡ at l i
    turn_unread = ap (λ x. at x i) e ∙ up_to_past f (min i n) l i (omega arith)

    pub turn_acts : (x : Float) → i < n → x ≡ f i → set m i x ≡ up_to f (min (i + 1) n) l
    unfolding up_to
    turn_acts x h q = let a : min i n ≡ i = omega arith in let b : min (i + 1) n ≡ suc i = omega arith in rw (e, q, a, b)

    pub turn_rests : n ≤ i → m ≡ up_to f (min (i + 1) n) l
    turn_rests h = e ∙ ap (λ k. up_to f k l) (omega arith)

    pub turns_end : n ≤ i → m ≡ up_to f n l
    turns_end h = e ∙ ap (λ k. up_to f k l) (omega arith)

-- two rules that agree below n give one list
pub up_to-same : (f g : ℕ → Float) (n : ℕ) (l : List Float) → ((k : ℕ) → k < n → f k ≡ g k) → up_to f n l ≡ up_to g n l
unfolding up_to
up_to-same f g zero l h = refl
up_to-same f g (suc i) l h = ap₂ (λ m x. set m i x) (up_to-same f g i l (λ k p. h k (omega arith))) (h i (omega arith))

-- the first n numbers of another list, written over l
pub up_to_front : (a l : List Float) (n : ℕ) → n ≤ length a → n ≤ length l → up_to (at a) n l ≡ take n a ++ drop n l
up_to_front a l n h k =
    let front : length (take n a) ≡ n = length-take-le n a h in
    ext_get_or nan (up_to (at a) n l) (take n a ++ drop n l) (length-up_to (at a) n l ∙ simp (length-append, length-drop) (omega arith))
    (λ i _.
    ⊎_elim (λ q. up_to-below (at a) n l i k q ∙ sym (get_or-append (take n a) (drop n l) nan i (omega arith) ∙ get_or-take n a i nan q))
    (λ q.
    let e : n + (i - n) ≡ i = omega arith in
    up_to_past (at a) n l i q ∙ sym (get_or-append_right (take n a) (drop n l) n i nan front q ∙ get_or-drop n l (i - n) nan ∙ ap (λ j. at l j) e)) (cases_lt i n))

-- ---- sums

pub sum_same : (f g : ℕ → Float) (n : ℕ) → ((k : ℕ) → k < n → f k ≡ g k) → sum_to f n ≡ sum_to g n
unfolding sum_to
sum_same f g zero h = refl
sum_same f g (suc i) h = ap₂ (λ a b. a ⊕ b) (sum_same f g i (λ k p. h k (omega arith))) (h i (omega arith))

-- one channel more
pub sum-next : (f : ℕ → Float) (i : ℕ) → sum_to f (i + 1) ≡ sum_to f i ⊕ f i
unfolding sum_to
sum-next f i = let e : i + 1 ≡ suc i = omega arith in rw e

-- what a rule's calls give is added up one channel after the other
module _ (gives : ℕ → Float → Type 0) where
  pub sums-none : SumsUp gives 0 f0
  unfolding SumsUp sum_to
  sums-none f h = refl

  pub sums_more : (i : ℕ) (s x : Float) → SumsUp gives i s → gives i x → SumsUp gives (i + 1) (s ⊕ x)
  unfolding SumsUp
  sums_more i s x e q f h = ap₂ (λ a b. a ⊕ b) (e f (λ k y p. h k y (omega arith))) (h i x (omega arith) q) ∙ sym (sum-next f i)

  pub sums_up : (f : ℕ → Float) (n : ℕ) (r : Float) → SumsUp gives n r → ((i : ℕ) (x : Float) → i < n → gives i x → x ≡ f i) → r ≡ sum_to f n
  unfolding SumsUp
  sums_up f n r e h = e f h

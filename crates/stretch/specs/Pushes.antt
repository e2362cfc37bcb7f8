-- A slot written part by part: what a store, a fill and a push in place leave.
use Prim.Native.Nat.{ℕ, suc, ◌+◌, ◌-◌, ◌≤◌, ◌<◌}
use Rattle.std.specs.Prelude.{◌≡◌, refl, List, [], ◌∷◌, ◌++◌, set, take, replicate, Float}
use Rattle.std.proofs.Common.{sym, ap₂, ◌∙◌, take_all, length-append, get_or-take}
use Rattle.std.proofs.lemmas.List.{length-replicate, get_or-replicate, get_or-append_right}
use Rattle.std.proofs.Math.Path.{ap}
use native.Mathlib.Omega.{arith}
use Rattle.std.proofs.Math.ListN.{length, drop, length-take, length-drop, get_or-append}
use Rattle.std.proofs.Math.Seq.{length-take-le, drop_at}
use Rattle.std.specs.Float.Ieee.{nan}
use Rattle.binary64.specs.Operators.{◌⊕◌, ◌⊖◌, ◌⊘◌, f0, f1}
use Rattle.kernels.specs.Channels.{at, up_to}
use Rattle.kernels.specs.Laws.{length-up_to, up_to_front}
use Rattle.feature.specs.Summaries.{slots_of}
use Rattle.feature.specs.Steps.{moved_at, deviated, pushed}
use Rattle.feature.specs.declared.Summary.{Summary}
use Rattle.head.specs.declared.Settings.{Settings}
use Rattle.head.specs.Limits.{Sized}
use Rattle.rules.specs.Tree.{push}
use Rattle.rules.specs.Slices.{eight, filled_to, summary_in, summary_out}
use Rattle.stretch.specs.Stretches.{put_stretch, put_rest, drop_end, append-none}
use Rattle.stretch.specs.Slots.{Slot, eight-same, eight_front, eight_moved, eight-deviated}

-- the front of a slot, with its weight w and its means m new
pub front_is : (f m : List Float) (w : Float) → 1 ≤ length f → set (put_stretch f 1 (length f - 1) m) 0 w ≡ w ∷ m
front_is (v ∷ t) m w h = ap (λ l. set l 0 w) (put_rest (v ∷ []) t m 1 (length (v ∷ t) - 1) refl (omega arith))
front_is [] m w h = absurd (omega arith)

-- ---- the first n numbers of a list, and zeros behind them, as long as p

module _ (n : ℕ) (a p : List Float) (h : n ≤ length a) where
  front_long : length (take n a) ≡ n
  front_long = length-take-le n a h

  pub length-fill : n ≤ length p → length (take n a ++ replicate (length p - n) f0) ≡ length p
  length-fill k = simp (length-append, length-replicate) (omega (arith, front_long))

  pub fill_front : (i : ℕ) → i < n → at (take n a ++ replicate (length p - n) f0) i ≡ at a i
  fill_front i q = get_or-append (take n a) (replicate (length p - n) f0) nan i (omega (arith, front_long)) ∙ get_or-take n a i nan q

  pub fill_past : (i : ℕ) → n ≤ i → i < length p → at (take n a ++ replicate (length p - n) f0) i ≡ f0
  fill_past i q k =
      get_or-append_right (take n a) (replicate (length p - n) f0) n i nan front_long q ∙ get_or-replicate (length p - n) (i - n) f0 nan (omega arith)

-- all of a list, written over one as long
pub up_to-whole : (a l : List Float) → length a ≡ length l → up_to (at a) (length l) l ≡ a
up_to-whole a l e =
    up_to_front a l (length l) (omega arith) (omega arith)
    ∙ ap₂ (λ x y. x ++ y) (take_all (length l) a (omega arith)) (drop_end l (length l) refl) ∙ append-none a

-- the front f of p and the rest b, where the deviations d are written over b
pub store_parts : (s : Settings) (c : Summary) (p f b m d : List Float) (n : ℕ) → Slot s p → length f ≡ 1 + s.dim → length b + (1 + s.dim) ≡ length p
    → s.dim ≤ length c.mean → n ≡ slots_of s.feature s.dim → n ≤ length c.deviation
    → m ≡ take s.dim c.mean ++ replicate (length (take (length f - 1) (drop 1 f)) - s.dim) f0
    → d ≡ take n c.deviation ++ replicate (length b - n) f0
    → set (put_stretch f 1 (length f - 1) m) 0 c.weight ++ d ≡ summary_out s c
unfolding summary_out filled_to
store_parts s c p f b m d n e lf lb hm en hc em ed =
    let v = c.deviation in
    let none : length (take (length f - 1) (drop 1 f)) - s.dim ≡ 0 = simp (length-take, length-drop) (omega arith) in
    let means : m ≡ take s.dim c.mean = em ∙ ap (λ k. take s.dim c.mean ++ replicate k f0) none ∙ append-none (take s.dim c.mean) in
    let room : length b ≡ s.dim = omega arith in
    let behind : d ≡ take n v ++ replicate (s.dim - length (take n v)) f0 =
    ed ∙ ap₂ (λ j k. take n v ++ replicate (j - k) f0) room (sym (length-take-le n v hc)) in
    ap (λ l. l ++ d) (front_is f m c.weight (omega arith))
    ∙ ap₂ (λ a b. c.weight ∷ (a ++ b)) means (behind ∙ ap (λ k. take k v ++ replicate (s.dim - length (take k v)) f0) en)

-- ---- a push in place: the deviations d behind the old means, then the new means m, then the weight

module _ (s : Settings) (z : Sized s) (x : List Float) where
  -- the means m over those of r, and the deviations d behind them
  made : (w : Float) (r m d : List Float) → length r ≡ s.dim + s.dim → m ≡ up_to (moved_at (f1 ⊘ w) (take s.dim r) x) s.dim (take s.dim r)
      → d ≡ deviated s.feature s.dim (f1 ⊖ f1 ⊘ w) (take s.dim r) (drop s.dim r) x
      → (v : Float) → w ≡ v ⊕ f1 → summary_in s (w ∷ (m ++ d)) ≡ push s x (summary_in s (v ∷ r))
  unfolding summary_in pushed
  made w r m d e em ed v ew =
      let n = s.dim in
      let few = z.dim_few in
      let one_more_lem : 1 + n ≡ suc n = omega arith in
      let front : length (take n r) ≡ n = length-take-le n r (omega arith) in
      let long : length m ≡ n = ap length em ∙ length-up_to _ n (take n r) ∙ front in
      let factor = f1 ⊘ w in
      let mean : eight n (m ++ d) ≡ up_to (moved_at factor (eight n r) x) n (eight n r) =
      eight-same n (m ++ d) m (λ i q. get_or-append m d nan i (omega arith))
      ∙ ap (eight n) em
      ∙ eight_moved n factor (take n r) x few (omega arith)
      ∙ ap (λ l. up_to (moved_at factor l x) n l) (eight_front n n r (omega arith)) in
      let k = slots_of s.feature n in
      let behind : drop (1 + n) (w ∷ (m ++ d)) ≡ d = ap (λ j. drop j (w ∷ (m ++ d))) one_more_lem ∙ drop_at m d n long in
      let before : drop n r ≡ drop (1 + n) (v ∷ r) = ap (λ j. drop j (v ∷ r)) (sym one_more_lem) in
      let deviation : eight k (drop (1 + n) (w ∷ (m ++ d))) ≡ deviated s.feature n (f1 ⊖ f1 ⊘ w) (eight n r) (eight k (drop (1 + n) (v ∷ r))) x =
      ap (eight k) (behind ∙ ed)
      ∙ eight-deviated s.feature n (f1 ⊖ f1 ⊘ w) (take n r) (drop n r) x (z.dim_some, few) (simp length-drop (omega arith))
      ∙ ap₂ (λ a l. deviated s.feature n (f1 ⊖ f1 ⊘ w) a (eight k l) x) (eight_front n n r (omega arith)) before in
      rw (mean, deviation, ew)

  -- the front f of p and the rest b, where the means m are written over f's and the deviations d over b
  pub push_parts : (p f b m d : List Float) (w : Float) → Slot s p → f ≡ take (1 + s.dim) p → b ≡ drop (1 + s.dim) p → w ≡ at p 0 ⊕ f1
      → m ≡ up_to (moved_at (f1 ⊘ w) (take (length f - 1) (drop 1 f)) x) s.dim (take (length f - 1) (drop 1 f))
      → d ≡ deviated s.feature s.dim (f1 ⊖ f1 ⊘ w) (take (length f - 1) (drop 1 f)) b x
      → summary_in s (set (put_stretch f 1 (length f - 1) m) 0 w ++ d) ≡ push s x (summary_in s p)
  push_parts (v ∷ r) f b m d w e ef eb ew em ed =
      let n = s.dim in
      let one_more_lem : 1 + n ≡ suc n = omega arith in
      let f_is : f ≡ v ∷ take n r = ef ∙ ap (λ j. take j (v ∷ r)) one_more_lem in
      let b_is : b ≡ drop n r = eb ∙ ap (λ j. drop j (v ∷ r)) one_more_lem in
      let old : take (length f - 1) (drop 1 f) ≡ take n r =
      ap (λ l. take (length l - 1) (drop 1 l)) f_is ∙ take_all (length (v ∷ take n r) - 1) (take n r) (omega arith) in
      ap (λ l. summary_in s (l ++ d)) (front_is f m w (rw f_is (omega arith)))
      ∙ made w r m d (omega arith) (em ∙ ap (λ l. up_to (moved_at (f1 ⊘ w) l x) n l) old)
      (ed ∙ ap₂ (λ l k. deviated s.feature n (f1 ⊖ f1 ⊘ w) l k x) old b_is) v ew
  push_parts [] f b m d w e ef eb ew em ed = absurd (omega arith)

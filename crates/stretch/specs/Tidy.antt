-- A slot and a block tidied: without what the feature does not keep, without what stands past the list.
use Rattle.std.specs.Prelude.{ℕ, suc, ◌+◌, ◌-◌, ◌≤◌, ◌<◌, ◌≡◌, Bool, true, cond, List, [], ◌∷◌, ◌++◌, eqb, length, set, take, drop, replicate, Float, None, Some}
use Rattle.std.proofs.Math.Path.{refl, sym}
use Rattle.std.proofs.Common.{ap, ap₂, ◌∙◌, append_assoc, arith, eqb-true, length-take, length-drop, take-append-drop, get_or-take, length-take-le, take-add, ext_get_or}
use Rattle.std.proofs.Math.Bool.{false}
use Rattle.std.specs.Float.{nan}
use Rattle.binary64.specs.Operators.{f0}
use Rattle.kernels.specs.Channels.{at, up_to}
use Rattle.kernels.specs.Laws.{length-up_to, up_to-below}
use Rattle.feature.specs.Summaries.{slots_of}
use Rattle.head.specs.declared.Settings.{Settings}
use Rattle.head.specs.Limits.{Sized}
use Rattle.head.specs.Sizes.{block_width}
use Rattle.rules.specs.Slices.{eight, filled_to, summary_in, summary_out, no_parent, parent_in, parent_out, leaf_in, kind_out, length_in, node_in, block_out}
use Rattle.stretch.specs.Stretches.{put_stretch, put_rest}
use Rattle.stretch.specs.Slots.{Slot}
use Rattle.stretch.specs.Blocks.{Block, list_length, list_in}

-- a slot without what its feature does not keep
unfoldable pub tidy_slot : Settings → List Float → List Float
tidy_slot s p = summary_out s (summary_in s p)

-- a block without what stands past its list
unfoldable pub tidy_block : Settings → List ℕ → List ℕ
tidy_block s b = block_out s (node_in s [] b)

-- ---- a slot

-- the first n of the eight numbers are the first n
take-eight : (n : ℕ) (l : List Float) → n ≤ 8 → n ≤ length l → take n (eight n l) ≡ take n l
unfolding eight
take-eight n l h k =
    let e : length (up_to (at l) n (replicate 8 f0)) ≡ 8 = length-up_to (at l) n (replicate 8 f0) in
    ext_get_or nan (take n (up_to (at l) n (replicate 8 f0))) (take n l) (length-take-le n _ (omega arith) ∙ sym (length-take-le n l k))
    (λ i q. let r : i < n = rw (length-take-le n (up_to (at l) n (replicate 8 f0)) (omega arith)) at q in
    get_or-take n (up_to (at l) n (replicate 8 f0)) i nan r ∙ up_to-below (at l) n (replicate 8 f0) i h r ∙ sym (get_or-take n l i nan r))

pub tidy_slot_lem : (s : Settings) → Sized s → (p z : List Float) (n : ℕ) → Slot s p → n ≡ slots_of s.feature s.dim → n ≤ s.dim
    → z ≡ replicate (length (take (length p - (1 + s.dim + n)) (drop (1 + s.dim + n) p))) f0
    → put_stretch p (1 + s.dim + n) (length p - (1 + s.dim + n)) z ≡ summary_out s (summary_in s p)
unfolding summary_in summary_out filled_to
tidy_slot_lem s b (v ∷ r) z n e en hn ez =
    let d = s.dim in
    let few = b.dim_few in
    let place : 1 + d + n ≡ suc (d + n) = omega arith in
    let rest : length (take (length (v ∷ r) - (1 + d + n)) (drop (1 + d + n) (v ∷ r))) ≡ d - n = simp (length-take, length-drop) (omega arith) in
    let behind = drop d r in
    let kept : length (take n behind) ≡ n = length-take-le n behind (simp length-drop (omega arith)) in
    let one_more_lem : 1 + d ≡ suc d = omega arith in
    let past : drop (1 + d) (v ∷ r) ≡ behind = ap (λ j. drop j (v ∷ r)) one_more_lem in
    let front : take (1 + d + n) (v ∷ r) ≡ v ∷ (take d r ++ take n behind) = ap (λ j. take j (v ∷ r)) place ∙ ap (λ l. v ∷ l) (take-add d n r) in
    let long : length (take (1 + d + n) (v ∷ r)) ≡ 1 + d + n = length-take-le (1 + d + n) (v ∷ r) (omega arith) in
    let deviation : take n (eight n (drop (1 + d) (v ∷ r))) ≡ take n behind = ap (λ l. take n (eight n l)) past
    ∙ take-eight n behind (omega arith) (simp length-drop (omega arith)) in
    let mean : take d (eight d r) ≡ take d r = take-eight d r few (omega arith) in
    ap (λ l. put_stretch l (1 + d + n) (length (v ∷ r) - (1 + d + n)) z) (sym (take-append-drop (1 + d + n) (v ∷ r)))
    ∙ put_rest (take (1 + d + n) (v ∷ r)) (drop (1 + d + n) (v ∷ r)) z (1 + d + n) (length (v ∷ r) - (1 + d + n)) long (length-drop (1 + d + n) (v ∷ r))
    ∙ ap₂ (λ a c. a ++ c) front (ez ∙ ap (λ j. replicate j f0) rest)
    ∙ ap (λ l. v ∷ l) (append_assoc (take d r) (take n behind) (replicate (d - n) f0))
    ∙ ap₂ (λ a c. v ∷ (a ++ c)) (sym mean) (ap₂ (λ a j. a ++ replicate (d - j) f0) (sym deviation) (sym kept ∙ ap length (sym deviation)))
    ∙ ap (λ m. v ∷ (take d (eight d r) ++ (take m (eight m (drop (1 + d) (v ∷ r))) ++ replicate (d - length (take m (eight m (drop (1 + d) (v ∷ r))))) f0))) en
tidy_slot_lem s b [] z n e en hn ez = absurd (omega arith)

-- ---- a block

parent_forth : (w : ℕ) → parent_out (parent_in w) ≡ w
unfolding parent_out parent_in
parent_forth w = go (eqb w no_parent) refl
  where
    go : (b : Bool) → eqb w no_parent ≡ b → parent_out (cond b None (Some w)) ≡ w
    go true e = unfold parent_out in sym (eqb-true w no_parent e)
    go false e = unfold parent_out in refl

pub tidy_block_lem : (s : Settings) (p : List Float) (b z : List ℕ) (leaf : Bool) (len k : ℕ) → Block s b → leaf ≡ (node_in s p b).leaf → len
    ≡ length (node_in s p b).list → k ≡ kind_out leaf len
    → z ≡ replicate (length (take (length (set b 1 k) - (2 + len)) (drop (2 + len) (set b 1 k)))) 0
    → put_stretch (set b 1 k) (2 + len) (length (set b 1 k) - (2 + len)) z ≡ block_out s (node_in s p b)
unfolding block_out filled_to node_in
tidy_block_lem s p (x ∷ y ∷ r) z leaf len k b ef el ek ez =
    let w = length_in s y in
    let room = list_in s (x ∷ y ∷ r) b p in
    let said : len ≡ w = el ∙ list_length s (x ∷ y ∷ r) b p in
    let list : take len r ≡ take w r = ap (λ n. take n r) said in
    let place : 2 + len ≡ suc (suc len) = omega arith in
    let all = x ∷ k ∷ r in
    let fits : 2 + len ≤ length all = omega arith in
    let front : take (2 + len) all ≡ x ∷ k ∷ take len r = ap (λ j. take j all) place in
    let rest : length (take (length all - (2 + len)) (drop (2 + len) all)) ≡ block_width s - (2 + len) = simp (length-take, length-drop)
    (omega (arith, b.long)) in
    ap (λ l. put_stretch l (2 + len) (length all - (2 + len)) z) (sym (take-append-drop (2 + len) all))
    ∙ put_rest (take (2 + len) all) (drop (2 + len) all) z (2 + len) (length all - (2 + len)) (length-take-le (2 + len) all fits) (length-drop (2 + len) all)
    ∙ ap₂ (λ a c. a ++ c) front (ez ∙ ap (λ j. replicate j 0) (rest ∙ ap (λ j. block_width s - j) place))
    ∙ ap₂ (λ a c. a ∷ c ∷ (take len r ++ replicate (block_width s - suc (suc len)) 0)) (sym (parent_forth x)) (ek ∙ ap₂ kind_out ef el)
    ∙ ap₂ (λ l j. parent_out (parent_in x) ∷ kind_out (leaf_in y) (length (take w r)) ∷ (l ++ replicate (block_width s - suc (suc j)) 0)) list el
tidy_block_lem s p [] z leaf len k b ef el ek ez = absurd (omega (arith, b.some))
tidy_block_lem s p (x ∷ []) z leaf len k b ef el ek ez = absurd (omega (arith, b.some))

-- Each entry weighs as many rows as the account gives it: kept by each step.
use Prim.Native.Nat.{ℕ, suc, ◌+◌, ◌*◌, ◌≤◌, ◌<◌}
use Rattle.std.specs.Prelude.{◌≡◌, ◌⊎◌, ◌≢◌, Bool, cond, List, map, get_or, Float, Option, None, Some}
use Rattle.std.proofs.Common.{sym, ◌∙◌, subst, inl, inr, map-id, zero-mul, mul-one, mul-zero}
use Rattle.std.proofs.Math.Path.{ap}
use Rattle.std.proofs.Math.Bool.{true, false}
use Rattle.std.proofs.lemmas.Simd.{map-map}
use native.Mathlib.Omega.{arith}
use Rattle.std.proofs.Math.ListN.{length}
use Rattle.binary64.specs.Whole.{most}
use Rattle.feature.specs.declared.Summary.{Summary}
use Rattle.feature.specs.Summaries.{blank}
use Rattle.head.specs.declared.Settings.{Settings}
use Rattle.rules.specs.Lists.{change_at, snoc, count_up, occurs}
use Rattle.rules.specs.Tree.{push, merge, Tree, entry_at, with_nodes, with_entries, row_count}
use Rattle.rules.specs.Insert.{begun, absorbed, absorbed_or_begun, absorbs, row_item}
use Rattle.rules.specs.declared.Pair.{Pair}
use Rattle.rules.specs.Rebuild.{renumber, dropped}
use Rattle.laws.specs.Invariant.Weights.{IsExact, exact_count, blank_exact, push_weigh}
use Rattle.laws.specs.Inserting.Grown.{Hit}
use Rattle.counting.specs.Count.{is, is_same, is_other, same?, lt?}
use Rattle.counting.specs.Sums.{over, over-same, occurs-over, sum_to, sum_same, sum-none, map-occurs, over_plus, over_zero}
use Rattle.counting.specs.Lists.{change-at, change_off, snoc-at, snoc_off}
use Rattle.laws.specs.Invariant.Sound.{entry_weight}
use Rattle.counting.specs.Only.{only, only_at, only_off}
use Rattle.counting.specs.Totals.{over-sum, sum-only}
use Rattle.counting.specs.Flags.{alive, alive_up, alive_down, flag?, renumber-sum, renumber_apart, keep_at, keep-length, up_in}
use Rattle.promises.specs.Demand.{taker_of, owns, Made, Origin}
use Rattle.laws.specs.Moves.{merged_to}
use Rattle.promises.specs.Ownership.Made.{AllMade}
use Rattle.promises.specs.Ownership.Moved.{moved_made, to_one, to_two, to_other, merge-made}
use Rattle.laws.specs.Invariant.Owned.{weight_past}

-- entries by number: how many rows each weighs, and its summary
pub record Held : Type 0 where
  pub rows : ℕ → ℕ
  pub entry : ℕ → Summary

abbrev pub held_by : Tree → Held
held_by t = record { rows = entry_weight t; entry = entry_at t }

-- f moves the entries X to the entries Y: an account of X, moved by f, is one of Y, and entries that are made of their rows stay so
abbrev pub Carries : Settings → (ℕ → ℕ) → Held → Held → Type 0
Carries s f X Y =
    (a : List ℕ) → ((c : ℕ) → X.rows c ≡ occurs c a)
    → ((c : ℕ) → Y.rows c ≡ occurs c (map f a)) × ((ys : List Origin) → AllMade s ys X.entry a → AllMade s ys Y.entry (map f a))

pub carries_then : (s : Settings) (f g : ℕ → ℕ) (X Y Z : Held) → Carries s f X Y → Carries s g Y Z → Carries s (λ c. g (f c)) X Z
carries_then s f g X Y Z p q a h =
    let (u, m) = p a h in
    let (v, n) = q (map f a) u in
    ((λ c. v c ∙ ap (λ l. occurs c l) (map-map g f a)), (λ ys k. subst (λ l. AllMade s ys Z.entry l) (map-map g f a) (n ys (m ys k))))

-- the same, number by number
pub carries_same : (s : Settings) (X Y : Held) → ((c : ℕ) → Y.rows c ≡ X.rows c) → ((c : ℕ) → Y.entry c ≡ X.entry c) → Carries s (λ c. c) X Y
carries_same s X Y e k a h = (
  (λ c. e c ∙ h c ∙ ap (λ l. occurs c l) (sym (map-id a))),
  (λ ys m. subst (λ l. AllMade s ys Y.entry l) (sym (map-id a)) (λ c o. subst (λ x. Made s ys x (owns a c)) (sym (k c)) (m c o))),
)

-- ---- a row in

module _ (s : Settings) (x : List Float) (t : Tree) (exact : (c : ℕ) → c < length t.entries → IsExact (entry_at t c) × (entry_weight t c < most)) where
  new-one : (l c : ℕ) → entry_weight (begun l (push s x blank) t) c ≡ entry_weight t c + is c (length t.entries)
  unfolding begun with_nodes with_entries entry_weight entry_at
  new-one l c = go (same? c (length t.entries))
    where
      go : (c ≡ length t.entries) ⊎ (c ≢ length t.entries) → row_count (get_or (snoc t.entries (push s x blank)) c blank)
          ≡ row_count (get_or t.entries c blank) + is c (length t.entries)
      go (inl q) =
          let a : row_count (get_or (snoc t.entries (push s x blank)) c blank) ≡ 1 =
          ap (λ k. row_count (get_or (snoc t.entries (push s x blank)) k blank)) q ∙ ap (λ m. row_count m) (snoc-at t.entries (push s x blank) blank)
          ∙ exact_count (push s x blank) 1 (push_weigh s x blank 0 blank_exact (omega arith)) in
          let b : row_count (get_or t.entries c blank) ≡ 0 = weight_past t c (omega arith) in
          let d = is_same c (length t.entries) q in
          omega arith
      go (inr q) =
          let a : row_count (get_or (snoc t.entries (push s x blank)) c blank) ≡ row_count (get_or t.entries c blank) =
          ap (λ m. row_count m) (snoc_off t.entries (push s x blank) blank c q) in
          let d = is_other c (length t.entries) q in
          omega arith

  fed-one : (e c : ℕ) → e < length t.entries → entry_weight (absorbed (row_item s x) e t) c ≡ entry_weight t c + is c e
  unfolding absorbed with_entries entry_weight entry_at
  fed-one e c h = go (same? c e)
    where
      go : (c ≡ e) ⊎ (c ≢ e) → row_count (get_or (change_at (push s x) e t.entries) c blank) ≡ row_count (get_or t.entries c blank) + is c e
      go (inl q) =
          let a : row_count (get_or (change_at (push s x) e t.entries) c blank) ≡ suc (row_count (get_or t.entries e blank)) =
          ap (λ k. row_count (get_or (change_at (push s x) e t.entries) k blank)) q ∙ ap (λ m. row_count m) (change-at (push s x) e blank t.entries h)
          ∙ exact_count (push s x (get_or t.entries e blank)) (suc (row_count (get_or t.entries e blank)))
          (push_weigh s x (get_or t.entries e blank) (row_count (get_or t.entries e blank)) (exact e h).0 (exact e h).1) in
          let b : row_count (get_or t.entries c blank) ≡ row_count (get_or t.entries e blank) = ap (λ k. row_count (get_or t.entries k blank)) q in
          let d = is_same c e q in
          omega arith
      go (inr q) =
          let a : row_count (get_or (change_at (push s x) e t.entries) c blank) ≡ row_count (get_or t.entries c blank) =
          ap (λ m. row_count m) (change_off (push s x) e c blank t.entries q) in
          let d = is_other c e q in
          omega arith

  pub joined_one : (l : ℕ) (r : Option ℕ) → Hit (λ e. e < (length t.entries)) r → (c : ℕ)
      → entry_weight (absorbed_or_begun (row_item s x) l r t) c ≡ entry_weight t c + is c (taker_of (row_item s x) r t)
  unfolding absorbed_or_begun taker_of
  joined_one l None h c = new-one l c
  joined_one l (Some e) h c = go (absorbs (row_item s x) e t)
    where
      go : (b : Bool) → entry_weight (cond b (absorbed (row_item s x) e t) (begun l (push s x blank) t)) c ≡ entry_weight t c + is c (cond b e (length t.entries))
      go true = fed-one e c h
      go false = new-one l c

-- ---- moves

-- the second of two entries that weigh something is merged into the first
pub merge_carries : (s : Settings) (p : Pair) → p.one ≢ p.two → (X Y : Held) → Y.rows p.one ≡ X.rows p.one + X.rows p.two → Y.rows p.two ≡ 0
    → ((c : ℕ) → c ≢ p.one → c ≢ p.two → Y.rows c ≡ X.rows c) → 1 ≤ X.rows p.one → 1 ≤ X.rows p.two
    → Y.entry p.one ≡ merge s (X.entry p.one) (X.entry p.two) → ((c : ℕ) → c ≢ p.one → Y.entry c ≡ X.entry c)
    → Carries s (merged_to p) X Y
merge_carries s p d X Y h1 h2 h3 l1 l2 e1 e2 a h = (
  (λ c. go c (same? c p.one) (same? c p.two)),
  (λ ys m. merge-made p d X.entry Y.entry a (let q = h p.one in omega arith) (let q = h p.two in omega arith) e1 e2 m),
)
  where
    go : (c : ℕ) → (c ≡ p.one) ⊎ (c ≢ p.one) → (c ≡ p.two) ⊎ (c ≢ p.two) → Y.rows c ≡ occurs c (map (merged_to p) a)
    go c (inl x) (inl y) = absurd (d (sym x ∙ y))
    go c (inl x) (inr y) =
        ap Y.rows x ∙ h1 ∙ ap (λ z. z + X.rows p.two) (h p.one ∙ occurs-over p.one a) ∙ ap (λ z. over (is p.one) a + z) (h p.two
        ∙ occurs-over p.two a)
        ∙ sym (map-occurs (merged_to p) c a ∙ over-same (λ i. is c (merged_to p i)) (λ i. is p.one i + is p.two i) a (λ i o. to_one p d c x i)
        ∙ over_plus (is p.one) (is p.two) a)
    go c (inr x) (inl y) =
        ap Y.rows y ∙ h2 ∙ sym (map-occurs (merged_to p) c a ∙ over-same (λ i. is c (merged_to p i)) (λ _. 0) a (λ i o. to_two p d c x y i) ∙ over_zero a)
    go c (inr x) (inr y) =
        h3 c x y ∙ h c ∙ occurs-over c a
        ∙ sym (map-occurs (merged_to p) c a ∙ over-same (λ i. is c (merged_to p i)) (is c) a (λ i o. to_other p d c x y i))

-- ---- dropping

module _ (s : Settings) (u : Tree) (bs : List Bool) (len : length bs ≡ length u.entries) where
  weight_is : (c : ℕ) → get_or bs c false ≡ true → entry_weight (dropped bs u) (renumber bs c) ≡ entry_weight u c
  unfolding entry_weight dropped with_entries with_nodes entry_at
  weight_is c e = ap (λ m. row_count m) (keep_at bs u.entries c blank len e)

  -- the entry itself goes by the same number
  pub dropped_to : (c : ℕ) → get_or bs c false ≡ true → entry_at (dropped bs u) (renumber bs c) ≡ entry_at u c
  unfolding dropped with_entries with_nodes entry_at
  dropped_to c e = keep_at bs u.entries c blank len e

  len_e : length (dropped bs u).entries ≡ count_up bs
  unfolding dropped with_entries with_nodes
  len_e = keep-length bs u.entries len

  abbrev W : ℕ → ℕ
  W = entry_weight (dropped bs u)

  drop_rows : (a : List ℕ) → ((c : ℕ) → alive bs (entry_weight u) c ≡ occurs c a) → (k : ℕ) → entry_weight (dropped bs u) k ≡ occurs k (map (renumber bs) a)
  drop_rows a h k = sym (
      map-occurs (renumber bs) k a
      ∙ over-sum (λ i. is k (renumber bs i)) (length bs) a inside
      ∙ sum_same (alive bs (λ i. only (W k) k (renumber bs i))) (λ i. occurs i a * is k (renumber bs i)) (length bs) (λ i q. each i (flag? bs i))
      ∙ renumber-sum bs (λ j. only (W k) k j)
      ∙ last (lt? k (count_up bs)))
    where
      inside : (i : ℕ) → 0 < occurs i a → i < length bs
      inside i o = go (flag? bs i)
        where
          go : (get_or bs i false ≡ true) ⊎ (get_or bs i false ≡ false) → i < length bs
          go (inl e) = up_in bs i e
          go (inr e) = let p = alive_down bs (entry_weight u) i e in let q = h i in absurd (omega arith)

      each : (i : ℕ) → (get_or bs i false ≡ true) ⊎ (get_or bs i false ≡ false) → occurs i a * is k (renumber bs i) ≡ alive bs (λ i. only (W k) k (renumber bs i)) i
      each i (inr e) =
          ap (λ z. z * is k (renumber bs i)) (sym (h i) ∙ alive_down bs (entry_weight u) i e) ∙ zero-mul (is k (renumber bs i))
          ∙ sym (alive_down bs (λ i. only (W k) k (renumber bs i)) i e)
      each i (inl e) = by (same? (renumber bs i) k) ∙ sym (alive_up bs (λ i. only (W k) k (renumber bs i)) i e)
        where
          by : (renumber bs i ≡ k) ⊎ (renumber bs i ≢ k) → occurs i a * is k (renumber bs i) ≡ only (W k) k (renumber bs i)
          by (inl q) =
              ap (λ z. occurs i a * z) (is_same k (renumber bs i) (sym q)) ∙ mul-one (occurs i a) ∙ sym (h i) ∙ alive_up bs (entry_weight u) i e
              ∙ sym (weight_is i e) ∙ ap (λ z. W z) q
              ∙ sym (only_at (W k) k (renumber bs i) q)
          by (inr q) = ap (λ z. occurs i a * z) (is_other k (renumber bs i) (λ z. q (sym z))) ∙ mul-zero (occurs i a) ∙ sym (only_off (W k) k (renumber bs i) q)

      last : (k < count_up bs) ⊎ (count_up bs ≤ k) → sum_to (λ j. only (W k) k j) (count_up bs) ≡ W k
      last (inl q) = sum-only (W k) k (count_up bs) q
      last (inr q) =
          sum-none (λ j. only (W k) k j) (count_up bs) (λ j r. only_off (W k) k j (λ z. clash j r z))
          ∙ sym (weight_past (dropped bs u) k (let z = len_e in omega arith))
        where
          clash : (j : ℕ) → j < count_up bs → j ≡ k → ⊥
          clash j r z = omega arith

  -- the entries whose flag is up, renumbered
  pub drop_carries : Carries s (renumber bs) (record { rows = alive bs (entry_weight u); entry = entry_at u }) (held_by (dropped bs u))
  drop_carries a h = (
    drop_rows a h,
    (λ ys m. moved_made (renumber bs) (entry_at u) (entry_at (dropped bs u)) a (λ c o. dropped_to c (up c o (flag? bs c)))
        (λ c d o q e. renumber_apart bs c d (up c o (flag? bs c)) (up d q (flag? bs d)) e) m),
  )
    where
      up : (c : ℕ) → 0 < occurs c a → (get_or bs c false ≡ true) ⊎ (get_or bs c false ≡ false) → get_or bs c false ≡ true
      up c o (inl e) = e
      up c o (inr e) = let p = alive_down bs (entry_weight u) c e in let q = h c in absurd (omega arith)

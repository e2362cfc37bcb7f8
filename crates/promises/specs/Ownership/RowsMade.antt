-- A row in, rebuild or not: every entry is still made of the rows that the account gives it.
use Rattle.std.specs.Prelude.{ℕ, suc, ◌≤◌, ◌<◌, ◌≡◌, ◌⊎◌, ◌≢◌, Bool, true, false, cond, List, map, T, ltb, eqb, length, get_or, Float}
use Rattle.std.proofs.Math.Path.{refl}
use Rattle.std.proofs.Common.{sym, ap, ◌∙◌, subst, inl, inr, ltb→lt}
use native.Mathlib.Omega.{arith}
use Rattle.binary64.specs.Whole.{most}
use Rattle.feature.specs.declared.Summary.{Summary}
use Rattle.feature.specs.Summaries.{blank}
use Rattle.head.specs.declared.Settings.{Settings}
use Rattle.rules.specs.Lists.{change_at, snoc, occurs}
use Rattle.rules.specs.Tree.{push, Tree, entry_at}
use Rattle.rules.specs.Insert.{grown, row_item}
use Rattle.rules.specs.Rebuild.{rebuilt}
use Rattle.counting.specs.Count.{is_other, same?, eq_test}
use Rattle.counting.specs.Sums.{occurs-snoc}
use Rattle.counting.specs.Lists.{change-at, change_off, length-change, snoc-at, snoc_off}
use Rattle.laws.specs.Invariant.Sound.{Caps}
use Rattle.laws.specs.Inserting.First.{Holding}
use Rattle.laws.specs.Inserting.Grown.{Whole}
use Rattle.laws.specs.Room.Kept.{Kept}
use Rattle.promises.specs.Demand.{taker, owners_in, owns, Made, Origin, called}
use Rattle.laws.specs.Moves.{rebuilt_to}
use Rattle.laws.specs.Invariant.Owned.{Owned, weight_past, owner_in}
use Rattle.promises.specs.Ownership.Made.{AllMade, blank-made, taker-made, other_made}
use Rattle.promises.specs.Ownership.Merged.{rebuild_moves}
use Rattle.promises.specs.Ownership.Rows.{grown_owned, grown_took}
use Rattle.laws.specs.Inserting.Items.{grown_holds}
use Rattle.rules.specs.Rows.{inserted}

-- every entry owns a row
pub owner_of : (s : Settings) (t : Tree) (total : ℕ) (a : List ℕ) → Holding s t total → Owned t a → (c : ℕ) → c < length t.entries → 0 < occurs c a
owner_of s t total a (inl b) w c h = let z : length t.entries ≡ 0 = ap (λ u. length u.entries) b.0.is in absurd (omega arith)
owner_of s t total a (inr g) w c h = let p = g.1.exact.some_entry c h in let q = w c in omega arith

-- ---- before any rebuild

module _ (s : Settings) (x : List Float) (t : Tree) (total : ℕ) (small : total < most) (ys : List Origin) (a : List ℕ) (len : length a ≡ length ys)
    (k : Holding s t total) (w : Owned t a) (m : AllMade s ys (entry_at t) a) where
  pub grown-made : AllMade s (snoc ys (called x)) (entry_at (grown s (row_item s x) t)) (snoc a (taker (row_item s x) t))
  unfolding entry_at
  grown-made c o = go (eqb (taker (row_item s x) t) (length t.entries)) refl (grown_took s x t total small k) (same? c (taker (row_item s x) t))
    where
      before : c ≢ taker (row_item s x) t → 0 < occurs c a
      before q = let p = occurs-snoc c a (taker (row_item s x) t) in let r = is_other c (taker (row_item s x) t) q in omega arith

      taker_in : c ≡ taker (row_item s x) t → c < length (grown s (row_item s x) t).entries
      taker_in q = owner_in (grown s (row_item s x) t) (snoc a (taker (row_item s x) t)) (grown_owned s x t total small a k w) c o

      at : (l : List Summary) → (grown s (row_item s x) t).entries ≡ l → get_or l c blank ≡ entry_at (grown s (row_item s x) t) c
      at l e = ap (λ l. get_or l c blank) (sym e)

      go : (b : Bool) → eqb (taker (row_item s x) t) (length t.entries) ≡ b
          → (grown s (row_item s x) t).entries ≡ cond b (snoc t.entries (push s x blank)) (change_at (push s x) (taker (row_item s x) t) t.entries)
          → (c ≡ taker (row_item s x) t) ⊎ (c ≢ taker (row_item s x) t) → Made s (snoc ys (called x)) (entry_at (grown s (row_item s x) t) c) (owns (snoc a (taker (row_item s x) t)) c)
      go true e f (inl q) =
          let n : taker (row_item s x) t ≡ length t.entries = (eq_test (taker (row_item s x) t) (length t.entries) true e).0 refl in
          subst (λ z. Made s (snoc ys (called x)) z (owns (snoc a (taker (row_item s x) t)) c))
          (sym (ap (λ i. get_or (snoc t.entries (push s x blank)) i blank) (q ∙ n) ∙ snoc-at t.entries (push s x blank) blank)
          ∙ at (snoc t.entries (push s x blank)) f)
          (taker-made ys x a len c (taker (row_item s x) t) blank q (blank-made a c (let p = weight_past t c (omega arith) in let r = w c in omega arith)))
      go true e f (inr q) =
          let n : taker (row_item s x) t ≡ length t.entries = (eq_test (taker (row_item s x) t) (length t.entries) true e).0 refl in
          subst (λ z. Made s (snoc ys (called x)) z (owns (snoc a (taker (row_item s x) t)) c))
          ((sym (snoc_off t.entries (push s x blank) blank c (λ z. q (z ∙ sym n)))) ∙ at (snoc t.entries (push s x blank)) f)
          (other_made ys x a len c (taker (row_item s x) t) (entry_at t c) q (m c (before q)))
      go false e f (inl q) =
          let l : length (grown s (row_item s x) t).entries ≡ length t.entries =
          ap (λ l. length l) f ∙ length-change (push s x) (taker (row_item s x) t) t.entries in
          let h : c < length t.entries = let r = taker_in q in omega arith in
          subst (λ z. Made s (snoc ys (called x)) z (owns (snoc a (taker (row_item s x) t)) c))
          ((sym (change-at (push s x) c blank t.entries h)) ∙ ap (λ i. get_or (change_at (push s x) i t.entries) c blank) q
          ∙ at (change_at (push s x) (taker (row_item s x) t) t.entries) f)
          (taker-made ys x a len c (taker (row_item s x) t) (entry_at t c) q (m c (owner_of s t total a k w c h)))
      go false e f (inr q) =
          subst (λ z. Made s (snoc ys (called x)) z (owns (snoc a (taker (row_item s x) t)) c))
          ((sym (change_off (push s x) (taker (row_item s x) t) c blank t.entries q)) ∙ at (change_at (push s x) (taker (row_item s x) t) t.entries) f)
          (other_made ys x a len c (taker (row_item s x) t) (entry_at t c) q (m c (before q)))

-- ---- one row

-- rebuild or not: the row is pushed into its taker, and a rebuild merges and renumbers
pub inserted-made : (s : Settings) (x : List Float) (t : Tree) (total : ℕ) (ys : List Origin) (a : List ℕ) → Caps s → 1 ≤ s.max_leaves → Kept s t total
    → total < most → length a ≡ length ys → Owned t a → AllMade s ys (entry_at t) a → AllMade s (snoc ys (called x)) (entry_at (inserted s x t)) (owners_in s x t a)
unfolding inserted owners_in
inserted-made s x t total ys a c one k h len w m =
    go (ltb s.max_leaves (length (grown s (row_item s x) t).entries)) (ltb→lt s.max_leaves (length (grown s (row_item s x) t).entries))
  where
    big : Whole s (grown s (row_item s x) t) (suc total)
    big = grown_holds s x t total c k.0 h

    now : AllMade s (snoc ys (called x)) (entry_at (grown s (row_item s x) t)) (snoc a (taker (row_item s x) t))
    now = grown-made s x t total h ys a len k.0 w m

    go : (b : Bool) → (T b → s.max_leaves < length (grown s (row_item s x) t).entries)
        → AllMade s (snoc ys (called x)) (entry_at (cond b (rebuilt s (grown s (row_item s x) t)) (grown s (row_item s x) t)))
        (cond b (map (λ c. rebuilt_to s (grown s (row_item s x) t) c) (snoc a (taker (row_item s x) t))) (snoc a (taker (row_item s x) t)))
    go false f = now
    go true f = (rebuild_moves big.1 big.2 one (f tt) (snoc a (taker (row_item s x) t)) (grown_owned s x t total h a k.0 w)).1 (snoc ys (called x)) now

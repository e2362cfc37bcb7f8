-- The account through rows and batches.
use Rattle.std.specs.Prelude.{ℕ, suc, ◌+◌, ◌≤◌, ◌<◌, ◌≡◌, Bool, T, ltb, length, get_or, Float, Option, None, Some}
use Rattle.std.proofs.Math.Path.{refl, sym, ap}
use Rattle.std.proofs.Common.{◌∙◌, subst, inl, inr, arith, ltb→lt}
use Rattle.std.proofs.Math.Bool.{true, false, cond}
use mathlib.Core.List.{List, map}
use Rattle.std.proofs.Math.Dec.{eqb}
use Rattle.binary64.specs.Whole.{most}
use Rattle.feature.specs.declared.Summary.{Summary}
use Rattle.feature.specs.Summaries.{blank}
use Rattle.head.specs.declared.Settings.{Settings}
use Rattle.rules.specs.Lists.{change_at, snoc}
use Rattle.rules.specs.Tree.{push, dist_to, Tree, node_at, entry_at, with_nodes, with_entries, row_count}
use Rattle.rules.specs.Descent.{searched, leaf_for, along_path}
use Rattle.rules.specs.Insert.{begun, absorbed, placed, absorbed_or_begun, grown_at, grown, absorbs, row_item}
use Rattle.rules.specs.Split.{split_from}
use Rattle.rules.specs.Rebuild.{rebuilt}
use Rattle.laws.specs.Invariant.Weights.{IsExact}
use Rattle.laws.specs.Running.{split_up_entries}
use Rattle.laws.specs.Inserting.Grown.{Hit, Whole}
use Rattle.counting.specs.Count.{is, eq_test}
use Rattle.counting.specs.Sums.{occurs-snoc, sum-at}
use Rattle.laws.specs.Invariant.Sound.{entry_weight, Caps}
use Rattle.laws.specs.Inserting.First.{Holding, leaf-of}
use Rattle.laws.specs.Room.Kept.{Kept}
use Rattle.promises.specs.Demand.{taker_of, taker, owners_in}
use Rattle.laws.specs.Moves.{rebuilt_to}
use Rattle.promises.specs.Locality.Entry.{winner_in, winner-found}
use Rattle.laws.specs.Invariant.Owned.{Owned}
use Rattle.promises.specs.Ownership.Carries.{joined_one}
use Rattle.promises.specs.Ownership.Merged.{rebuild_moves}
use Rattle.laws.specs.Inserting.Items.{grown_holds}
use Rattle.rules.specs.Rows.{inserted}

-- ---- a row in, before any rebuild

module _ (s : Settings) (x : List Float) (t : Tree) (total : ℕ) (small : total < most) where
  abbrev L : ℕ
  L = leaf_for t (λ c. dist_to s c x)

  abbrev U : Tree
  U = along_path (push s x) (leaf_for t (λ c. dist_to s c x)) t

  abbrev hit : Option ℕ
  hit =
      searched (λ e. dist_to s (entry_at (along_path (push s x) (leaf_for t (λ c. dist_to s c x)) t) e) x)
      (node_at (along_path (push s x) (leaf_for t (λ c. dist_to s c x)) t) (leaf_for t (λ c. dist_to s c x))).list

  exact : Holding s t total → (c : ℕ) → c < length t.entries → IsExact (entry_at t c) × (entry_weight t c < most)
  exact (inl b) c h = let z : length t.entries ≡ 0 = ap (λ u. length u.entries) b.0.is in absurd (omega arith)
  exact (inr w) c h = (w.1.exact.at_entry c h, let a = sum-at (entry_weight t) c (length t.entries) h in let b = w.2 in omega arith)

  hit_in : Holding s t total → Hit (λ e. e < length t.entries) (hit)
  hit_in k =
      let (here, leaf) = leaf-of s t total (λ c. dist_to s c x) k in
      subst (Hit (λ e. e < length t.entries)) (winner-found (row_item s x) L t) (winner_in s (row_item s x) L t total k here leaf)

  pub grown_owned : (a : List ℕ) → Holding s t total → Owned t a → Owned (grown s (row_item s x) t) (snoc a (taker (row_item s x) t))
  grown_owned a k w c =
      let p = occurs-snoc c a (taker (row_item s x) t) in
      let q = w c in
      let r = taken c in
      omega arith
    where
      joined : (c : ℕ) → entry_weight (absorbed_or_begun (row_item s x) L (hit) U) c ≡ entry_weight t c + is c (taker_of (row_item s x) (hit) U)
      joined c =
          joined_one s x U (unfold along_path with_nodes entry_weight entry_at in exact k) L (hit) (unfold along_path with_nodes in hit_in k) c
          ∙ (unfold along_path with_nodes entry_weight entry_at in refl)

      taken : (c : ℕ) → entry_weight (grown s (row_item s x) t) c ≡ entry_weight t c + is c (taker (row_item s x) t)
      taken c = unfold grown grown_at placed split_from taker in (ends c ∙ joined c)
        where
          ends : (c : ℕ) → entry_weight (split_from s L (absorbed_or_begun (row_item s x) L (hit) U)) c ≡ entry_weight (absorbed_or_begun (row_item s x) L (hit) U) c
          ends c =
              unfold split_from entry_weight entry_at in ap (λ l. row_count (get_or l c blank)) (split_up_entries s (length (absorbed_or_begun (row_item s x) L (hit) U).nodes) L
              (absorbed_or_begun (row_item s x) L (hit) U))

  -- the row was pushed into its taker, and nothing else of the entries changed
  pub grown_took : Holding s t total
      → (grown s (row_item s x) t).entries ≡ cond (eqb (taker (row_item s x) t) (length t.entries)) (snoc t.entries (push s x blank))
      (change_at (push s x) (taker (row_item s x) t) t.entries)
  grown_took k =
      unfold grown grown_at placed split_from taker in (split_up_entries s (length (absorbed_or_begun (row_item s x) L (hit) U).nodes) L (absorbed_or_begun (row_item s x) L (hit) U)
      ∙ joined (hit) (hit_in k))
    where
      at_end : (n : ℕ) (p q : List Summary) → cond (eqb n n) p q ≡ p
      at_end n p q = go (eqb n n) refl
        where
          go : (b : Bool) → eqb n n ≡ b → cond b p q ≡ p
          go true e = refl
          go false e = absurd ((eq_test n n false e).1 refl refl)

      not_end : (e n : ℕ) (p q : List Summary) → e < n → cond (eqb e n) p q ≡ q
      not_end e n p q h = go (eqb e n) refl
        where
          go : (b : Bool) → eqb e n ≡ b → cond b p q ≡ q
          go true z = let y = (eq_test e n true z).0 refl in absurd (omega arith)
          go false z = refl

      Out : ℕ → List Summary
      Out c = cond (eqb c (length t.entries)) (snoc t.entries (push s x blank)) (change_at (push s x) c t.entries)

      joined : (r : Option ℕ) → Hit (λ e. e < length t.entries) r → (absorbed_or_begun (row_item s x) L r U).entries ≡ Out (taker_of (row_item s x) r U)
      joined None h =
          unfold absorbed_or_begun taker_of begun with_nodes with_entries along_path in sym (at_end (length t.entries) (snoc t.entries (push s x blank))
          (change_at (push s x) (length t.entries) t.entries))
      joined (Some e) h = unfold absorbed_or_begun taker_of begun absorbed with_nodes with_entries along_path in pick (absorbs (row_item s x) e U)
        where
          pick : (b : Bool) → (cond b (absorbed (row_item s x) e U) (begun L (push s x blank) U)).entries ≡ Out (cond b e (length U.entries))
          pick true =
              unfold absorbed with_nodes with_entries along_path in sym (not_end e (length t.entries) (snoc t.entries (push s x blank))
              (change_at (push s x) e t.entries) h)
          pick false =
              unfold begun with_nodes with_entries along_path in sym (at_end (length t.entries) (snoc t.entries (push s x blank))
              (change_at (push s x) (length t.entries) t.entries))

-- ---- one row, and all

-- a row in, rebuild or not: each entry still weighs as many rows as the account gives it
pub inserted_owned : (s : Settings) (x : List Float) (t : Tree) (total : ℕ) (a : List ℕ) → Caps s → 1 ≤ s.max_leaves → Kept s t total → total < most
    → Owned t a → Owned (inserted s x t) (owners_in s x t a)
unfolding inserted owners_in
inserted_owned s x t total a c one k h w =
    go (ltb s.max_leaves (length (grown s (row_item s x) t).entries)) (ltb→lt s.max_leaves (length (grown s (row_item s x) t).entries))
  where
    big : Whole s (grown s (row_item s x) t) (suc total)
    big = grown_holds s x t total c k.0 h

    now : Owned (grown s (row_item s x) t) (snoc a (taker (row_item s x) t))
    now = grown_owned s x t total h a k.0 w

    go : (b : Bool) → (T b → s.max_leaves < length (grown s (row_item s x) t).entries)
        → Owned (cond b (rebuilt s (grown s (row_item s x) t)) (grown s (row_item s x) t)) (cond b (map (λ c. rebuilt_to s (grown s (row_item s x) t) c) (snoc a (taker (row_item s x) t))) (snoc a (taker (row_item s x) t)))
    go false f = now
    go true f = (rebuild_moves big.1 big.2 one (f tt) (snoc a (taker (row_item s x) t)) now).0

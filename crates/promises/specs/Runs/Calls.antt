-- Each accepted call on a tree at rest leaves a tree at rest, and moves the account with it; each entry stays made of its rows.
use Prim.Native.Nat.{ℕ, zero, suc, ◌+◌, ◌≤◌, ◌<◌}
use Rattle.std.proofs.Math.Path.{◌≡◌, ap, subst}
use Rattle.std.specs.Prelude.{refl, ◌≢◌, Bool, true, false, cond, eqb, ltb, Float}
use Rattle.std.proofs.Common.{sym, ◌∙◌, inl, inr}
use Rattle.std.proofs.Math.Bool.{not, true≢false}
use mathlib.Core.List.{List, [], ◌∷◌, ◌++◌, map, append-nil, append_assoc}
use native.Mathlib.Omega.{arith}
use Rattle.std.proofs.Math.ListN.{length}
use Rattle.std.proofs.lemmas.List.{length-map}
use Rattle.binary64.specs.Whole.{most}
use Rattle.head.specs.declared.Settings.{Settings}
use Rattle.head.specs.Limits.{Sized}
use Rattle.rules.specs.Lists.{snoc}
use Rattle.rules.specs.Tree.{Tree, entry_at}
use Rattle.rules.specs.Insert.{grown, row_item}
use Rattle.rules.specs.Refit.{refitted}
use Rattle.laws.specs.Invariant.Sound.{caps_of}
use Rattle.laws.specs.Inserting.First.{Holding}
use Rattle.laws.specs.Check.Both.{AtRest}
use Rattle.counting.specs.Lists.{snoc-length}
use Rattle.promises.specs.Demand.{taker, owners_in, owners_all, owners_refit, effective, Origin, called}
use Rattle.laws.specs.Moves.{rebuilt_to}
use Rattle.promises.specs.Ownership.Made.{AllMade}
use Rattle.laws.specs.Invariant.Owned.{Owned}
use Rattle.promises.specs.Ownership.Rows.{inserted_owned}
use Rattle.promises.specs.Ownership.RowsMade.{inserted-made}
use Rattle.laws.specs.Refitting.Refitted.{refit_whole}
use Rattle.laws.specs.Running.{Below}
use Rattle.rules.specs.Route.{Route}
use Rattle.laws.specs.Refitting.Names.{Names}
use Rattle.rules.specs.Rows.{inserted, inserted_all}
use Rattle.promises.specs.Ownership.Refitted.{refit_owned}
use Rattle.laws.specs.Resting.Rests.{row_rests}

-- ---- a tree at rest and its account

pub record Owning (s : Settings) (t : Tree) (rows : ℕ) (a : List ℕ) : Type 0 where
  pub rests : AtRest s t rows
  pub owned : Owned t a

-- one place more for a row
owners-length : (s : Settings) (x : List Float) (t : Tree) (a : List ℕ) → length (owners_in s x t a) ≡ suc (length a)
unfolding owners_in
owners-length s x t a = go (ltb s.max_leaves (length (grown s (row_item s x) t).entries))
  where
    go : (b : Bool) → length (cond b (map (rebuilt_to s (grown s (row_item s x) t)) (snoc a (taker (row_item s x) t))) (snoc a (taker (row_item s x) t))) ≡ suc (length a)
    go true = length-map (snoc a (taker (row_item s x) t)) (rebuilt_to s (grown s (row_item s x) t)) ∙ snoc-length a (taker (row_item s x) t)
    go false = snoc-length a (taker (row_item s x) t)

module _ {s : Settings} (z : Sized s) where
  -- and its account
  pub row_owning : (x : List Float) (t : Tree) (rows : ℕ) (a : List ℕ) → Owning s t rows a → rows < most
      → Owning s (inserted s x t) (suc rows) (owners_in s x t a)
  row_owning x t rows a o h =
      let r = o.rests in
      record { rests = row_rests z x t rows r h; owned = inserted_owned s x t rows a (caps_of z) z.most-some (r.holds, r.few) h o.owned }

  -- so with any rows
  pub batch-owning : (xs : List (List Float)) (t : Tree) (rows : ℕ) (a : List ℕ) → Owning s t rows a → rows + length xs ≤ most
      → Owning s (inserted_all s xs t) (rows + length xs) (owners_all s xs t a)
  unfolding inserted_all owners_all
  batch-owning [] t rows a o h = let e : rows ≡ rows + 0 = omega arith in subst (λ n. Owning s t n a) e o
  batch-owning (x ∷ xs) t rows a o h =
      let e : suc rows + length xs ≡ rows + suc (length xs) = omega arith in
      subst (λ n. Owning s (inserted_all s xs (inserted s x t)) n (owners_all s xs (inserted s x t) (owners_in s x t a))) e
      (batch-owning xs (inserted s x t) (suc rows) (owners_in s x t a) (row_owning x t rows a o (omega arith)) (omega arith))

  -- entries that are made of the rows ys so far are made of these and the batch's rows
  pub batch-made : (xs : List (List Float)) (t : Tree) (ys : List Origin) (a : List ℕ) → Owning s t (length ys) a → length a ≡ length ys
      → length ys + length xs ≤ most → AllMade s ys (entry_at t) a → AllMade s (ys ++ map called xs) (entry_at (inserted_all s xs t)) (owners_all s xs t a)
  unfolding inserted_all owners_all snoc
  batch-made [] t ys a o len h m = subst (λ l. AllMade s l (entry_at t) a) (sym (append-nil ys)) m
  batch-made (x ∷ xs) t ys a o len h m =
      let r = o.rests in
      let n : length (snoc ys (called x)) ≡ suc (length ys) = snoc-length ys (called x) in
      let k = owners-length s x t a in
      subst (λ l. AllMade s l (entry_at (inserted_all s xs (inserted s x t))) (owners_all s xs (inserted s x t) (owners_in s x t a)))
      (append_assoc ys (called x ∷ []) (map called xs))
      (batch-made xs (inserted s x t) (snoc ys (called x)) (owners_in s x t a)
      (subst (λ n. Owning s (inserted s x t) n (owners_in s x t a)) (sym n) (row_owning x t (length ys) a o (omega arith))) (omega arith) (omega arith)
      (inserted-made s x t (length ys) ys a (caps_of z) z.most-some (r.holds, r.few) (omega arith) len o.owned m))

  -- an effective refit: the account, and what the entries are made of
  effective_both : (way : Route) → Names s way → (xs : List (List Float)) (t : Tree) (rows : ℕ) (a : List ℕ) → AtRest s t rows → effective xs t ≡ true → length xs ≤ most
      → Owning s (refitted s way xs t) (length xs) (owners_refit s way xs t a) × AllMade s (map called xs) (entry_at (refitted s way xs t)) (owners_refit s way xs t a)
  unfolding effective
  effective_both way names [] t rows a r e h = let z : ◌≡◌ {A = ℕ} 0 1 = cc in absurd (omega arith)
  effective_both way names (x ∷ xs) t rows a r e h = go r.holds
    where
      some_entry : length t.entries ≢ 0
      some_entry q = true≢false (sym e ∙ ap (λ n. not (eqb n 0)) q)

      go : Holding s t rows → Owning s (refitted s way (x ∷ xs) t) (suc (length xs)) (owners_refit s way (x ∷ xs) t a)
          × AllMade s (map called (x ∷ xs)) (entry_at (refitted s way (x ∷ xs) t)) (owners_refit s way (x ∷ xs) t a)
      go (inl b) = absurd (some_entry (ap (λ u. length u.entries) b.0.is))
      go (inr w) =
          let some : 0 < length t.entries = let n = some_entry in omega arith in
          let (whole, few, running) = refit_whole s way names x xs t rows (caps_of z) w some h in
          let (owned, made) = refit_owned s way names x xs t rows a (caps_of z) w some h in
          let old = r.few in
          (record { rests = record { holds = inr whole; few = omega arith; below = subst (Below s) (sym running) r.below }; owned = owned }, made)

  -- an effective refit asks nothing of the account before it
  pub effective-owning : (way : Route) → Names s way → (xs : List (List Float)) (t : Tree) (rows : ℕ) (a : List ℕ) → AtRest s t rows → effective xs t ≡ true → length xs ≤ most
      → Owning s (refitted s way xs t) (length xs) (owners_refit s way xs t a)
  effective-owning way names xs t rows a r e h = (effective_both way names xs t rows a r e h).0

  -- nor of what the entries were made of: they are made of its own rows
  pub effective-made : (way : Route) → Names s way → (xs : List (List Float)) (t : Tree) (rows : ℕ) (a : List ℕ) → AtRest s t rows → effective xs t ≡ true → length xs ≤ most
      → AllMade s (map called xs) (entry_at (refitted s way xs t)) (owners_refit s way xs t a)
  effective-made way names xs t rows a r e h = (effective_both way names xs t rows a r e h).1

pub effective-some : (xs : List (List Float)) (t : Tree) → effective xs t ≡ true → 0 < length t.entries
unfolding effective
effective-some [] t e = let z : ◌≡◌ {A = ℕ} 0 1 = cc in absurd (omega arith)
effective-some (x ∷ xs) t e = go (length t.entries) e
  where
    go : (n : ℕ) → not (eqb n 0) ≡ true → 0 < n
    go zero e = let z : ◌≡◌ {A = ℕ} 0 1 = cc in absurd (omega arith)
    go (suc n) e = omega arith

-- any other refit alters nothing
pub idle_refit : (s : Settings) (way : Route) (xs : List (List Float)) (t : Tree) (a : List ℕ) → effective xs t ≡ false → (refitted s way xs t ≡ t) × (owners_refit s way xs t a ≡ a)
unfolding effective refitted owners_refit
idle_refit s way [] t a e = (refl, refl)
idle_refit s way (x ∷ xs) t a e = go (eqb (length t.entries) 0) e _ _
  where
    go : (b : Bool) → not b ≡ false → (u : Tree) (c : List ℕ) → (cond b t u ≡ t) × (cond b a c ≡ a)
    go true e u c = (refl, refl)
    go false e u c = absurd (true≢false e)

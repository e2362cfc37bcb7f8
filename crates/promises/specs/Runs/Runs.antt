-- The promise at the end of any run over the rules: a tree that passes the check, and any accepted calls but creation, each on what the last one left.
use Rattle.std.specs.Prelude.{ℕ, ◌+◌, ◌≤◌, ◌<◌, ◌⊎◌, Bool, cond, Float, Ok}
use Rattle.std.proofs.Math.Path.{◌≡◌, refl, subst}
use Rattle.std.proofs.Common.{sym, ap, ◌∙◌, inl, inr}
use Rattle.std.proofs.Math.Bool.{true, false}
use mathlib.Core.List.{List, [], ◌∷◌, ◌++◌, map}
use native.Mathlib.Omega.{arith}
use Rattle.std.proofs.Math.ListN.{length, length-append}
use Rattle.std.proofs.lemmas.List.{length-map}
use Rattle.binary64.specs.Whole.{most}
use Rattle.feature.specs.Summaries.{blank}
use Rattle.head.specs.declared.Settings.{Settings}
use Rattle.head.specs.Limits.{Sized}
use Rattle.rules.specs.Lists.{occurs}
use Rattle.rules.specs.CheckLaws.{passes_total}
use Rattle.rules.specs.Tree.{Tree, entry_at}
use Rattle.rules.specs.Refit.{refitted}
use Rattle.rules.specs.Check.{total_of, leaf_lists, checked, Binary64}
use Rattle.counting.specs.Count.{below, below_in, below_out}
use Rattle.laws.specs.Invariant.Sound.{entry_weight}
use Rattle.laws.specs.Inserting.First.{Holding}
use Rattle.laws.specs.Check.Passing.{entries_sum}
use Rattle.laws.specs.Check.Accept.{once_back}
use Rattle.laws.specs.Check.Both.{AtRest, none-total, resting_passes, passing_linked}
use Rattle.promises.specs.Demand.{Origin, called, origins_of, standing, owners_all, owners_refit, effective, rows_refit, Promise, NodesExact}
use Rattle.promises.specs.Ownership.Made.{AllMade}
use Rattle.promises.specs.Ownership.RowsMade.{owner_of}
use Rattle.laws.specs.Invariant.Owned.{owned_sum}
use Rattle.promises.specs.Ownership.Account.{nodes_exact, holding_account}
use Rattle.promises.specs.Runs.Lent.{origins_length, lent-owning, lent-made}
use Rattle.laws.specs.Resting.Threshold.{all_fine, refitted_fine}
use Rattle.promises.specs.Runs.Calls.{Owning, batch-owning, batch-made, effective-owning, effective-made, idle_refit, effective-some}
use Rattle.laws.specs.Running.{Fine}
use Rattle.rules.specs.Route.{Route}
use Rattle.laws.specs.Refitting.Names.{Names}
use Rattle.rules.specs.Rows.{inserted_all}
use Rattle.laws.specs.Resting.Rests.{rest-total}

-- a run from a tree t₀ that passes the check: the tree that it leaves, the rows since the last effective refit with that refit's own,
-- or since the start with those behind the entries of t₀, and whose each of these rows is.
-- A row is a batch of one. Calls that change nothing are left out, and so are refused ones.
pub data Run (s : Settings) (t₀ : Tree) : Tree → List Origin → List ℕ → Type 0 where
  start : Binary64 t₀ → checked s t₀ ≡ Ok tt → Run s t₀ t₀ (origins_of t₀.entries) (standing 0 t₀.entries)
  insert : {t : Tree} {ys : List Origin} {a : List ℕ} (xs : List (List Float)) → total_of t.entries + length xs ≤ most → Run s t₀ t ys a
      → Run s t₀ (inserted_all s xs t) (ys ++ map called xs) (owners_all s xs t a)
  refit : {t : Tree} {ys : List Origin} {a : List ℕ} {way : Route} → Names s way → (xs : List (List Float)) → (0 < length t.entries → length xs ≤ most)
      → Run s t₀ t ys a → Run s t₀ (refitted s way xs t) (rows_refit xs t ys) (owners_refit s way xs t a)

-- ---- what holds throughout

refit_owning : {s : Settings} → Sized s → (way : Route) → Names s way → (xs : List (List Float)) (t : Tree) (ys : List Origin) (a : List ℕ)
    → (0 < length t.entries → length xs ≤ most) → Owning s t (length ys) a → Owning s (refitted s way xs t) (length (rows_refit xs t ys)) (owners_refit s way xs t a)
unfolding rows_refit
refit_owning {s} z way names xs t ys a room o = go (effective xs t) refl
  where
    go : (b : Bool) → effective xs t ≡ b → Owning s (refitted s way xs t) (length (cond b (map called xs) ys)) (owners_refit s way xs t a)
    go true e =
        subst (λ n. Owning s (refitted s way xs t) n (owners_refit s way xs t a)) (sym (length-map xs called))
        (effective-owning z way names xs t (length ys) a o.rests e (room (effective-some xs t e)))
    go false e =
        let q = idle_refit s way xs t a e in
        subst (λ u. Owning s u (length ys) (owners_refit s way xs t a)) (sym q.0) (subst (λ c. Owning s t (length ys) c) (sym q.1) o)

-- after a refit each entry is made of the refit's rows; one that is not effective leaves all
refit_made : {s : Settings} → Sized s → (way : Route) → Names s way → (xs : List (List Float)) (t : Tree) (ys : List Origin) (a : List ℕ)
    → (0 < length t.entries → length xs ≤ most) → AtRest s t (length ys) → AllMade s ys (entry_at t) a
    → AllMade s (rows_refit xs t ys) (entry_at (refitted s way xs t)) (owners_refit s way xs t a)
unfolding rows_refit
refit_made {s} z way names xs t ys a room r m = go (effective xs t) refl
  where
    go : (b : Bool) → effective xs t ≡ b → AllMade s (cond b (map called xs) ys) (entry_at (refitted s way xs t)) (owners_refit s way xs t a)
    go true e = effective-made z way names xs t (length ys) a r e (room (effective-some xs t e))
    go false e =
        let q = idle_refit s way xs t a e in
        subst (λ u. AllMade s ys (entry_at u) (owners_refit s way xs t a)) (sym q.0) (subst (λ c. AllMade s ys (entry_at t) c) (sym q.1) m)

module _ {s : Settings} (z : Sized s) {t₀ : Tree} where
  -- at rest, with an account, at the end of any run
  pub run_owning : {t : Tree} {ys : List Origin} {a : List ℕ} → Run s t₀ t ys a → Owning s t (length ys) a
  run_owning (start n ok) = subst (λ k. Owning s t₀ k (standing 0 t₀.entries)) (sym (origins_length t₀.entries)) (lent-owning s t₀ n ok)
  run_owning (insert {t} {ys} {a} xs room r) =
      let o = run_owning r in
      let e = rest-total o.rests in
      let n = length-append ys (map called xs) in
      let m = length-map xs called in
      subst (λ n. Owning s (inserted_all s xs t) n (owners_all s xs t a)) (let q : length ys + length xs ≡ length (ys ++ map called xs) = omega arith in q)
      (batch-owning z xs t (length ys) a o (omega arith))
  run_owning (refit {t} {ys} {a} {way} names xs room r) = refit_owning z way names xs t ys a room (run_owning r)

-- the account is as long as the rows
pub owned_length : {s : Settings} {t : Tree} {rows : ℕ} {a : List ℕ} → Owning s t rows a → length a ≡ rows
unfolding entry_weight entry_at
owned_length {s} {t} {rows} {a} o = owned_sum t a o.owned ∙ sym (entries_sum blank t.entries) ∙ rest-total o.rests

some_rows : {s : Settings} {t : Tree} {rows : ℕ} {a : List ℕ} → Owning s t rows a → 0 < rows → length t.entries ≡ 0 → ⊥
some_rows {s} {t} o p e = let q = none-total t.entries e in let r = rest-total o.rests in omega arith

module _ {s : Settings} (z : Sized s) {t₀ : Tree} where
  -- each entry is made of its rows, at the end of any run
  pub run_made : {t : Tree} {ys : List Origin} {a : List ℕ} → Run s t₀ t ys a → AllMade s ys (entry_at t) a
  run_made (start n ok) = lent-made s t₀
  run_made (insert {t} {ys} {a} xs room r) =
      let o = run_owning z r in
      let e = rest-total o.rests in
      batch-made z xs t ys a o (owned_length o) (omega arith) (run_made r)
  run_made (refit {t} {ys} {a} {way} names xs room r) = refit_made z way names xs t ys a room (run_owning z r).rests (run_made r)

  -- a tree without entries is the one that was lent
  pub run_empty : {t : Tree} {ys : List Origin} {a : List ℕ} → Run s t₀ t ys a → length t.entries ≡ 0 → t ≡ t₀
  run_empty (start n ok) e = refl
  run_empty (insert {t} {ys} {a} xs room r) e = go xs room (λ q. run_empty r q) e
    where
      go : (xs : List (List Float)) → total_of t.entries + length xs ≤ most → (length t.entries ≡ 0 → t ≡ t₀)
          → length (inserted_all s xs t).entries ≡ 0 → inserted_all s xs t ≡ t₀
      go [] room ih e = unfold inserted_all in ih e
      go (x ∷ xs) room ih e = absurd (some_rows (run_owning z (insert (x ∷ xs) room r)) (let q = length-append ys (map called (x ∷ xs)) in omega arith) e)
  run_empty (refit {t} {ys} {a} {way} names xs room r) e = go (effective xs t) refl (λ q. run_empty r q)
    where
      go : (b : Bool) → effective xs t ≡ b → (length t.entries ≡ 0 → t ≡ t₀) → refitted s way xs t ≡ t₀
      go true q ih =
          absurd (some_rows (run_owning z (refit names xs room r))
          (unfold rows_refit in subst (λ b. 0 < length (cond b (map called xs) ys)) (sym q) (rows_some xs q)) e)
        where
          rows_some : (xs : List (List Float)) → effective xs t ≡ true → 0 < length (map called xs)
          rows_some [] q = let z : ◌≡◌ {A = ℕ} 0 1 = unfold effective in cc in absurd (omega arith)
          rows_some (x ∷ xs) q = omega arith
      go false q ih = let i = (idle_refit s way xs t a q).0 in i ∙ ih (subst (λ u. length u.entries ≡ 0) i e)

-- ---- the promise

-- demand 3 at the end of any run
pub run_keeps : {s : Settings} → Sized s → {t₀ t : Tree} {ys : List Origin} {a : List ℕ} → Run s t₀ t ys a → Promise s t ys a
run_keeps {s} z {t₀} {t} {ys} {a} r =
    let o = run_owning z r in
    let ok = resting_passes s t (length ys) o.rests in
    let listed : (c : ℕ) → occurs c (leaf_lists t.nodes) ≡ below c (length t.entries) =
    once_back (length t.entries) (leaf_lists t.nodes) (passing_linked s t ok) in
    record {
      few = o.rests.few;
      once = (λ c h. listed c ∙ below_in c (length t.entries) h);
      none = (λ c h. listed c ∙ below_out c (length t.entries) h);
      each = owned_length o;
      exact = (let a = owned_length o in let b = rest-total o.rests in let c = passes_total s t ok in omega arith);
      account = holding_account s t (length ys) a o.rests.holds o.owned;
      made = (λ c h. run_made z r c (owner_of s t (length ys) a o.rests.holds o.owned c h));
      passes = ok;
    }

-- with entries each node's weight is its count to the bit; without, it is what the lent tree has
pub run_nodes : {s : Settings} → Sized s → {t₀ t : Tree} {ys : List Origin} {a : List ℕ} → Run s t₀ t ys a
    → NodesExact t a ⊎ ((t ≡ t₀) × (a ≡ []))
run_nodes {s} z {t₀} {t} {ys} {a} r = let o = run_owning z r in go o o.rests.holds
  where
    go : Owning s t (length ys) a → Holding s t (length ys)
        → NodesExact t a ⊎ ((t ≡ t₀) × (a ≡ []))
    go o (inl b) = inr (run_empty z r (ap (λ u. length u.entries) b.0.is), none a (owned_length o ∙ b.1))
      where
        none : (c : List ℕ) → length c ≡ 0 → c ≡ []
        none [] e = refl
        none (x ∷ c) e = absurd (omega arith)
    go o (inr w) = inl (nodes_exact s t (length ys) a w o.owned)

-- the threshold stays finite and not below 0, so that a run can always go on
pub run_fine : {s : Settings} {t₀ t : Tree} {ys : List Origin} {a : List ℕ} → Run s t₀ t ys a → Fine t₀.running → Fine t.running
run_fine (start n ok) f = f
run_fine {s} (insert {t} xs room r) f = all_fine s xs t (run_fine r f)
run_fine {s} (refit {t} {way = way} names xs room r) f = refitted_fine s way xs t (run_fine r f)

-- One public call on buffers that hold a tree at rest: accepted, they hold the rule's tree, at rest again; refused, they are as before.
use Rattle.std.specs.Prelude.{ℕ, ◌+◌, ◌/◌, ◌≤◌, ◌<◌, ◌≡◌, List, [], ◌∷◌, ◌++◌, map, Float, Ok, Err}
use Rattle.std.proofs.Math.Path.{refl}
use Rattle.std.proofs.Common.{sym, subst, ◌∙◌, arith}
use Rattle.std.proofs.Math.ListN.{length}
use Rattle.binary64.specs.Whole.{most}
use Rattle.head.specs.declared.Settings.{Settings}
use Rattle.head.specs.declared.Head.{Head}
use Rattle.head.specs.declared.refusal.Refusal.{Refusal}
use Rattle.head.specs.Heads.{settings_of}
use Rattle.rules.specs.Calls.{create_refusals, row_refusals, batch_refusals, refit_refusals, Lent, Left, lent_tree, changed, settle, validated, tree_refusals}
use Rattle.rules.specs.Calls.{made_by, created, row_inserted, batch_inserted, batch_refitted}
use Rattle.rules.specs.Tree.{Tree}
use Rattle.rules.specs.ListLaws.{rows_count}
use Rattle.rules.specs.CallLaws.{accepted_done, row_taken, batch-taken, refit_taken, changed_settings, tree_readable}
use Rattle.rules.specs.Lists.{rows_of}
use Rattle.rules.specs.Check.{total_of, Binary64}
use Rattle.rules.specs.Insert.{grown, row_item}
use Rattle.rules.specs.Refit.{refitted}
use Rattle.laws.specs.Shapes.{ShapedTree, batch_shaped, refit_shaped, lent_shaped}
use Rattle.promises.specs.Demand.{Origin, called, batch_rows, after, owners_in, owners_all, owners_refit, rows_refit, RowLocal, origins_of, standing}
use Rattle.promises.specs.Locality.Row.{no_rebuild, row_local}
use Rattle.promises.specs.Runs.Runs.{Run, run_owning, start, insert, refit}
use Rattle.laws.specs.Resting.Rests.{rest-total, row_rests}
use Rattle.laws.specs.Resting.Threshold.{inserted_fine, all_fine, refitted_fine}
use Rattle.laws.specs.Running.{Fine}
use Rattle.rules.specs.Route.{greedy}
use Rattle.laws.specs.Refitting.Names.{greedy-names}
use Rattle.rules.specs.Rows.{inserted_all, inserted}
use Rattle.rules.specs.RefusalLaws.{accepted_none}
use Rattle.laws.specs.Resting.Serving.{Serving, sizes_of, left-tree, serving_next}

-- ---- what holds throughout: head and buffers serve, and the tree in them is that of a run over the rules from t₀

pub record Public (t₀ : Tree) (h : Head) (fs : List Float) (ls : List ℕ) (ys : List Origin) (a : List ℕ) : Type 0 where
  pub serving : Serving h fs ls (length ys)
  pub run : Run (settings_of h) t₀ (lent_tree h fs ls) ys a

-- one call from there: the rule's tree u, left in the buffers
module _ {t₀ : Tree} (h : Head) (l : Lent) {ys : List Origin} {a : List ℕ} (p : Public t₀ h l.floats l.links ys a) where
  next : (u : Tree) (zs : List Origin) (b : List ℕ) → (Fine (lent_tree h l.floats l.links).running → Fine u.running)
      → Run (settings_of h) t₀ u zs b → ShapedTree (settings_of h) u
      → Public t₀ (changed h l u).head (changed h l u).lent.floats (changed h l u).lent.links zs b
  next u zs b fine r k =
      let rest = (run_owning (sizes_of p.serving) r).rests in
      record {
        serving = serving_next h l p.serving u rest k fine;
        run = subst (λ s. Run s t₀ (lent_tree (changed h l u).head (changed h l u).lent.floats (changed h l u).lent.links) zs b)
            (sym (changed_settings h l u)) (subst (λ t. Run (settings_of h) t₀ t zs b) (sym (left-tree h l p.serving u rest k)) r);
      }

abbrev PublicAfter : Tree → Left → List Origin → List ℕ → Type 0
PublicAfter t₀ o ys a = Public t₀ o.head o.lent.floats o.lent.links ys a

-- accepted, the call leaves what it says; refused, all is as before
answered : {t₀ : Tree} (rs : List Refusal) (h : Head) (l : Lent) (u : Tree) {ys zs : List Origin} {a b : List ℕ} → Public t₀ h l.floats l.links ys a
    → ((settle rs h l (changed h l u)).answer ≡ Ok tt → PublicAfter t₀ (settle rs h l (changed h l u)) zs b)
    → (o : Left) → o ≡ settle rs h l (changed h l u) → PublicAfter t₀ o (after o.answer zs ys) (after o.answer b a)
answered {t₀} rs h l u {ys} {zs} {a} {b} p q o e = subst (λ o. PublicAfter t₀ o (after o.answer zs ys) (after o.answer b a)) (sym e) (go rs q)
  where
    go : (rs : List Refusal) → ((settle rs h l (changed h l u)).answer ≡ Ok tt → PublicAfter t₀ (settle rs h l (changed h l u)) zs b)
        → PublicAfter t₀ (settle rs h l (changed h l u)) (after (settle rs h l (changed h l u)).answer zs ys)
        (after (settle rs h l (changed h l u)).answer b a)
    go [] q = unfold settle changed after in q refl
    go (r ∷ rs) q = unfold settle after in p

module _ (h : Head) (l : Lent) where
  abbrev s : Settings
  s = settings_of h

  abbrev t : Tree
  t = lent_tree h l.floats l.links

  -- ---- accepted: the rule's tree is left, and the rows fit below 2^53

  pub row_accepted : (x : List Float) → (row_inserted h l x).answer ≡ Ok tt → (row_inserted h l x ≡ changed h l (inserted s x t))
      × (total_of t.entries + 1 ≤ most)
  unfolding row_inserted
  row_accepted x e = let (taken, is) = accepted_done (row_refusals h l x) h l (changed h l (inserted s x t)) e in (is, (row_taken h l x taken).room)

  pub batch_accepted : (xs : List Float) → (batch_inserted h l xs).answer ≡ Ok tt
      → (batch_inserted h l xs ≡ changed h l (inserted_all s (batch_rows h xs) t)) × (total_of t.entries + length (batch_rows h xs) ≤ most)
  unfolding batch_inserted batch_rows
  batch_accepted xs e =
      let n = length xs / s.dim in
      let (taken, is) = accepted_done (batch_refusals h l xs) h l (changed h l (inserted_all s (rows_of n s.dim xs) t)) e in
      (is, rw (rows_count n s.dim xs) (batch-taken h l xs taken).room)

  pub refit_accepted : (xs : List Float) → (batch_refitted h l xs).answer ≡ Ok tt
      → (batch_refitted h l xs ≡ changed h l (refitted s (greedy s) (batch_rows h xs) t)) × (0 < length t.entries → length (batch_rows h xs) ≤ most)
  unfolding batch_refitted batch_rows
  refit_accepted xs e =
      let n = length xs / s.dim in
      let (taken, is) = accepted_done (refit_refusals h l xs) h l (changed h l (refitted s (greedy s) (rows_of n s.dim xs) t)) e in
      (is, rw (rows_count n s.dim xs) (refit_taken h l xs taken).room)

  module _ {t₀ : Tree} (ys : List Origin) (a : List ℕ) (p : Public t₀ h l.floats l.links ys a) where
    -- ---- what is left then is public

    row_run : (x : List Float) → total_of t.entries + 1 ≤ most
        → Run s t₀ (inserted s x t) (ys ++ (called x ∷ [])) (owners_in s x t a) × ShapedTree s (inserted s x t)
    unfolding inserted_all owners_all
    row_run x small = (insert {t = t} (x ∷ []) small p.run, batch_shaped s (x ∷ []) t p.serving.shaped)

    after_row : (x : List Float) → (row_inserted h l x).answer ≡ Ok tt → PublicAfter t₀ (row_inserted h l x) (ys ++ (called x ∷ [])) (owners_in s x t a)
    after_row x e =
        let (is, small) = row_accepted x e in
        let (run, k) = row_run x small in
        subst (λ o. PublicAfter t₀ o (ys ++ (called x ∷ [])) (owners_in s x t a)) (sym is)
        (next h l p (inserted s x t) (ys ++ (called x ∷ [])) (owners_in s x t a) (inserted_fine s x t) run k)

    after-batch : (xs : List Float) → (batch_inserted h l xs).answer ≡ Ok tt
        → PublicAfter t₀ (batch_inserted h l xs) (ys ++ map called (batch_rows h xs)) (owners_all s (batch_rows h xs) t a)
    after-batch xs e =
        let rows = batch_rows h xs in
        let (is, small) = batch_accepted xs e in
        let run : Run s t₀ (inserted_all s rows t) (ys ++ map called rows) (owners_all s rows t a) = insert {t = t} rows small p.run in
        subst (λ o. PublicAfter t₀ o (ys ++ map called rows) (owners_all s rows t a)) (sym is)
        (next h l p (inserted_all s rows t) (ys ++ map called rows) (owners_all s rows t a) (all_fine s rows t) run (batch_shaped s rows t p.serving.shaped))

    after_refit : (xs : List Float) → (batch_refitted h l xs).answer ≡ Ok tt
        → PublicAfter t₀ (batch_refitted h l xs) (rows_refit (batch_rows h xs) t ys) (owners_refit s (greedy s) (batch_rows h xs) t a)
    after_refit xs e =
        let rows = batch_rows h xs in
        let (is, small) = refit_accepted xs e in
        let run : Run s t₀ (refitted s (greedy s) rows t) (rows_refit rows t ys) (owners_refit s (greedy s) rows t a) = refit {t = t} (greedy-names s) rows small p.run in
        subst (λ o. PublicAfter t₀ o (rows_refit rows t ys) (owners_refit s (greedy s) rows t a)) (sym is)
        (next h l p (refitted s (greedy s) rows t) (rows_refit rows t ys) (owners_refit s (greedy s) rows t a) (refitted_fine s (greedy s) rows t) run (refit_shaped s (greedy s) rows t p.serving.shaped))

    -- ---- with any answer

    pub any_row : (x : List Float) (o : Left) → o ≡ row_inserted h l x
        → PublicAfter t₀ o (after o.answer (ys ++ (called x ∷ [])) ys) (after o.answer (owners_in s x t a) a)
    unfolding row_inserted
    any_row x o e = answered (row_refusals h l x) h l (inserted s x t) p (after_row x) o e

    pub any-batch : (xs : List Float) (o : Left) → o ≡ batch_inserted h l xs
        → PublicAfter t₀ o (after o.answer (ys ++ map called (batch_rows h xs)) ys) (after o.answer (owners_all s (batch_rows h xs) t a) a)
    unfolding batch_inserted batch_rows
    any-batch xs o e =
        answered (batch_refusals h l xs) h l (inserted_all s (rows_of (length xs / s.dim) s.dim xs) t) p (after-batch xs) o e

    pub any_refit : (xs : List Float) (o : Left) → o ≡ batch_refitted h l xs
        → PublicAfter t₀ o (after o.answer (rows_refit (batch_rows h xs) t ys) ys) (after o.answer (owners_refit s (greedy s) (batch_rows h xs) t a) a)
    unfolding batch_refitted batch_rows
    any_refit xs o e = answered (refit_refusals h l xs) h l (refitted s (greedy s) (rows_of (length xs / s.dim) s.dim xs) t) p (after_refit xs) o e

    -- ---- locality of an accepted row without a rebuild

    pub row_left : (x : List Float) → (row_inserted h l x).answer ≡ Ok tt → length (grown s (row_item s x) t).entries ≤ s.max_leaves
        → let o = row_inserted h l x in RowLocal s x t (lent_tree o.head o.lent.floats o.lent.links)
    row_left x e few =
        let (is, small) = row_accepted x e in
        let z = sizes_of p.serving in
        let rest = p.serving.rests in
        let n = rest-total rest in
        let left = left-tree h l p.serving (inserted s x t) (row_rests z x t (length ys) rest (omega arith)) (row_run x small).1 in
        subst (λ o. RowLocal s x t (lent_tree o.head o.lent.floats o.lent.links)) (sym is)
        (subst (λ u. RowLocal s x t u) (sym (left ∙ no_rebuild s x t few)) (row_local s x t z rest (omega arith)))

made_refused : (rs : List Refusal) (r : Refusal) (h : Head) (fs : List Float) (ls : List ℕ) {t₀ : Tree} {ys : List Origin} {a : List ℕ}
    → (made_by rs h fs ls).answer ≡ Err r → Public t₀ h fs ls ys a
    → Public t₀ (made_by rs h fs ls).head (made_by rs h fs ls).floats (made_by rs h fs ls).links ys a
unfolding made_by
made_refused [] r h fs ls e p = let z : ◌≡◌ {A = ℕ} 0 1 = cc in absurd (omega arith)
made_refused (q ∷ rs) r h fs ls e p = p

pub after_refused : (r : Refusal) (h : Head) (fs : List Float) (ls : List ℕ) {t₀ : Tree} {ys : List Origin} {a : List ℕ}
    → (created h fs ls).answer ≡ Err r → Public t₀ h fs ls ys a
    → Public t₀ (created h fs ls).head (created h fs ls).floats (created h fs ls).links ys a
unfolding created
after_refused r h fs ls e p = made_refused (create_refusals h fs ls) r h fs ls e p

-- ---- the start: a head and buffers that validation accepts

pub after_validate : (h : Head) (fs : List Float) (ls : List ℕ) → Binary64 (lent_tree h fs ls) → validated h fs ls ≡ Ok tt
    → Public (lent_tree h fs ls) h fs ls (origins_of (lent_tree h fs ls).entries) (standing 0 (lent_tree h fs ls).entries)
unfolding validated
after_validate h fs ls n e =
    let r = tree_readable h fs ls (accepted_none (tree_refusals h fs ls) e) in
    let run : Run (settings_of h) (lent_tree h fs ls) (lent_tree h fs ls) (origins_of (lent_tree h fs ls).entries) (standing 0 (lent_tree h fs ls).entries) =
    start n r.passes in
    record {
      serving = record {
        allows = r.allows;
        floats_room = r.roomy.floats_room;
        links_room = r.roomy.links_room;
        rests = (run_owning r.roomy.sized run).rests;
        shaped = (unfold lent_tree in lent_shaped (settings_of h) r.roomy.sized h.counters fs ls);
      };
      run = run;
    }

-- What a start from creation adds: its buffers hold a fresh tree, which validation accepts, so that every row is a row of a call.
use Rattle.std.specs.Prelude.{ℕ, ◌≡◌, refl, ◌⊎◌, Bool, true, false, cond, List, [], ◌∷◌, ◌++◌, map, T, pos, length, Float, Ok, Err}
use Rattle.std.proofs.Common.{sym, ap, ◌∙◌, inl, inr, arith, le-leb}
use Rattle.std.proofs.Math.Path.{subst}
use Rattle.std.proofs.lemmas.List.{map-append}
use Rattle.std.specs.Float.Ieee.Fits.{of_int-fits}
use Rattle.std.specs.Float.{binary64}
use Rattle.std.specs.Float.Ieee.{fits}
use Rattle.binary64.specs.Whole.{whole}
use Rattle.head.specs.declared.Head.{Head}
use Rattle.head.specs.Refusals.{Answer}
use Rattle.head.specs.Heads.{settings_of}
use Rattle.head.specs.Sizes.{links_needed, floats_needed}
use Rattle.rules.specs.Calls.{Made, create_refusals, lent_tree, created, validated, tree_refusals, answer_of}
use Rattle.rules.specs.Calls.{unless, settings_refusal, room_refusal, tree_refusal}
use Rattle.rules.specs.Tree.{Tree, node_at, blank_node, fresh}
use Rattle.laws.specs.Invariant.Weights.{blank_exact}
use Rattle.laws.specs.Check.Both.{resting_passes}
use Rattle.promises.specs.Demand.{Origin, called, origins_of, standing, batch_rows, after, effective, rows_refit, rows_among, NodesExact, Calls, start, row, batch, refit_all, create_again, read, FromCreation}
use Rattle.rules.specs.Check.{Binary64}
use Rattle.promises.specs.Runs.Runs.{run_nodes}
use Rattle.laws.specs.Resting.Serving.{Fresh, created-fresh, sizes_of}
use Rattle.promises.specs.Runs.Public.{calls_public}

-- ---- creation is a start

abbrev held : Made → Tree
held m = lent_tree m.head m.floats m.links

fresh_accepted : (m : Made) → Fresh m → validated m.head m.floats m.links ≡ Ok tt
unfolding validated tree_refusals create_refusals settings_refusal room_refusal tree_refusal unless answer_of
fresh_accepted m f =
    let s = settings_of m.head in
    let p = f.serving in
    rw (
      p.allows,
      le-leb (floats_needed s) (length m.floats) p.floats_room,
      le-leb (links_needed s) (length m.links) p.links_room,
      resting_passes s (held m) 0 p.rests,
    )

fresh_binary64 : (h : Float) → Binary64 (fresh h)
unfolding fresh node_at blank_node
fresh_binary64 h = record {
  nodes_fit = (λ k l. subst (λ j. T (fits binary64 (node_at (fresh h) j).summary.weight)) (let z : 0 ≡ k = omega arith in z)
      (subst (λ w. T (fits binary64 w)) (sym blank_exact.0) (of_int-fits binary64 (pos 0))));
  entries_fit = (λ c l. absurd (omega arith));
}

module _ (h : Head) (fs : List Float) (ls : List ℕ) (e : (created h fs ls).answer ≡ Ok tt) where
  abbrev m : Made
  m = created h fs ls

  abbrev FromNew : Head → List Float → List ℕ → List Origin → List ℕ → Type 0
  FromNew = Calls m.head m.floats m.links

  is-fresh : Fresh m
  is-fresh = created-fresh h fs ls e

  -- an accepted creation begins a run, with no rows
  pub created_starts : FromNew m.head m.floats m.links [] []
  unfolding fresh origins_of standing
  created_starts =
      subst (λ t. FromNew m.head m.floats m.links (origins_of t.entries) (standing 0 t.entries)) {y = fresh is-fresh.threshold} is-fresh.is begun
    where
      begun : FromNew m.head m.floats m.links (origins_of (held m).entries) (standing 0 (held m).entries)
      begun = start (subst Binary64 (sym is-fresh.is) (fresh_binary64 is-fresh.threshold)) (fresh_accepted m is-fresh)

-- a fresh tree's one node weighs 0
fresh_nodes : (h : Float) → NodesExact (fresh h) []
unfolding fresh node_at blank_node rows_among
fresh_nodes h k l = subst (λ j. (node_at (fresh h) j).summary.weight ≡ whole 0) (let z : 0 ≡ k = omega arith in z) blank_exact.0

-- ---- and every row is a row of a call

abbrev Called : List Origin → Type 0
Called ys = (rows : List (List Float)) × (ys ≡ map called rows)

called_more : {ys : List Origin} (xs : List (List Float)) → Called ys → Called (ys ++ map called xs)
called_more xs (rows, e) = (rows ++ xs, ap (λ l. l ++ map called xs) e ∙ sym (map-append called rows xs))

called_after : {ys zs : List Origin} (r : Answer) → Called zs → Called ys → Called (after r zs ys)
unfolding after
called_after (Ok tt) new old = new
called_after (Err r) new old = old

called_refit : {ys : List Origin} (xs : List (List Float)) (t : Tree) → Called ys → Called (rows_refit xs t ys)
unfolding rows_refit
called_refit {ys} xs t old = go (effective xs t)
  where
    go : (b : Bool) → Called (cond b (map called xs) ys)
    go true = (xs, refl)
    go false = old

module _ (h₀ : Head) (fs₀ : List Float) (ls₀ : List ℕ) (e : (created h₀ fs₀ ls₀).answer ≡ Ok tt) where
  all_called : {h : Head} {fs : List Float} {ls : List ℕ} {ys : List Origin} {a : List ℕ} → FromNew h₀ fs₀ ls₀ e h fs ls ys a → Called ys
  all_called (start n ok) = ([], ap (λ t. origins_of t.entries) (is-fresh h₀ fs₀ ls₀ e).is ∙ (unfold fresh origins_of in refl))
  all_called (row l x o _ c) = called_after o.answer (called_more (x ∷ []) (all_called c)) (all_called c)
  all_called (batch {h} l xs o _ c) = called_after o.answer (called_more (batch_rows h xs) (all_called c)) (all_called c)
  all_called (refit_all {h} l xs o _ c) = called_after o.answer (called_refit (batch_rows h xs) (lent_tree h l.floats l.links) (all_called c)) (all_called c)
  all_called (create_again r _ c) = all_called c
  all_called (read q c) = all_called c

  -- the promise as it is after creation
  pub created_keeps : {h : Head} {fs : List Float} {ls : List ℕ} {ys : List Origin} {a : List ℕ} → FromNew h₀ fs₀ ls₀ e h fs ls ys a
      → FromCreation (lent_tree h fs ls) ys a
  created_keeps {h} {fs} {ls} {ys} {a} c =
      let (rows, are) = all_called c in
      let p = calls_public c in
      record { rows = rows; called_all = are; nodes = by (run_nodes (sizes_of p.serving) p.run) }
    where
      f : Fresh (m h₀ fs₀ ls₀ e)
      f = is-fresh h₀ fs₀ ls₀ e

      by : NodesExact (lent_tree h fs ls) a ⊎ ((lent_tree h fs ls ≡ held (m h₀ fs₀ ls₀ e)) × (a ≡ [])) → NodesExact (lent_tree h fs ls) a
      by (inl exact) = exact
      by (inr (same, none)) =
          subst (λ t. NodesExact t a) (sym (same ∙ f.is)) (subst (λ b. NodesExact (fresh f.threshold) b) (sym none) (fresh_nodes f.threshold))

-- What an accepted changing call leaves beside its tree: zeros past the counts and in scratch, and each buffer's surplus as lent.
use Rattle.std.specs.Prelude.{ℕ, suc, ◌+◌, ◌≤◌, ◌<◌, ◌≡◌, refl, Bool, true, false, List, [], ◌∷◌, length, Float, Ok}
use Rattle.std.proofs.Common.{sym, arith}
use Rattle.std.proofs.Math.Path.{subst}
use Rattle.binary64.specs.Whole.{most}
use Rattle.head.specs.declared.Settings.{Settings}
use Rattle.head.specs.declared.Head.{Head}
use Rattle.head.specs.Heads.{settings_of}
use Rattle.head.specs.Limits.{Sized, allowed-sized}
use Rattle.rules.specs.Tree.{Tree}
use Rattle.rules.specs.Refit.{refitted}
use Rattle.rules.specs.Check.{checked, total_of, Binary64}
use Rattle.rules.specs.Calls.{Lent, lent_tree, changed, row_inserted, batch_inserted, batch_refitted}
use Rattle.rules.specs.CallLaws.{accepted_done, Ready, row_taken, batch-taken, refit_taken}
use Rattle.rules.specs.Cleared.{Clears, changed_clears}
use Rattle.laws.specs.Shapes.{ShapedTree, batch_shaped, refit_shaped, lent_shaped}
use Rattle.promises.specs.Demand.{Origin, standing, effective, batch_rows, Calls}
use Rattle.laws.specs.Check.Both.{AtRest, passing_rests}
use Rattle.laws.specs.Resting.Rests.{row_rests, rest-total}
use Rattle.promises.specs.Runs.Calls.{batch-owning, effective-owning, idle_refit, effective-some}
use Rattle.promises.specs.Runs.Lent.{standing_owned}
use Rattle.laws.specs.Resting.Fitting.{resting_fits}
use Rattle.promises.specs.Runs.OneCall.{row_accepted, batch_accepted, refit_accepted}
use Rattle.promises.specs.Runs.Public.{calls_rest}
use Rattle.rules.specs.Route.{greedy}
use Rattle.laws.specs.Refitting.Names.{greedy-names}
use Rattle.rules.specs.Rows.{inserted, inserted_all}

module _ (h : Head) (l : Lent) where
  abbrev s : Settings
  s = settings_of h

  abbrev t : Tree
  t = lent_tree h l.floats l.links

  -- ---- an accepted call had room and a passing tree

  pub row_ready : (x : List Float) → (row_inserted h l x).answer ≡ Ok tt → Ready h l
  unfolding row_inserted
  row_ready x e = (row_taken h l x (accepted_done _ h l _ e).0).ready

  pub batch_ready : (xs : List Float) → (batch_inserted h l xs).answer ≡ Ok tt → Ready h l
  unfolding batch_inserted
  batch_ready xs e = (batch-taken h l xs (accepted_done _ h l _ e).0).ready

  pub refit_ready : (xs : List Float) → (batch_refitted h l xs).answer ≡ Ok tt → Ready h l
  unfolding batch_refitted
  refit_ready xs e = (refit_taken h l xs (accepted_done _ h l _ e).0).ready

  -- ---- from a tree at rest

  module _ (rows : ℕ) (rest : checked s t ≡ Ok tt → AtRest s t rows) where
    shaped : Sized s → ShapedTree s t
    unfolding lent_tree
    shaped z = lent_shaped s z h.counters l.floats l.links

    cleared : (u : Tree) (n : ℕ) → Sized s → AtRest s u n → ShapedTree s u → Clears h l (changed h l u)
    cleared u n z r k = changed_clears h l u z (resting_fits z u n r k)

    row_clears : (x : List Float) → (row_inserted h l x).answer ≡ Ok tt → Clears h l (row_inserted h l x)
    row_clears x e =
        let a = row_ready x e in
        let z = allowed-sized h a.allows in
        let r = rest a.passes in
        let (is, small) = row_accepted h l x e in
        let n = rest-total r in
        let k : ShapedTree s (inserted s x t) = unfold inserted_all in batch_shaped s (x ∷ []) t (shaped z) in
        subst (Clears h l) (sym is) (cleared (inserted s x t) (suc rows) z (row_rests z x t rows r (omega arith)) k)

    batch_clears : (xs : List Float) → (batch_inserted h l xs).answer ≡ Ok tt → Clears h l (batch_inserted h l xs)
    batch_clears xs e =
        let a = batch_ready xs e in
        let z = allowed-sized h a.allows in
        let r = rest a.passes in
        let (is, small) = batch_accepted h l xs e in
        let n = rest-total r in
        let o = batch-owning z (batch_rows h xs) t rows (standing 0 t.entries) (record { rests = r; owned = standing_owned t }) (omega arith) in
        subst (Clears h l) (sym is)
        (cleared (inserted_all s (batch_rows h xs) t) (rows + length (batch_rows h xs)) z o.rests (batch_shaped s (batch_rows h xs) t (shaped z)))

    refit_clears : (xs : List Float) → (batch_refitted h l xs).answer ≡ Ok tt → Clears h l (batch_refitted h l xs)
    refit_clears xs e =
        let a = refit_ready xs e in
        let z = allowed-sized h a.allows in
        let (is, small) = refit_accepted h l xs e in
        subst (Clears h l) (sym is) (go (effective (batch_rows h xs) t) z (rest a.passes) small refl)
      where
        go : (b : Bool) → Sized s → AtRest s t rows → (0 < length t.entries → length (batch_rows h xs) ≤ most) → effective (batch_rows h xs) t ≡ b
            → Clears h l (changed h l (refitted s (greedy s) (batch_rows h xs) t))
        go true z r small q =
            let o = effective-owning z (greedy s) (greedy-names s) (batch_rows h xs) t rows (standing 0 t.entries) r q (small (effective-some (batch_rows h xs) t q)) in
            cleared (refitted s (greedy s) (batch_rows h xs) t) (length (batch_rows h xs)) z o.rests (refit_shaped s (greedy s) (batch_rows h xs) t (shaped z))
        go false z r small q =
            let i = (idle_refit s (greedy s) (batch_rows h xs) t [] q).0 in
            subst (λ u. Clears h l (changed h l u)) (sym i) (cleared t rows z r (shaped z))

  -- ---- any tree that is lent

  module _ (n : Binary64 t) where
    pub lent_row_clears : (x : List Float) → (row_inserted h l x).answer ≡ Ok tt → Clears h l (row_inserted h l x)
    lent_row_clears = row_clears (total_of t.entries) (passing_rests s t n)

    pub lent-batch_clears : (xs : List Float) → (batch_inserted h l xs).answer ≡ Ok tt → Clears h l (batch_inserted h l xs)
    lent-batch_clears = batch_clears (total_of t.entries) (passing_rests s t n)

    pub lent_refit_clears : (xs : List Float) → (batch_refitted h l xs).answer ≡ Ok tt → Clears h l (batch_refitted h l xs)
    lent_refit_clears = refit_clears (total_of t.entries) (passing_rests s t n)

  -- ---- after any calls from creation on

  module _ {h₀ : Head} {fs₀ : List Float} {ls₀ : List ℕ} {ys : List Origin} {a : List ℕ} (c : Calls h₀ fs₀ ls₀ h l.floats l.links ys a) where
    pub calls_row_clears : (x : List Float) → (row_inserted h l x).answer ≡ Ok tt → Clears h l (row_inserted h l x)
    calls_row_clears = row_clears (length ys) (λ _. calls_rest c)

    pub calls_batch_clears : (xs : List Float) → (batch_inserted h l xs).answer ≡ Ok tt → Clears h l (batch_inserted h l xs)
    calls_batch_clears = batch_clears (length ys) (λ _. calls_rest c)

    pub calls_refit_clears : (xs : List Float) → (batch_refitted h l xs).answer ≡ Ok tt → Clears h l (batch_refitted h l xs)
    calls_refit_clears = refit_clears (length ys) (λ _. calls_rest c)

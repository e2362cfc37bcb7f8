-- A refit keeps the invariant, with its own rows as the total, and its account is where its rows went.
use Prim.Native.Nat.{ℕ, zero, suc, ◌≤◌, ◌<◌}
use Rattle.std.specs.Prelude.{◌≡◌, refl, Bool, true, not, ◌&&◌, cond, leb, eqb, Float}
use Rattle.std.proofs.Common.{ap, ◌∙◌}
use Rattle.std.proofs.Math.Bool.{false}
use Rattle.std.proofs.lemmas.Bool.{false≢true}
use mathlib.Core.List.{List, ◌∷◌, map, []}
use native.Mathlib.Omega.{arith}
use Rattle.std.proofs.Math.ListN.{length}
use Rattle.binary64.specs.Whole.{most}
use Rattle.head.specs.declared.Settings.{Settings}
use Rattle.rules.specs.Lists.{every}
use Rattle.rules.specs.Tree.{Tree, node_at, with_entries, with_nodes}
use Rattle.rules.specs.Rebuild.{renumber, dropped}
use Rattle.rules.specs.Reinsert.{reinserted}
use Rattle.rules.specs.Refold.{refolded}
use Rattle.rules.specs.Refit.{any_hollow, refit_rounds, refitted, enough}
use Rattle.counting.specs.Count.{eq_test}
use Rattle.laws.specs.Invariant.Links.{Links, nil}
use Rattle.laws.specs.Invariant.Sound.{Caps}
use Rattle.laws.specs.Inserting.Grown.{Whole}
use Rattle.laws.specs.Rebuilding.Restored.{Stale, stale_of, refold_restores}
use Rattle.laws.specs.Moves.{reinserted_to, refit_owners}
use Rattle.laws.specs.Refitting.Round.{u, bs, again-whole, w, few-u, len_w, pos_u, all_stale, drop_stale}
use Rattle.laws.specs.Running.{reinserted_running, refolded_entries, refolded_running}
use Rattle.rules.specs.Route.{Route}
use Rattle.laws.specs.Refitting.Names.{Names}
use Rattle.laws.specs.Refitting.Walk.{rounds_walk}

-- ---- the rounds

-- the rounds of a refit with rows xs left tree v: right links and entries, and no more entries
abbrev pub Ended : Settings → List (List Float) → ℕ → Tree → Tree → Type 0
Ended s xs top t v = ((R : ℕ → ℕ) × Stale s v R (length xs)) × (length v.entries ≤ top) × (v.running ≡ t.running)

-- before a round: right links, no more entries; with none to go, what the rounds leave
abbrev Going : Settings → List (List Float) → ℕ → Tree → ℕ → Tree → Type 0
Going s xs top t k v =
    (R : ℕ → ℕ) × Links s (node_at v) (length v.nodes) v.root (length v.entries) R nil nil nil × (length v.entries ≤ top) × (v.running ≡ t.running)
    × (k ≡ 0 → Stale s v R (length xs))

enough_full : (r : ℕ) (u : Tree) → enough r u ≡ true → any_hollow u.nodes ≡ false
unfolding enough
enough_full r u e = go (any_hollow u.nodes) e
  where
    go : (b : Bool) → (not b && leb 1 r) ≡ true → b ≡ false
    go true e = absurd (false≢true e)
    go false e = refl

-- the rounds end in a tree of right links and entries
pub rounds_whole : (s : Settings) (way : Route) → Names s way → (xs : List (List Float)) (top : ℕ) → Caps s → 0 < length xs → length xs ≤ most → (k r : ℕ) (t : Tree)
    → Going s xs top t k t → Ended s xs top t (refit_rounds s way xs k r t)
rounds_whole s way names xs top c pos small k r t begin =
    rounds_walk s way xs (λ k v _. Going s xs top t k v) (λ v _. Ended s xs top t v) (λ v _ (R, _, few, same, z). ((R, z refl), few, same))
    (λ k v _ (R, g, few, same, _) e. (
      (R, all_stale names xs small v g e),
      (let n = len_w names xs small v g in omega arith),
      (unfold with_entries in same),
    ))
    (λ k r v _ (R, g, few, same, _) e f. (
      (R, drop_stale names xs small v g (enough_full r (u names xs small v g) f)),
      (let n = few-u names xs small v g e in omega arith),
      (unfold dropped with_entries with_nodes in same),
    ))
    (λ k v _ (R, g, few, same, _) e. again v R g few same e) k r t [] begin
  where
    again : {k : ℕ} (v : Tree) (R : ℕ → ℕ) (g : Links s (node_at v) (length v.nodes) v.root (length v.entries) R nil nil nil) → length v.entries ≤ top
        → v.running ≡ t.running → every (λ b. b) (bs names xs small v g) ≡ false → Going s xs top t k (reinserted s (u names xs small v g))
    again v R g few same e =
        let (x, n) = again-whole names xs small v g c pos in
        let less = few-u names xs small v g e in (
          x.0,
          x.1.links,
          omega arith,
          reinserted_running s (u names xs small v g) ∙ (unfold dropped with_entries with_nodes in same),
          (λ _. stale_of s (reinserted s (u names xs small v g)) x.0 (length xs) x.1 x.2),
        )

-- ---- the refit

-- rows into a tree with entries: the invariant, with the refit's rows as the total; no more entries; what runs along stays
pub refit_whole : (s : Settings) (way : Route) → Names s way → (x : List Float) (xs : List (List Float)) (t : Tree) (old : ℕ) → Caps s → Whole s t old
    → 0 < length t.entries → suc (length xs) ≤ most
    → Whole s (refitted s way (x ∷ xs) t) (suc (length xs)) × (length (refitted s way (x ∷ xs) t).entries ≤ length t.entries)
    × ((refitted s way (x ∷ xs) t).running ≡ t.running)
unfolding refitted
refit_whole s way names x xs t old c w pos small = go (eqb (length t.entries) 0) refl
  where
    v : Tree
    v = refit_rounds s way (x ∷ xs) (length t.entries) 0 t

    end : Ended s (x ∷ xs) (length t.entries) t v
    end =
        rounds_whole s way names (x ∷ xs) (length t.entries) c (omega arith) small (length t.entries) 0 t
        (w.0, w.1.links, omega arith, refl, (λ z. absurd (omega arith)))

    go : (p : Bool) → eqb (length t.entries) 0 ≡ p
        → Whole s (cond p t (refolded s v)) (suc (length xs)) × (length (cond p t (refolded s v)).entries ≤ length t.entries)
        × ((cond p t (refolded s v)).running ≡ t.running)
    go true e = let z = (eq_test (length t.entries) 0 true e).0 refl in absurd (omega arith)
    go false e = (
      refold_restores end.0.1,
      (let q : length (refolded s v).entries ≡ length v.entries = ap (λ l. length l) (refolded_entries s v) in let r = end.1 in omega arith),
      refolded_running s v ∙ end.2,
    )

-- ---- the fuel never decides: whatever is given, from the count of entries up, the rounds end alike

pub fuel_enough : (s : Settings) (way : Route) → Names s way → (xs : List (List Float)) → Caps s → 0 < length xs → length xs ≤ most → (k j r : ℕ) (t : Tree) (R : ℕ → ℕ) (a : List ℕ)
    → Links s (node_at t) (length t.nodes) t.root (length t.entries) R nil nil nil → 0 < length t.entries → length t.entries ≤ k
    → length t.entries ≤ j
    → (refit_rounds s way xs k r t ≡ refit_rounds s way xs j r t) × (refit_owners s way xs k r t a ≡ refit_owners s way xs j r t a)
unfolding refit_rounds refit_owners
fuel_enough s way names xs c pos small zero j r t R a g some-e hk hj = absurd (omega arith)
fuel_enough s way names xs c pos small (suc k) zero r t R a g some-e hk hj = absurd (omega arith)
fuel_enough s way names xs c pos small (suc k) (suc j) r t R a g some-e hk hj =
    go (every (λ b. b) (bs names xs small t g)) refl (enough r (u names xs small t g)) (λ v S b gs p hk hj. fuel_enough s way names xs c pos small k j
    (suc r) v S b gs p hk hj)
  where
    after : Tree
    after = reinserted s (u names xs small t g)

    owners : List ℕ
    owners = map (λ c. reinserted_to s (u names xs small t g) c) (map (renumber (bs names xs small t g)) (map (way t) xs))

    go : (p : Bool) → every (λ b. b) (bs names xs small t g) ≡ p → (q : Bool)
        → ((v : Tree) (S : ℕ → ℕ) (b : List ℕ) → Links s (node_at v) (length v.nodes) v.root (length v.entries) S nil nil nil → 0 < length v.entries
        → length v.entries ≤ k → length v.entries ≤ j
        → (refit_rounds s way xs k (suc r) v ≡ refit_rounds s way xs j (suc r) v) × (refit_owners s way xs k (suc r) v b ≡ refit_owners s way xs j (suc r) v b))
        → (◌≡◌ {A = Tree}
        (elim p as (λ _. Tree) [ true ↦ w names xs small t g | false ↦ elim q as (λ _. Tree) [ true ↦ u names xs small t g | false ↦ refit_rounds s way xs k (suc r) after ] ])
        (elim p as (λ _. Tree) [ true ↦ w names xs small t g | false ↦ elim q as (λ _. Tree) [ true ↦ u names xs small t g | false ↦ refit_rounds s way xs j (suc r) after ] ]))
        × (◌≡◌ {A = List ℕ}
        (elim p as (λ _. List ℕ) [
          | true ↦ map (way t) xs
          | false ↦ elim q as (λ _. List ℕ) [
            | true ↦ map (renumber (bs names xs small t g))
                (map (way t) xs)
            | false ↦ refit_owners s way xs k (suc r) after owners
          ]
        ])
        (elim p as (λ _. List ℕ) [
          | true ↦ map (way t) xs
          | false ↦ elim q as (λ _. List ℕ) [
            | true ↦ map (renumber (bs names xs small t g))
                (map (way t) xs)
            | false ↦ refit_owners s way xs j (suc r) after owners
          ]
        ]))
    go true e q ih = (refl, refl)
    go false e true ih = (refl, refl)
    go false e false ih =
        let q = again-whole names xs small t g c pos in
        let x = q.0 in
        let n = q.1 in
        let f = few-u names xs small t g e in
        let d = pos_u names xs small t g pos in
        ih after x.0 owners x.1.links (omega arith) (omega arith) (omega arith)

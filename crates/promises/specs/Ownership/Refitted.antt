-- A refit begins the account anew: each of its rows belongs to the entry that took it, through drops and reinsertions, and each entry is made of its rows.
use Rattle.std.specs.Prelude.{ℕ, suc, ◌≤◌, ◌<◌, ◌≡◌, refl, Bool, true, false, cond, List, ◌∷◌, map, eqb, length, Float}
use Rattle.std.proofs.Common.{sym, ◌∙◌, subst, arith}
use Rattle.std.proofs.Math.Path.{ap}
use Rattle.std.proofs.Math.ListN.{get_or}
use Rattle.binary64.specs.Whole.{most}
use Rattle.feature.specs.Summaries.{blank}
use Rattle.head.specs.declared.Settings.{Settings}
use Rattle.rules.specs.Tree.{Tree, node_at, entry_at, row_count}
use Rattle.rules.specs.Rebuild.{renumber}
use Rattle.rules.specs.Reinsert.{reinserted}
use Rattle.rules.specs.Refold.{refolded}
use Rattle.rules.specs.Refit.{refit_rounds, refitted}
use Rattle.rules.specs.Route.{Route}
use Rattle.counting.specs.Count.{eq_test}
use Rattle.laws.specs.Moves.{reinserted_to, refit_owners}
use Rattle.laws.specs.Invariant.Links.{Links, nil}
use Rattle.laws.specs.Invariant.Sound.{Caps, entry_weight}
use Rattle.laws.specs.Invariant.Owned.{Owned}
use Rattle.laws.specs.Inserting.Grown.{Whole}
use Rattle.laws.specs.Running.{refolded_entries}
use Rattle.laws.specs.Refitting.Names.{Names}
use Rattle.laws.specs.Refitting.Round.{u, bs, w, b, len_bs, alive-same, frame-u, again-whole, poured_owned}
use Rattle.laws.specs.Refitting.Walk.{rounds_walk}
use Rattle.promises.specs.Demand.{Origin, called, owns, Made, owners_refit}
use Rattle.promises.specs.Ownership.Made.{AllMade}
use Rattle.promises.specs.Ownership.Carries.{drop_carries}
use Rattle.promises.specs.Ownership.Merged.{reinsert_carries}
use Rattle.promises.specs.Ownership.PouredMade.{pour_made}

-- ---- one round

module _ {s : Settings} {way : Route} (names : Names s way) (xs : List (List Float)) (small : length xs ≤ most) (t : Tree) {R : ℕ → ℕ}
    (g : Links s (node_at t) (length t.nodes) t.root (length t.entries) R nil nil nil) where
  abbrev thinned : Tree
  thinned = u names xs small t g

  abbrev owners : List ℕ
  owners = map (renumber (bs names xs small t g)) (b names xs small t g)

  -- the account and what the entries are made of, when the unused are dropped
  moved_u : Owned thinned owners
      × ((ys : List Origin) → AllMade s ys (entry_at (w names xs small t g)) (b names xs small t g) → AllMade s ys (entry_at thinned) owners)
  moved_u =
      drop_carries s (w names xs small t g) (bs names xs small t g) (len_bs names xs small t g) (map (way t) xs)
      (λ c. alive-same names xs small t g c ∙ poured_owned names xs small t g c)

  -- and when what is left is reinserted
  moved_again : Owned (reinserted s thinned) (map (reinserted_to s thinned) owners)
      × ((ys : List Origin) → AllMade s ys (entry_at thinned) owners → AllMade s ys (entry_at (reinserted s thinned)) (map (reinserted_to s thinned) owners))
  moved_again = reinsert_carries s thinned (frame-u names xs small t g) owners moved_u.0

-- ---- the rounds

abbrev Accounted : Settings → List (List Float) → Tree → List ℕ → Type 0
Accounted s xs v a = Owned v a × AllMade s (map called xs) (entry_at v) a

-- before a round: right links; with none to go, the account
abbrev Going : Settings → List (List Float) → ℕ → Tree → List ℕ → Type 0
Going s xs k v a =
    (R : ℕ → ℕ) × Links s (node_at v) (length v.nodes) v.root (length v.entries) R nil nil nil × (k ≡ 0 → Accounted s xs v a)

pub rounds_owned : (s : Settings) (way : Route) → Names s way → (xs : List (List Float)) → Caps s → 0 < length xs → length xs ≤ most → (k r : ℕ) (t : Tree) (a : List ℕ)
    → Going s xs k t a → Accounted s xs (refit_rounds s way xs k r t) (refit_owners s way xs k r t a)
rounds_owned s way names xs c pos small k r t a begin =
    rounds_walk s way xs (Going s xs) (Accounted s xs) (λ v a (R, _, z). z refl)
    (λ k v a (R, g, _) e. (poured_owned names xs small v g, pour_made names xs small v g))
    (λ k r v a (R, g, _) e f. ((moved_u names xs small v g).0, (moved_u names xs small v g).1 (map called xs) (pour_made names xs small v g)))
    (λ k v a (R, g, _) e.
    let (x, _) = again-whole names xs small v g c pos in (
      x.0,
      x.1.links,
      (λ _. (
        (moved_again names xs small v g).0,
        (moved_again names xs small v g).1 (map called xs) ((moved_u names xs small v g).1 (map called xs) (pour_made names xs small v g)),
      )),
    ))
    k r t a begin

-- ---- the refit

-- rows into a tree with entries: each belongs to one entry, and each entry is made of its rows
pub refit_owned : (s : Settings) (way : Route) → Names s way → (x : List Float) (xs : List (List Float)) (t : Tree) (old : ℕ) (a : List ℕ) → Caps s → Whole s t old
    → 0 < length t.entries → suc (length xs) ≤ most → Accounted s (x ∷ xs) (refitted s way (x ∷ xs) t) (owners_refit s way (x ∷ xs) t a)
unfolding refitted owners_refit
refit_owned s way names x xs t old a c whole pos small = go (eqb (length t.entries) 0) refl
  where
    v : Tree
    v = refit_rounds s way (x ∷ xs) (length t.entries) 0 t

    o : List ℕ
    o = refit_owners s way (x ∷ xs) (length t.entries) 0 t a

    end : Accounted s (x ∷ xs) v o
    end =
        rounds_owned s way names (x ∷ xs) c (omega arith) small (length t.entries) 0 t a (whole.0, whole.1.links, (λ z. absurd (omega arith)))

    same_at : (c : ℕ) → entry_at (refolded s v) c ≡ entry_at v c
    same_at c = unfold entry_at in ap (λ l. get_or l c blank) (refolded_entries s v)

    weighs : (c : ℕ) → entry_weight (refolded s v) c ≡ entry_weight v c
    weighs c = unfold entry_weight in ap (λ e. row_count e) (same_at c)

    go : (p : Bool) → eqb (length t.entries) 0 ≡ p → Accounted s (x ∷ xs) (cond p t (refolded s v)) (cond p a o)
    go true e = let z = (eq_test (length t.entries) 0 true e).0 refl in absurd (omega arith)
    go false e = (
      (λ c. weighs c ∙ end.0 c),
      (λ c q. subst (λ e. Made s (map called (x ∷ xs)) e (owns o c)) (sym (same_at c)) (end.1 c q)),
    )

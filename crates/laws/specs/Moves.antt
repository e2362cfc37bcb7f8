-- Where each step sends an entry, by the numbers that the step uses; and where a refit sends its rows.
use Rattle.std.specs.Prelude.{ℕ, zero, suc, ◌-◌, Bool, true, false, ◌||◌, cond, List, [], ◌∷◌, map, reverse, length, leb, eqb, Float}
use Rattle.head.specs.declared.Settings.{Settings}
use Rattle.rules.specs.declared.Pair.{Pair}
use Rattle.rules.specs.Lists.{every}
use Rattle.rules.specs.Tree.{Tree, with_entries, on_running}
use Rattle.rules.specs.Pairs.{sorted}
use Rattle.rules.specs.Rebuild.{Merging, merge_one, Guard, any_two, mergeable, target, renumber, pairs_of, across, merge_start, merges_in, thinned, dropped}
use Rattle.rules.specs.Reinsert.{collected, reinserted}
use Rattle.rules.specs.Refit.{reaccumulated, used, enough}
use Rattle.counting.specs.Places.{place_in}
use Rattle.head.specs.Counting.{with_merged}
use Rattle.rules.specs.Route.{Route}

-- one merge of a rebuild: the entry merged away goes to the one that stays
unfoldable pub merged_to : Pair → ℕ → ℕ
merged_to p c = cond (eqb c p.two) p.one c

unfoldable pub merged_into : Settings → Guard → ℕ → List Pair → Merging → ℕ → ℕ
merged_into s may zero ps m c = c
merged_into s may (suc k) [] m c = c
merged_into s may (suc k) (p ∷ ps) m c =
    elim (mergeable may p m) [ true ↦ merged_into s may k ps (merge_one s p m) (merged_to p c) | false ↦ merged_into s may (suc k) ps m c ]

-- reinsertion: an entry goes by its place among the entries in the order in which they are placed
unfoldable pub reinserted_to : Settings → Tree → ℕ → ℕ
reinserted_to s t c = place_in (reverse (collected t (length t.nodes) (t.root ∷ []))) c

unfoldable pub rebalanced_to : Settings → Bool → Tree → ℕ → ℕ
rebalanced_to s far t c = cond (far || leb s.max_leaves t.running.merged) (reinserted_to s (on_running (with_merged 0) t) c) c

unfoldable pub rebuilt_to : Settings → Tree → ℕ → ℕ
rebuilt_to s t c =
    let m = merges_in s t in
    let d = merged_into s any_two (length t.entries - target s.max_leaves) (sorted (pairs_of s t)) (merge_start t) c in
    cond (eqb m.count 0) d (rebalanced_to s (across s t) (thinned t m) (renumber m.alive d))

-- after a refit: each row begins at its route, and goes where the drops and reinsertions send that entry
unfoldable pub refit_owners : Settings → Route → List (List Float) → ℕ → ℕ → Tree → List ℕ → List ℕ
refit_owners s way xs zero r t a = a
refit_owners s way xs (suc k) r t a =
    let es = reaccumulated s way t xs in
    let alive = map used es in
    let u = dropped alive (with_entries es t) in
    let b = map (way t) xs in
    elim (every (λ b. b) alive) [
      | true ↦ b
      | false ↦ elim (enough r u) [
        | true ↦ map (renumber alive) b
        | false ↦ refit_owners s way xs k (suc r) (reinserted s u)
            (map (reinserted_to s u) (map (renumber alive) b))
      ]
    ]

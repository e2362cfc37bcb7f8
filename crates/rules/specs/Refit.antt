-- The refit, by any route.
use Rattle.std.specs.Prelude.{ℕ, zero, suc, Bool, true, false, cond, ◌||◌, ◌&&◌, not, List, [], ◌∷◌, map, length, leb, eqb, Float}
use Rattle.std.specs.Float.Ieee.{lt}
use Rattle.binary64.specs.Operators.{f0}
use Rattle.feature.specs.Summaries.{blank}
use Rattle.feature.specs.declared.Summary.{Summary}
use Rattle.head.specs.declared.Settings.{Settings}
use Rattle.rules.specs.Lists.{change_at, every}
use Rattle.rules.specs.Route.{Route}
use Rattle.rules.specs.Tree.{Node, Tree, push, with_entries}
use Rattle.rules.specs.Rebuild.{dropped}
use Rattle.rules.specs.Reinsert.{reinserted}
use Rattle.rules.specs.Refold.{refolded}

-- each row pushed into the entry that it goes to
unfoldable pub poured : Settings → (List Float → ℕ) → List (List Float) → List Summary → List Summary
poured s to [] es = es
poured s to (x ∷ xs) es = poured s to xs (change_at (push s x) (to x) es)

-- the entries started afresh
unfoldable pub reaccumulated : Settings → Route → Tree → List (List Float) → List Summary
reaccumulated s way t xs = poured s (way t) xs (map (λ _. blank) t.entries)

unfoldable pub used : Summary → Bool
used e = lt f0 e.weight

unfoldable pub hollow : Node → Bool
hollow n = n.leaf && eqb (length n.list) 0

unfoldable pub any_hollow : List Node → Bool
any_hollow [] = false
any_hollow (n ∷ ns) = hollow n || any_hollow ns

-- enough, after r reinsertions: there was one, and no leaf was emptied
unfoldable pub enough : ℕ → Tree → Bool
enough r u = not (any_hollow u.nodes) && leb 1 r

-- the rounds: unused entries are dropped; reinsert and repeat once, and whenever a leaf was emptied; k rounds at most, r of them have reinserted
unfoldable pub refit_rounds : Settings → Route → List (List Float) → ℕ → ℕ → Tree → Tree
refit_rounds s way xs zero r t = t
refit_rounds s way xs (suc k) r t =
    let es = reaccumulated s way t xs in
    let alive = map used es in
    let u = dropped alive (with_entries es t) in
    elim (every (λ b. b) alive) [
      | true ↦ with_entries es t
      | false ↦ elim (enough r u) [ true ↦ u | false ↦ refit_rounds s way xs k (suc r) (reinserted s u) ]
    ]

-- with no entries or no rows nothing happens; an effective refit refolds once at its end
unfoldable pub refitted : Settings → Route → List (List Float) → Tree → Tree
refitted s way [] t = t
refitted s way (x ∷ xs) t = cond (eqb (length t.entries) 0) t (refolded s (refit_rounds s way (x ∷ xs) (length t.entries) 0 t))

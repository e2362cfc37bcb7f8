-- What a refit pours into an entry: the rows routed to it, one after another.
use Rattle.std.specs.Prelude.{ℕ, ◌<◌, ◌≡◌, refl, Bool, true, false, cond, List, [], ◌∷◌, map, eqb, length, get_or, Float}
use Rattle.std.proofs.Common.{sym, ap, ◌∙◌, subst}
use Rattle.std.proofs.lemmas.List.{length-map}
use Rattle.std.proofs.Math.ListN.{get_or-map}
use Rattle.feature.specs.declared.Summary.{Summary}
use Rattle.feature.specs.Summaries.{blank}
use Rattle.head.specs.declared.Settings.{Settings}
use Rattle.rules.specs.Lists.{change_at}
use Rattle.rules.specs.Tree.{push, Tree}
use Rattle.rules.specs.Refit.{poured, reaccumulated}
use Rattle.counting.specs.Count.{eq_test}
use Rattle.counting.specs.Lists.{change-at, change_off, length-change}
use Rattle.rules.specs.Route.{Route}

-- the rows that f sends to c, in order
unfoldable pub rows_for : (List Float → ℕ) → ℕ → List (List Float) → List (List Float)
rows_for f c [] = []
rows_for f c (x ∷ xs) = cond (eqb c (f x)) (x ∷ rows_for f c xs) (rows_for f c xs)

unfoldable pub pushed_all : Settings → List (List Float) → Summary → Summary
pushed_all s [] e = e
pushed_all s (x ∷ xs) e = pushed_all s xs (push s x e)

poured_rows : (s : Settings) (way : Route) (t : Tree) (xs : List (List Float)) (es : List Summary) (c : ℕ) → c < length es
    → get_or (poured s (way t) xs es) c blank ≡ pushed_all s (rows_for (way t) c xs) (get_or es c blank)
unfolding poured rows_for pushed_all
poured_rows s way t [] es c h = refl
poured_rows s way t (x ∷ xs) es c h =
    poured_rows s way t xs (change_at (push s x) (way t x) es) c (subst (λ n. c < n) (sym (length-change (push s x) (way t x) es)) h)
    ∙ go (eqb c (way t x)) refl
  where
    go : (b : Bool) → eqb c (way t x) ≡ b
        → pushed_all s (rows_for (way t) c xs) (get_or (change_at (push s x) (way t x) es) c blank)
        ≡ pushed_all s (cond b (x ∷ rows_for (way t) c xs) (rows_for (way t) c xs)) (get_or es c blank)
    go true e =
        let q : c ≡ way t x = (eq_test c (way t x) true e).0 refl in
        ap (λ z. pushed_all s (rows_for (way t) c xs) z) (subst (λ i. get_or (change_at (push s x) i es) c blank ≡ push s x (get_or es c blank)) q
        (change-at (push s x) c blank es h))
    go false e = ap (λ z. pushed_all s (rows_for (way t) c xs) z) (change_off (push s x) (way t x) c blank es ((eq_test c (way t x) false e).1 refl))

-- each entry, begun afresh, holds exactly its own rows
pub reaccumulated_rows : (s : Settings) (way : Route) (t : Tree) (xs : List (List Float)) (c : ℕ) → c < length t.entries
    → get_or (reaccumulated s way t xs) c blank ≡ pushed_all s (rows_for (way t) c xs) blank
unfolding reaccumulated
reaccumulated_rows s way t xs c h =
    poured_rows s way t xs (map (λ _. blank) t.entries) c (subst (λ n. c < n) (sym (length-map t.entries (λ _. blank))) h)
    ∙ ap (λ e. pushed_all s (rows_for (way t) c xs) e) (get_or-map (λ _. blank) t.entries c blank)

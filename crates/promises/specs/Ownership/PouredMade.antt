-- What a refit pours is made of its rows: each entry, begun afresh, of the rows that are routed to it.
use Rattle.std.specs.Prelude.{ℕ, ◌≤◌, ◌<◌, ◌≡◌, refl, ◌⊎◌, ◌≢◌, length, get_or, Float}
use Rattle.std.proofs.Common.{sym, ◌∙◌, inl, inr, arith}
use Rattle.std.proofs.Math.Path.{subst}
use mathlib.Core.List.{List, [], ◌∷◌, ◌++◌, map, append-nil, append_assoc}
use Rattle.std.proofs.lemmas.List.{length-map}
use Rattle.std.proofs.Math.ListN.{get_or-map}
use Rattle.binary64.specs.Whole.{most}
use Rattle.feature.specs.declared.Summary.{Summary}
use Rattle.feature.specs.Summaries.{blank}
use Rattle.head.specs.declared.Settings.{Settings}
use Rattle.rules.specs.Lists.{change_at, snoc, occurs}
use Rattle.rules.specs.Tree.{push, Tree, node_at, entry_at, with_entries}
use Rattle.rules.specs.Refit.{poured, reaccumulated}
use Rattle.counting.specs.Count.{same?}
use Rattle.counting.specs.Lists.{change-at, change_off, length-change}
use Rattle.laws.specs.Invariant.Links.{Links, nil}
use Rattle.promises.specs.Demand.{owns, Made, called}
use Rattle.promises.specs.Ownership.Made.{AllMade, map_snoc, blank-made, taker-made, other_made}
use Rattle.laws.specs.Invariant.Owned.{owner_in}
use Rattle.laws.specs.Refitting.Round.{w, len_w, poured_owned}
use Rattle.rules.specs.Route.{Route}
use Rattle.laws.specs.Refitting.Names.{Names}

-- the rows zs are poured, and the rows xs follow
poured-made : (s : Settings) (way : Route) (t : Tree) (n : ℕ) → ((x : List Float) → way t x < n) → (xs zs : List (List Float)) (es : List Summary) → length es ≡ n
    → ((c : ℕ) → c < n → Made s (map called zs) (get_or es c blank) (owns (map (way t) zs) c)) → (c : ℕ) → c < n
    → Made s (map called (zs ++ xs)) (get_or (poured s (way t) xs es) c blank) (owns (map (way t) (zs ++ xs)) c)
unfolding poured snoc
poured-made s way t n inn [] zs es len m c h = subst (λ l. Made s (map called l) (get_or es c blank) (owns (map (way t) l) c)) (sym (append-nil zs)) (m c h)
poured-made s way t n inn (x ∷ xs) zs es len m c h =
    subst (λ l. Made s (map called l) (get_or (poured s (way t) xs (change_at (push s x) (way t x) es)) c blank) (owns (map (way t) l) c)) (append_assoc zs (x ∷ []) xs)
    (poured-made s way t n inn xs (snoc zs x) (change_at (push s x) (way t x) es) (length-change (push s x) (way t x) es ∙ len)
    (λ d q. step d q (same? d (way t x))) c h)
  where
    as_long : length (map (way t) zs) ≡ length (map called zs)
    as_long = length-map zs (way t) ∙ sym (length-map zs called)

    snoced : (d : ℕ) {e : Summary} → Made s (snoc (map called zs) (called x)) e (owns (snoc (map (way t) zs) (way t x)) d)
        → Made s (map called (snoc zs x)) e (owns (map (way t) (snoc zs x)) d)
    snoced d {e} k =
        subst (λ l. Made s l e (owns (map (way t) (snoc zs x)) d)) (sym (map_snoc called zs x))
        (subst (λ l. Made s (snoc (map called zs) (called x)) e (owns l d)) (sym (map_snoc (way t) zs x)) k)

    step : (d : ℕ) → d < n → (d ≡ way t x) ⊎ (d ≢ way t x)
        → Made s (map called (snoc zs x)) (get_or (change_at (push s x) (way t x) es) d blank) (owns (map (way t) (snoc zs x)) d)
    step d q (inl e) =
        snoced d (subst (λ y. Made s (snoc (map called zs) (called x)) y (owns (snoc (map (way t) zs) (way t x)) d))
        (sym (subst (λ i. get_or (change_at (push s x) i es) d blank ≡ push s x (get_or es d blank)) e
        (change-at (push s x) d blank es (subst (λ z. d < z) (sym len) q))))
        (taker-made (map called zs) x (map (way t) zs) as_long d (way t x) (get_or es d blank) e (m d q)))
    step d q (inr e) =
        snoced d (subst (λ y. Made s (snoc (map called zs) (called x)) y (owns (snoc (map (way t) zs) (way t x)) d)) (sym (change_off (push s x) (way t x) d blank es e))
        (other_made (map called zs) x (map (way t) zs) as_long d (way t x) (get_or es d blank) e (m d q)))

module _ {s : Settings} {way : Route} (names : Names s way) (xs : List (List Float)) (small : length xs ≤ most) (t : Tree) {R : ℕ → ℕ} (g : Links s (node_at t) (length t.nodes) t.root
    (length t.entries) R nil nil nil) where
  -- from empty entries on
  fresh-made : (c : ℕ) → c < length t.entries → Made s (map called xs) (get_or (reaccumulated s way t xs) c blank) (owns (map (way t) xs) c)
  unfolding reaccumulated
  fresh-made c h =
      poured-made s way t (length t.entries) (names t R g) xs [] (map (λ _. blank) t.entries) (length-map t.entries (λ _. blank))
      (λ d q. subst (λ y. Made s [] y (owns [] d)) (sym (get_or-map (λ _. blank) t.entries d blank)) (blank-made [] d (unfold occurs in refl))) c h

  -- after a pour each owner is made of the rows that were routed to it
  pub pour_made : AllMade s (map called xs) (entry_at (w names xs small t g)) (map (way t) xs)
  unfolding entry_at with_entries
  pour_made c o =
      fresh-made c (let q = owner_in (w names xs small t g) (map (way t) xs) (poured_owned names xs small t g) c o in let n = len_w names xs small t g in omega arith)

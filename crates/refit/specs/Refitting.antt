-- What a refit asks of the tree, and the whole of it.
use Rattle.std.specs.Prelude.{ℕ, ◌≤◌, ◌<◌, ◌≡◌, List, [], ◌∷◌, length, Float}
use Rattle.std.proofs.Math.Path.{refl}
use Rattle.std.proofs.Common.{sym, ◌∙◌, eq-eqb, ne_eqb}
use native.Mathlib.Omega.{arith}
use Rattle.binary64.specs.Whole.{most}
use Rattle.head.specs.declared.Settings.{Settings}
use Rattle.head.specs.Limits.{Sized}
use Rattle.head.specs.Sizes.{entry_cap}
use Rattle.rules.specs.Lists.{rows_of}
use Rattle.rules.specs.ListLaws.{rows_count}
use Rattle.rules.specs.Tree.{Tree}
use Rattle.rules.specs.Refold.{refolded}
use Rattle.rules.specs.Refit.{refit_rounds, refitted}
use Rattle.laws.specs.Invariant.Sound.{caps_of}
use Rattle.laws.specs.Refitting.Refitted.{rounds_whole}
use Rattle.laws.specs.Check.Both.{AtRest}
use Rattle.laws.specs.ForCode.{Standing, linked-standing}
use Rattle.refold.specs.Refolding.{Filled}
use Rattle.route.specs.Routing.{rest_routable}
use Rattle.refit.specs.Rounds.{Pourable}
use Rattle.rules.specs.Route.{greedy}
use Rattle.laws.specs.Refitting.Names.{greedy-names}

-- a tree between calls; if it has entries, no more rows than a weight can count
pub record Refittable (s : Settings) (count : ℕ) (t : Tree) : Type 0 where
  pub rows : ℕ
  pub rests : AtRest s t rows
  pub few : 0 < length t.entries → count ≤ most

pub refit_pourable : (s : Settings) (count : ℕ) (t : Tree) → Refittable s count t → 0 < length t.entries → 0 < count → Pourable s count t
refit_pourable s count t r h some = record { tree = rest_routable s t r.rows r.rests h; some = some; few = r.few h }

-- ---- when all rounds are done

module _ (s : Settings) (count : ℕ) (xs : List Float) (t : Tree) where
  -- every node can be made anew
  pub rounds_standing : (top : ℕ) {v : Tree} → Sized s → Pourable s count t → top ≡ length t.entries → 0 < top → top ≤ entry_cap s
      → v ≡ refit_rounds s (greedy s) (rows_of count s.dim xs) top 0 t → Standing s v × Filled v
  unfolding Filled
  rounds_standing top z p q h few e =
      let rows = rows_count count s.dim xs in
      let some = p.some in
      let most = p.few in
      let end =
      rounds_whole s (greedy s) (greedy-names s) (rows_of count s.dim xs) top (caps_of z) (omega arith) (omega arith) top 0 t
      (p.tree.whole.0, p.tree.whole.1.links, omega arith, refl, (λ z. absurd (omega arith))) in
      let fewer = end.1 in
      rw e (linked-standing s _ end.0.0 end.0.1.links (omega arith), λ i l. end.0.1.links.filled i l)

  pub refit_bare : length t.entries ≡ 0 → t ≡ refitted s (greedy s) (rows_of count s.dim xs) t
  refit_bare e = go (rows_of count s.dim xs)
    where
      go : (rows : List (List Float)) → t ≡ refitted s (greedy s) rows t
      go [] = unfold refitted in refl
      go (x ∷ rows) = unfold refitted in rw (eq-eqb (length t.entries) 0 e)

  pub refit_none : count ≡ 0 → t ≡ refitted s (greedy s) (rows_of count s.dim xs) t
  unfolding refitted rows_of
  refit_none e = rw e

  pub refit_is : (top : ℕ) {v : Tree} → ¬ (top ≡ 0) → ¬ (count ≡ 0) → top ≡ length t.entries
      → v ≡ refolded s (refit_rounds s (greedy s) (rows_of count s.dim xs) top 0 t) → v ≡ refitted s (greedy s) (rows_of count s.dim xs) t
  refit_is top d f q e = e ∙ go (rows_of count s.dim xs) (rows_count count s.dim xs)
    where
      go : (rows : List (List Float)) → length rows ≡ count → refolded s (refit_rounds s (greedy s) rows top 0 t) ≡ refitted s (greedy s) rows t
      go [] l = absurd (f (sym l))
      go (x ∷ rows) l = unfold refitted in rw (ne_eqb (length t.entries) 0 (λ z. d (q ∙ z)), q)

-- The rounds of a refit walked once: what holds before each round, and what follows where the rounds end, hold of all rounds.
use Prim.Native.Nat.{ℕ, zero, suc}
use Rattle.std.specs.Prelude.{◌≡◌, Bool, Float}
use Rattle.std.proofs.Math.Path.{refl}
use Rattle.std.proofs.Math.Bool.{true, false}
use mathlib.Core.List.{List, map}
use Rattle.head.specs.declared.Settings.{Settings}
use Rattle.rules.specs.Lists.{every}
use Rattle.rules.specs.Tree.{Tree, with_entries}
use Rattle.rules.specs.Rebuild.{renumber, dropped}
use Rattle.rules.specs.Reinsert.{reinserted}
use Rattle.rules.specs.Route.{Route}
use Rattle.rules.specs.Refit.{reaccumulated, used, enough, refit_rounds}
use Rattle.laws.specs.Moves.{reinserted_to, refit_owners}

-- a round: the entries made anew, which of them are used, and the tree without the others
abbrev pub anew : Settings → Route → List (List Float) → Tree → Tree
anew s way xs t = with_entries (reaccumulated s way t xs) t

abbrev pub used_in : Settings → Route → List (List Float) → Tree → List Bool
used_in s way xs t = map used (reaccumulated s way t xs)

abbrev pub thin : Settings → Route → List (List Float) → Tree → Tree
thin s way xs t = dropped (used_in s way xs t) (anew s way xs t)

-- whose each row is then
abbrev pub thin_owners : Settings → Route → List (List Float) → Tree → List ℕ
thin_owners s way xs t = map (renumber (used_in s way xs t)) (map (way t) xs)

-- P before a round, with so many to go; E at the end: no round to go, all entries used, enough
module _ (s : Settings) (way : Route) (xs : List (List Float)) (P : ℕ → Tree → List ℕ → Type 0) (E : Tree → List ℕ → Type 0)
    (out : (t : Tree) (a : List ℕ) → P 0 t a → E t a)
    (all : (k : ℕ) (t : Tree) (a : List ℕ) → P (suc k) t a → every (λ b. b) (used_in s way xs t) ≡ true → E (anew s way xs t) (map (way t) xs))
    (drop : (k r : ℕ) (t : Tree) (a : List ℕ) → P (suc k) t a → every (λ b. b) (used_in s way xs t) ≡ false → enough r (thin s way xs t) ≡ true
    → E (thin s way xs t) (thin_owners s way xs t))
    (again : (k : ℕ) (t : Tree) (a : List ℕ) → P (suc k) t a → every (λ b. b) (used_in s way xs t) ≡ false
    → P k (reinserted s (thin s way xs t)) (map (reinserted_to s (thin s way xs t)) (thin_owners s way xs t)))
  where
    pub rounds_walk : (k r : ℕ) (t : Tree) (a : List ℕ) → P k t a → E (refit_rounds s way xs k r t) (refit_owners s way xs k r t a)
    unfolding refit_rounds refit_owners
    rounds_walk zero r t a p = out t a p
    rounds_walk (suc k) r t a p =
        go (every (λ b. b) (used_in s way xs t)) refl (enough r (thin s way xs t)) refl
        (λ e. rounds_walk k (suc r) (reinserted s (thin s way xs t)) (map (reinserted_to s (thin s way xs t)) (thin_owners s way xs t)) (again k t a p e))
      where
        go : (b : Bool) → every (λ b. b) (used_in s way xs t) ≡ b → (c : Bool) → enough r (thin s way xs t) ≡ c → {v : Tree} {o : List ℕ}
            → (every (λ b. b) (used_in s way xs t) ≡ false → E v o)
            → E (elim b as (λ _. Tree) [ true ↦ anew s way xs t | false ↦ elim c as (λ _. Tree) [ true ↦ thin s way xs t | false ↦ v ] ])
            (elim b as (λ _. List ℕ) [ true ↦ map (way t) xs | false ↦ elim c as (λ _. List ℕ) [ true ↦ thin_owners s way xs t | false ↦ o ] ])
        go true e c f ih = all k t a p e
        go false e true f ih = drop k r t a p e f
        go false e false f ih = ih e

-- What a call does with its rows, by the rules, and what it asks of the tree.
use Rattle.std.specs.Prelude.{ℕ, ◌≡◌, List, length, Float}
use Rattle.std.proofs.Common.{ap, arith, take_all}
use Rattle.head.specs.declared.Settings.{Settings}
use Rattle.rules.specs.Lists.{rows_of}
use Rattle.rules.specs.Tree.{Tree}
use Rattle.rules.specs.Refit.{refitted}
use Rattle.insert.specs.Resting.{Resting}
use Rattle.refit.specs.Refitting.{Refittable}
use Rattle.work.specs.declared.Work.{Work}
use Rattle.work.specs.declared.Work.TheVariants.{Insert, Refit}
use Rattle.rules.specs.Route.{greedy}
use Rattle.rules.specs.Rows.{inserted, inserted_all}

unfoldable pub worked : Work → Settings → List (List Float) → Tree → Tree
worked Insert s rows t = inserted_all s rows t
worked Refit s rows t = refitted s (greedy s) rows t

-- a row is a batch of one
pub one_row : (s : Settings) (x : List Float) (t : Tree) → length x ≡ s.dim → worked Insert s (rows_of 1 s.dim x) t ≡ inserted s x t
unfolding worked inserted_all rows_of
one_row s x t e = ap (λ y. inserted s y t) (take_all s.dim x (omega arith))

unfoldable pub Workable : Work → Settings → ℕ → Tree → Type 0
Workable Insert s count t = Resting s count t
Workable Refit s count t = Refittable s count t

module _ (s : Settings) (t : Tree) {w : Work} where
  module _ (e : w ≡ Insert) where
    pub insert_asks : {count : ℕ} → Workable w s count t → Resting s count t
    unfolding Workable
    insert_asks a = rw e at a

    pub insert_does : (rows : List (List Float)) → inserted_all s rows t ≡ worked w s rows t
    unfolding worked
    insert_does rows = rw e

  module _ (e : w ≡ Refit) where
    pub refit_asks : {count : ℕ} → Workable w s count t → Refittable s count t
    unfolding Workable
    refit_asks a = rw e at a

    pub refit_does : (rows : List (List Float)) → refitted s (greedy s) rows t ≡ worked w s rows t
    unfolding worked
    refit_does rows = rw e

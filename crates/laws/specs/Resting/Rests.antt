-- A tree at rest: a fresh one is, a row leaves one, and it weighs as many rows as it holds.
use Rattle.std.specs.Prelude.{ℕ, suc, ◌<◌, ◌≡◌, List, Float}
use Rattle.std.proofs.Common.{ap, ◌∙◌, inl, inr, arith}
use Rattle.std.proofs.Math.Path.{sym}
use Rattle.binary64.specs.Whole.{most}
use Rattle.head.specs.declared.Settings.{Settings}
use Rattle.head.specs.Limits.{Sized}
use Rattle.rules.specs.Tree.{Tree, entry_at, fresh}
use Rattle.laws.specs.Invariant.Sound.{caps_of, entry_weight}
use Rattle.laws.specs.Inserting.First.{Holding, fresh_holds}
use Rattle.laws.specs.Room.Kept.{inserted-kept}
use Rattle.laws.specs.Check.Both.{AtRest}
use Rattle.laws.specs.Resting.Merged.{inserted-merged}
use Rattle.head.specs.Counting.{new_running}
use Rattle.rules.specs.Rows.{inserted}
use Rattle.feature.specs.Summaries.{blank}
use Rattle.rules.specs.Tree.{Tree, entry_at}
use Rattle.rules.specs.Check.{total_of}
use Rattle.laws.specs.Check.Passing.{entries_sum}

pub fresh_rests : {s : Settings} → Sized s → (h : Float) → AtRest s (fresh h) 0
unfolding fresh new_running
fresh_rests {s} z h = record { holds = fresh_holds s h; few = omega arith; below = z.most-some }

module _ {s : Settings} (z : Sized s) where
  -- a row into a tree at rest leaves one, with one row more
  pub row_rests : (x : List Float) (t : Tree) (rows : ℕ) → AtRest s t rows → rows < most → AtRest s (inserted s x t) (suc rows)
  row_rests x t rows r h =
      let q = inserted-kept s x t rows (caps_of z) z.most-some (r.holds, r.few) h in
      record { holds = inr q.0; few = q.1; below = inserted-merged s x t z.most-some r.below }

pub rest-total : {s : Settings} {t : Tree} {rows : ℕ} → AtRest s t rows → total_of t.entries ≡ rows
rest-total {s} {t} {rows} r = go r.holds
  where
    go : Holding s t rows → total_of t.entries ≡ rows
    go (inl b) = ap (λ u. total_of u.entries) b.0.is ∙ (unfold total_of in sym b.1)
    go (inr w) = unfold entry_weight entry_at in (entries_sum blank t.entries ∙ w.2)

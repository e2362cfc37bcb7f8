-- A batch under way: some of its rows are in the tree.
use Rattle.std.specs.Prelude.{ℕ, suc, ◌+◌, ◌-◌, ◌≤◌, ◌<◌, ◌≡◌, List, Float}
use Rattle.std.proofs.Math.Path.{sym}
use Rattle.std.proofs.Common.{ap, ◌∙◌, subst, arith}
use Rattle.std.proofs.Math.Nat.{sub-zero}
use Rattle.head.specs.declared.Settings.{Settings}
use Rattle.head.specs.Limits.{Sized}
use Rattle.rules.specs.Lists.{rows_of}
use Rattle.rules.specs.Tree.{Tree}
use Rattle.rows.specs.Rows.{row_of, rows_from, rows_all, rows_next, rows_none}
use Rattle.insert.specs.Resting.{Resting, rest-next}
use Rattle.rules.specs.Rows.{inserted, inserted_all}

-- k of count rows are in the tree u, which was t
pub record Batch (s : Settings) (xs : List Float) (count : ℕ) (t : Tree) (k : ℕ) (u : Tree) : Type 0 where
  pub rests : Resting s (count - k) u
  pub left : inserted_all s (rows_from s xs count k) u ≡ inserted_all s (rows_of count s.dim xs) t

module _ (s : Settings) (xs : List Float) (count : ℕ) (t : Tree) where
  pub batch_start : Resting s count t → Batch s xs count t 0 t
  batch_start r = record { rests = rw (sub-zero count) r; left = ap (λ rows. inserted_all s rows t) (rows_all s xs count) }

  module _ {k : ℕ} {u : Tree} (b : Batch s xs count t k u) where
    pub batch-one : k < count → Resting s (suc (count - (k + 1))) u
    batch-one h = let one : count - k ≡ suc (count - (k + 1)) = omega arith in subst (λ n. Resting s n u) one b.rests

    pub batch-next : {v : Tree} → Sized s → k < count → v ≡ inserted s (row_of s xs k) u → Batch s xs count t (k + 1) v
    unfolding inserted_all
    batch-next z h e =
        rw e
        record {
          rests = rest-next s (row_of s xs k) u (batch-one h) z;
          left = sym (ap (λ rows. inserted_all s rows u) (rows_next s xs count k h)) ∙ b.left;
        }

    pub batch_end : count ≤ k → u ≡ inserted_all s (rows_of count s.dim xs) t
    unfolding inserted_all
    batch_end h = sym (ap (λ rows. inserted_all s rows u) (rows_none s xs count k h)) ∙ b.left

-- A list that names each entry as often as it weighs rows.
use Rattle.std.specs.Prelude.{ℕ, ◌*◌, ◌≤◌, ◌<◌, ◌≡◌, ◌⊎◌, List, length}
use Rattle.std.proofs.Common.{sym, ap, ◌∙◌, inl, inr, mul-one, arith}
use Rattle.feature.specs.Summaries.{blank}
use Rattle.rules.specs.Lists.{occurs}
use Rattle.rules.specs.Tree.{Tree, entry_at, row_count}
use Rattle.laws.specs.Invariant.Weights.{exact_count, blank_exact}
use Rattle.counting.specs.Count.{lt?}
use Rattle.counting.specs.Sums.{sum_to, sum_same}
use Rattle.counting.specs.Lists.{past_end}
use Rattle.laws.specs.Invariant.Sound.{entry_weight}
use Rattle.counting.specs.Totals.{over-sum}
use Rattle.rules.specs.Tree.{Tree, entry_at, row_count}
use Rattle.rules.specs.Lists.{occurs}
use Rattle.counting.specs.Sums.{length_over, sum_to, sum_same}
use Rattle.counting.specs.Totals.{over-sum}

-- the account a gives entry c as many rows as it weighs; what is no entry weighs nothing and owns nothing
abbrev pub Owned : Tree → List ℕ → Type 0
Owned t a = (c : ℕ) → entry_weight t c ≡ occurs c a

pub weight_past : (t : Tree) (c : ℕ) → length t.entries ≤ c → entry_weight t c ≡ 0
unfolding entry_weight entry_at
weight_past t c h = ap (λ e. row_count e) (past_end t.entries blank c h) ∙ exact_count blank 0 blank_exact

-- whoever owns a row is an entry
pub owner_in : (t : Tree) (a : List ℕ) → Owned t a → (c : ℕ) → 0 < occurs c a → c < length t.entries
owner_in t a w c o = go (lt? c (length t.entries))
  where
    go : (c < length t.entries) ⊎ (length t.entries ≤ c) → c < length t.entries
    go (inl h) = h
    go (inr h) = let p = w c in let q = weight_past t c h in absurd (omega arith)

-- as many rows as the entries weigh
pub owned_sum : (t : Tree) (a : List ℕ) → Owned t a → length a ≡ sum_to (entry_weight t) (length t.entries)
owned_sum t a o =
    length_over a ∙ over-sum (λ _. 1) (length t.entries) a (λ c q. owner_in t a o c q)
    ∙ sum_same (entry_weight t) (λ c. occurs c a * 1) (length t.entries) (λ c q. mul-one (occurs c a) ∙ sym (o c))

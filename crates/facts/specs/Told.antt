-- Whether an account is right, as a test that computes: an account that the laws call owned passes it.
use Rattle.std.specs.Prelude.{ℕ, zero, suc, ◌≡◌, refl, Bool, true, ◌&&◌, List, eqb, length}
use Rattle.std.proofs.Common.{sym, ◌∙◌, eq-eqb}
use Rattle.rules.specs.Lists.{every, up_from, occurs}
use Rattle.rules.specs.Tree.{Tree, entry_at, row_count}
use Rattle.rules.specs.Check.{total_of}
use Rattle.laws.specs.Invariant.Sound.{entry_weight}
use Rattle.laws.specs.Invariant.Owned.{Owned, owned_sum}
use Rattle.laws.specs.Check.Passing.{entries_sum}
use Rattle.feature.specs.Summaries.{blank}

-- each entry weighs as many rows as the account gives it, and there are as many rows as the entries weigh
unfoldable pub told : Tree → List ℕ → Bool
told t a = every (λ c. eqb (row_count (entry_at t c)) (occurs c a)) (up_from (length t.entries) 0) && eqb (length a) (total_of t.entries)

every_true : (f : ℕ → Bool) → ((c : ℕ) → f c ≡ true) → (n i : ℕ) → every f (up_from n i) ≡ true
unfolding every up_from
every_true f h zero i = refl
every_true f h (suc n) i = rw (h i) (every_true f h n (suc i))

pub owned_told : (t : Tree) (a : List ℕ) → Owned t a → told t a ≡ true
unfolding told entry_weight entry_at
owned_told t a o =
    let both : (p q : Bool) → p ≡ true → q ≡ true → (p && q) ≡ true = λ p q e f. rw (e, f) in
    both (every (λ c. eqb (row_count (entry_at t c)) (occurs c a)) (up_from (length t.entries) 0)) (eqb (length a) (total_of t.entries))
    (every_true (λ c. eqb (row_count (entry_at t c)) (occurs c a)) (λ c. eq-eqb (row_count (entry_at t c)) (occurs c a) (o c)) (length t.entries) 0)
    (eq-eqb (length a) (total_of t.entries) (owned_sum t a o ∙ sym (entries_sum blank t.entries)))

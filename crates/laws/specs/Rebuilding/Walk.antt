-- The rebuild walked once: what each of its steps keeps of a tree, and of where the entries went, the rebuild keeps.
use Rattle.std.specs.Prelude.{ℕ, ◌-◌, ◌≡◌, Bool, true, false, cond, ◌||◌, leb, eqb, length}
use Rattle.std.proofs.Math.Path.{refl}
use Rattle.head.specs.declared.Settings.{Settings}
use Rattle.head.specs.Counting.{with_merged}
use Rattle.rules.specs.Pairs.{sorted}
use Rattle.rules.specs.Tree.{Tree, on_running}
use Rattle.rules.specs.Reinsert.{reinserted}
use Rattle.rules.specs.Refold.{refolded}
use Rattle.rules.specs.Rebuild.{any_two, target, renumber, pairs_of, across, merge_start, merges_in, thinned, rebalanced, compacted, counted, rebuilt}
use Rattle.counting.specs.Count.{eq_test}
use Rattle.laws.specs.Moves.{merged_into, reinserted_to, rebalanced_to, rebuilt_to}

-- where the merges send entry c, and where the drop sends it then
abbrev pub sent_to : Settings → Tree → ℕ → ℕ
sent_to s t c = merged_into s any_two (length t.entries - target s.max_leaves) (sorted (pairs_of s t)) (merge_start t) c

abbrev pub thinned_to : Settings → Tree → ℕ → ℕ
thinned_to s t c = renumber (merges_in s t).alive (sent_to s t c)

-- not due to be placed again: siblings were merged, and the merged total is below M
pub record Stays (s : Settings) (t : Tree) : Type 0 where
  pub near : across s t ≡ false
  pub below : leb s.max_leaves (thinned t (merges_in s t)).running.merged ≡ false

module _ (s : Settings) (t : Tree) (P : (ℕ → ℕ) → Tree → Type 0)
    (none : (merges_in s t).count ≡ 0 → P (sent_to s t) t)
    (thin : Stays s t → P (thinned_to s t) (thinned t (merges_in s t)))
    (place : P (λ c. reinserted_to s (on_running (with_merged 0) (thinned t (merges_in s t))) (thinned_to s t c))
    (reinserted s (on_running (with_merged 0) (thinned t (merges_in s t)))))
  where
    -- before the refold
    pub compacted_walk : P (rebuilt_to s t) (compacted s t)
    unfolding compacted rebuilt_to rebalanced rebalanced_to
    compacted_walk = merges (eqb (merges_in s t).count 0) refl
      where
        u : Tree
        u = thinned t (merges_in s t)

        due : (a b : Bool) → across s t ≡ a → leb s.max_leaves u.running.merged ≡ b
            → P (λ c. cond (a || b) (reinserted_to s (on_running (with_merged 0) u) (thinned_to s t c)) (thinned_to s t c))
            (cond (a || b) (reinserted s (on_running (with_merged 0) u)) u)
        due true b e f = place
        due false true e f = place
        due false false e f = thin (record { near = e; below = f })

        merges : (a : Bool) → eqb (merges_in s t).count 0 ≡ a
            → P (λ c. cond a (sent_to s t c) (cond (across s t || leb s.max_leaves u.running.merged)
            (reinserted_to s (on_running (with_merged 0) u) (thinned_to s t c)) (thinned_to s t c)))
            (cond a t (cond (across s t || leb s.max_leaves u.running.merged) (reinserted s (on_running (with_merged 0) u)) u))
        merges true e = none ((eq_test (merges_in s t).count 0 true e).0 refl)
        merges false e = due (across s t) (leb s.max_leaves u.running.merged) refl refl

    pub rebuilt_walk : ((f : ℕ → ℕ) (u : Tree) → P f u → P f (refolded s u)) → ((f : ℕ → ℕ) (u : Tree) → P f u → P f (counted u)) → P (rebuilt_to s t) (rebuilt s t)
    unfolding rebuilt
    rebuilt_walk fold count = count _ _ (fold _ _ compacted_walk)

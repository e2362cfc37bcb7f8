-- The tree check says what the invariant says, for any tree, empty or not: a tree that passes satisfies it, and one that satisfies it passes.
use Rattle.std.specs.Prelude.{◌&&◌, T, ℕ, ◌≤◌, ◌≡◌, refl, ◌⊎◌, ◌≢◌, List, [], ◌∷◌, length, Ok}
use Rattle.std.specs.Float.Ieee.Fits.{and_r}
use Rattle.std.proofs.Common.{sym, subst, inl, inr, arith}
use Rattle.feature.specs.declared.Summary.{Summary}
use Rattle.head.specs.declared.Settings.{Settings}
use Rattle.rules.specs.Lists.{every, concat, up_from}
use Rattle.rules.specs.Check.{linked, once_each, levels, own_list, leaf_lists, checked, total_of, Binary64}
use Rattle.rules.specs.Tree.{Tree}
use Rattle.laws.specs.Check.Taken.{checked-whole}
use Rattle.counting.specs.Count.{same?}
use Rattle.laws.specs.Inserting.First.{Holding}
use Rattle.laws.specs.Check.Passing.{whole_passes}
use Rattle.laws.specs.Check.Empty.{bare_passes, checked-bare}
use Rattle.laws.specs.Running.{Below}
use Rattle.rules.specs.CheckLaws.{passing_of}

-- the invariant of a tree between calls: it holds so many rows, in at most max_leaves entries, and its merged total is below that
pub record AtRest (s : Settings) (t : Tree) (rows : ℕ) : Type 0 where
  pub holds : Holding s t rows
  pub few : length t.entries ≤ s.max_leaves
  pub below : Below s t.running

pub none-total : (l : List Summary) → length l ≡ 0 → total_of l ≡ 0
unfolding total_of
none-total [] e = refl
none-total (x ∷ l) e = absurd (omega arith)

-- a tree that passes, its weights floats of binary64 as lent ones are, satisfies the invariant
pub passing_rests : (s : Settings) (t : Tree) → Binary64 t → checked s t ≡ Ok tt → AtRest s t (total_of t.entries)
passing_rests s t n e = go (same? (length t.entries) 0)
  where
    go : (length t.entries ≡ 0) ⊎ (length t.entries ≢ 0) → AtRest s t (total_of t.entries)
    go (inl z) = let q = checked-bare s t n z e in record { holds = inl (q.0, none-total t.entries z); few = omega arith; below = q.1 }
    go (inr z) = let q = checked-whole s t n (omega arith) e in record { holds = inr q.0; few = q.1; below = q.2 }

-- and a tree that satisfies it passes
pub resting_passes : (s : Settings) (t : Tree) (rows : ℕ) → AtRest s t rows → checked s t ≡ Ok tt
resting_passes s t rows r = go r.holds
  where
    go : Holding s t rows → checked s t ≡ Ok tt
    go (inl b) =
        let q = b.0 in
        let u = r.below in
        subst (λ u. checked s u ≡ Ok tt) (sym q.is) (bare_passes s q.summary t.running q.zero (omega arith) u)
    go (inr w) = whole_passes w.1 w.2 r.few r.below

-- each entry is in one leaf list, once
pub passing_linked : (s : Settings) (t : Tree) → checked s t ≡ Ok tt → T (once_each (length t.entries) (leaf_lists t.nodes))
unfolding linked
passing_linked s t e =
    and_r (once_each (length t.nodes) (concat (levels t)) && every (own_list t) (up_from (length t.nodes) 0))
    (once_each (length t.entries) (leaf_lists t.nodes)) (passing_of s t e).links

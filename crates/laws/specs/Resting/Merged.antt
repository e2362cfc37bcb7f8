-- The merged total stays below max_leaves: reinsertion sets it to 0 before it gets there.
use Rattle.std.specs.Prelude.{◌≤◌, Bool, true, false, not, cond, List, T, ltb, length, Float}
use Rattle.std.proofs.Common.{sym}
use Rattle.std.proofs.Math.Path.{subst}
use Rattle.std.proofs.Math.Dec.{nleb→lt}
use Rattle.head.specs.declared.Settings.{Settings}
use Rattle.rules.specs.Tree.{Tree, on_running}
use Rattle.rules.specs.Insert.{grown, row_item}
use Rattle.rules.specs.Rebuild.{counted, rebuilt, merges_in, thinned}
use Rattle.laws.specs.Running.{grown_running, reinserted_running, refolded_running, Below}
use Rattle.head.specs.Counting.{with_rebuilds, with_merged}
use Rattle.rules.specs.Rows.{inserted}
use Rattle.laws.specs.Rebuilding.Walk.{rebuilt_walk}

-- placed again it is 0, and where nothing is placed again it is below M
rebuilt-merged : (s : Settings) (t : Tree) → 1 ≤ s.max_leaves → Below s t.running → Below s (rebuilt s t).running
rebuilt-merged s t one h =
    rebuilt_walk s t (λ f u. Below s u.running) (λ _. h)
    (λ q. nleb→lt s.max_leaves (thinned t (merges_in s t)).running.merged (subst (λ b. T (not b)) (sym q.below) tt))
    (subst (Below s) (sym (reinserted_running s (on_running (with_merged 0) (thinned t (merges_in s t))))) (unfold on_running with_merged in one))
    (λ f u q. subst (Below s) (sym (refolded_running s u)) q) (λ f u q. unfold counted on_running with_rebuilds in q)

pub inserted-merged : (s : Settings) (x : List Float) (t : Tree) → 1 ≤ s.max_leaves → Below s t.running
    → Below s (inserted s x t).running
unfolding inserted
inserted-merged s x t one h = go (ltb s.max_leaves (length (grown s (row_item s x) t).entries))
  where
    same : Below s (grown s (row_item s x) t).running
    same = subst (Below s) (sym (grown_running s (row_item s x) t)) h

    go : (b : Bool) → Below s (cond b (rebuilt s (grown s (row_item s x) t)) (grown s (row_item s x) t)).running
    go true = rebuilt-merged s (grown s (row_item s x) t) one same
    go false = same

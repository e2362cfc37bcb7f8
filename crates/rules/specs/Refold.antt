-- The refold: each node's summary made anew from its list, children before their parents.
use Rattle.std.specs.Prelude.{ℕ, zero, suc, ◌/◌, cond, List, [], ◌∷◌, ◌++◌, map, reverse, length, take, drop}
use Rattle.feature.specs.Summaries.{blank}
use Rattle.feature.specs.declared.Summary.{Summary}
use Rattle.head.specs.declared.Settings.{Settings}
use Rattle.rules.specs.Lists.{change_at}
use Rattle.rules.specs.Tree.{Tree, merge, node_at, child, with_nodes, summed}

-- a list of one is copied; a longer one folds the front half and the back half separately and merges them; k is at least the length
unfoldable pub fold_balanced : Settings → ℕ → List Summary → Summary
fold_balanced s zero es = blank
fold_balanced s (suc k) [] = blank
fold_balanced s (suc k) (e ∷ []) = e
fold_balanced s (suc k) (e ∷ d ∷ es) =
    let l = e ∷ d ∷ es in
    let h = length l / 2 in
    merge s (fold_balanced s k (take h l)) (fold_balanced s k (drop h l))

unfoldable pub refold_one : Settings → ℕ → Tree → Tree
refold_one s i t =
    with_nodes (change_at (λ n. summed (λ _. fold_balanced s (length n.list) (map (child t n.leaf) n.list)) n) i t.nodes) t

-- the nodes from the root down, a parent before its children; k nodes at most
unfoldable pub preorder : Tree → ℕ → List ℕ → List ℕ
preorder t zero ns = []
preorder t (suc k) [] = []
preorder t (suc k) (n ∷ ns) = n ∷ preorder t k (cond (node_at t n).leaf [] (node_at t n).list ++ ns)

unfoldable pub refold_all : Settings → List ℕ → Tree → Tree
refold_all s [] t = t
refold_all s (n ∷ ns) t = refold_all s ns (refold_one s n t)

unfoldable pub refolded : Settings → Tree → Tree
refolded s t = refold_all s (reverse (preorder t (length t.nodes) (t.root ∷ []))) t

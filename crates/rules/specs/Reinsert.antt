-- Reinsertion: the entries collected depth first, the nodes forgotten, and the entries placed back to front, none absorbed.
use Rattle.std.specs.Prelude.{ℕ, zero, suc, true, false, List, [], ◌∷◌, ◌++◌, map, reverse, length}
use Rattle.feature.specs.declared.Summary.{Summary}
use Rattle.head.specs.declared.Settings.{Settings}
use Rattle.rules.specs.Tree.{Tree, blank_node, node_at, entry_at}
use Rattle.rules.specs.Descent.{leaf_for, along_path}
use Rattle.rules.specs.Split.{split_from}
use Rattle.rules.specs.Insert.{summary_item, begun}

-- the entries' numbers below the nodes ns, from the first leaf to the last; k nodes at most
unfoldable pub collected : Tree → ℕ → List ℕ → List ℕ
collected t zero ns = []
collected t (suc k) [] = []
collected t (suc k) (n ∷ ns) = elim (node_at t n).leaf [ true ↦ (node_at t n).list ++ collected t k ns | false ↦ collected t k ((node_at t n).list ++ ns) ]

-- an empty tree with the counters kept
unfoldable pub cleared : Tree → Tree
cleared t = record { nodes = blank_node ∷ []; entries = []; root = 0; running = t.running }

-- the summary e as a new entry, in the leaf that `dist` leads to
unfoldable pub replaced : Settings → Summary → Tree → Tree
replaced s e t =
    let i = summary_item s e in
    let l = leaf_for t i.near in
    split_from s l (begun l i.alone (along_path i.taken l t))

unfoldable pub replaced_all : Settings → List Summary → Tree → Tree
replaced_all s [] t = t
replaced_all s (e ∷ es) t = replaced_all s es (replaced s e t)

unfoldable pub reinserted : Settings → Tree → Tree
reinserted s t = replaced_all s (reverse (map (entry_at t) (collected t (length t.nodes) (t.root ∷ [])))) (cleared t)

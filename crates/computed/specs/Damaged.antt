-- Small trees, whole and damaged, and the lowest condition of the tree check that each fails. One channel, entries of weight 1 unless said.
use Rattle.std.specs.Prelude.{ℕ, ◌≡◌, refl, true, false, List, [], ◌∷◌, map, replicate, Option, None, Some, Result, Ok, Err}
use Rattle.std.specs.Float.Ieee.{neg}
use Rattle.binary64.specs.Operators.{f0, f1, ◌⊘◌}
use Rattle.binary64.specs.Whole.{whole}
use Rattle.feature.specs.declared.Feature.TheVariants.{Spherical}
use Rattle.feature.specs.declared.Summary.{Summary}
use Rattle.feature.specs.Summaries.{blank}
use Rattle.distance.specs.declared.Distance.TheVariants.{CentroidEuclidean}
use Rattle.head.specs.declared.Settings.{Settings}
use Rattle.head.specs.Refusals.{number_of_condition}
use Rattle.rules.specs.Tree.{Node, Tree, fresh}
use Rattle.rules.specs.Check.{checked, Verdict}
use Rattle.rules.specs.Computes.{computes}

-- branching 3, and leaf_cap and M
abbrev with : ℕ → ℕ → Settings
with leafCap maxLeaves =
    record { dim = 1; branching = 3; leaf_cap = leafCap; max_leaves = maxLeaves; feature = Spherical; dist = CentroidEuclidean; abs = CentroidEuclidean }

abbrev weighing : ℕ → Summary
weighing n = record { weight = whole n; mean = blank.mean; deviation = blank.deviation }

abbrev half : Summary
half = record { weight = f1 ⊘ whole 2; mean = blank.mean; deviation = blank.deviation }

abbrev leaf : ℕ → List ℕ → Option ℕ → Node
leaf n l p = record { summary = weighing n; list = l; leaf = true; parent = p }

abbrev inner : ℕ → List ℕ → Option ℕ → Node
inner n l p = record { summary = weighing n; list = l; leaf = false; parent = p }

-- so many entries of weight 1
abbrev ones : ℕ → List Summary
ones n = replicate n (weighing 1)

abbrev tree : List Node → List Summary → ℕ → Tree
tree ns es root = record { nodes = ns; entries = es; root = root; running = record { threshold = f0; rebuilds = 0; merged = 0 } }

-- document 01's number of the condition that fails
unfoldable numbered : Verdict → Result (Unit {0}) ℕ
numbered (Ok tt) = Ok tt
numbered (Err c) = Err (number_of_condition c)

abbrev verdicts : Settings → List Tree → List (Result (Unit {0}) ℕ)
verdicts s ts = map (λ t. numbered (checked s t)) ts

-- leaves 0 and 1 under root 2
abbrev two_leaves : ℕ → List ℕ → ℕ → List ℕ → ℕ → List Node
two_leaves m ks n ls w = leaf m ks (Some 2) ∷ leaf n ls (Some 2) ∷ inner w (0 ∷ 1 ∷ []) None ∷ []

-- a new tree, whose root may weigh −0.0; one entry; two leaves
whole_trees : verdicts (with 2 4)
    (fresh f0
    ∷ tree (record { summary = record { weight = neg f0; mean = blank.mean; deviation = blank.deviation }; list = []; leaf = true; parent = None } ∷ []) [] 0
    ∷ tree (leaf 1 (0 ∷ []) None ∷ []) (ones 1) 0
    ∷ tree (two_leaves 2 (0 ∷ 2 ∷ []) 1 (1 ∷ []) 3) (ones 3) 2
    ∷ [])
    ≡ Ok tt ∷ Ok tt ∷ Ok tt ∷ Ok tt ∷ []
unfolding computes numbered number_of_condition
whole_trees = refl

-- 1: no node; more entries than M. 2: the root is not there; it has a parent
counts_and_root : verdicts (with 2 1)
    (tree [] [] 0
    ∷ tree (leaf 2 (0 ∷ 1 ∷ []) None ∷ []) (ones 2) 0
    ∷ tree (leaf 1 (0 ∷ []) None ∷ []) (ones 1) 1
    ∷ tree (leaf 1 (0 ∷ []) (Some 0) ∷ []) (ones 1) 0
    ∷ [])
    ≡ Err 1 ∷ Err 1 ∷ Err 2 ∷ Err 2 ∷ []
unfolding computes numbered number_of_condition
counts_and_root = refl

-- 3: a list over its cap; an entry that is not there
lists : verdicts (with 1 4) (tree (leaf 2 (0 ∷ 1 ∷ []) None ∷ []) (ones 2) 0 ∷ tree (leaf 1 (1 ∷ []) None ∷ []) (ones 1) 0 ∷ []) ≡ Err 3 ∷ Err 3 ∷ []
unfolding computes numbered number_of_condition
lists = refl

-- 4: a node that nobody lists; an entry that no leaf lists; an entry under two leaves, its rows counted double in every weight; a child that names another
links : verdicts (with 2 4)
    (tree (leaf 1 (0 ∷ []) None ∷ leaf 0 [] None ∷ []) (ones 1) 0
    ∷ tree (leaf 1 (0 ∷ []) None ∷ []) (ones 2) 0
    ∷ tree (two_leaves 2 (0 ∷ 1 ∷ []) 2 (2 ∷ 0 ∷ []) 4) (ones 3) 2
    ∷ tree (leaf 1 (0 ∷ []) (Some 2) ∷ leaf 1 (1 ∷ []) (Some 0) ∷ inner 2 (0 ∷ 1 ∷ []) None ∷ []) (ones 2) 2
    ∷ [])
    ≡ Err 4 ∷ Err 4 ∷ Err 4 ∷ Err 4 ∷ []
unfolding computes numbered number_of_condition
links = refl

-- 5: a leaf with nothing in it beside one with an entry; a lone inner root
empty_lists : verdicts (with 2 4) (tree (two_leaves 1 (0 ∷ []) 0 [] 1) (ones 1) 2 ∷ tree (inner 0 [] None ∷ []) [] 0 ∷ []) ≡ Err 5 ∷ Err 5 ∷ []
unfolding computes numbered number_of_condition
empty_lists = refl

-- 6: a root over one leaf; a leaf beside an inner node over three
levels : verdicts (with 1 4)
    (tree (leaf 1 (0 ∷ []) (Some 1) ∷ inner 1 (0 ∷ []) None ∷ []) (ones 1) 1
    ∷ tree (inner 4 (1 ∷ 2 ∷ []) None ∷ leaf 1 (0 ∷ []) (Some 0) ∷ inner 3 (3 ∷ 4 ∷ 5 ∷ []) (Some 0)
    ∷ leaf 1 (1 ∷ []) (Some 2) ∷ leaf 1 (2 ∷ []) (Some 2) ∷ leaf 1 (3 ∷ []) (Some 2) ∷ []) (ones 4) 0
    ∷ [])
    ≡ Err 6 ∷ Err 6 ∷ []
unfolding computes numbered number_of_condition
levels = refl

-- 7: an entry of weight 0.5; of weight 0; a leaf, and a root, that do not weigh their entries' sum
weights : verdicts (with 2 4)
    (tree (leaf 1 (0 ∷ []) None ∷ []) (half ∷ []) 0
    ∷ tree (leaf 0 (0 ∷ []) None ∷ []) (weighing 0 ∷ []) 0
    ∷ tree (leaf 2 (0 ∷ []) None ∷ []) (ones 1) 0
    ∷ tree (two_leaves 1 (0 ∷ []) 1 (1 ∷ []) 3) (ones 2) 2
    ∷ [])
    ≡ Err 7 ∷ Err 7 ∷ Err 7 ∷ Err 7 ∷ []
unfolding computes numbered number_of_condition
weights = refl

-- 8: a merged total of M; one below it passes
abbrev with-merged : ℕ → Tree
with-merged n =
    record { nodes = leaf 1 (0 ∷ []) None ∷ []; entries = ones 1; root = 0; running = record { threshold = f0; rebuilds = 0; merged = n } }

merged-total : verdicts (with 2 2) (with-merged 2 ∷ with-merged 1 ∷ []) ≡ Err 8 ∷ Ok tt ∷ []
unfolding computes numbered number_of_condition
merged-total = refl

-- Which entries a rebuild merges, and in which order.
use Rattle.std.specs.Prelude.{ℕ, Bool, true, false, cond, ◌&&◌, not, List, [], ◌∷◌, ◌++◌, length, ltb, eqb, Float, Option, None, Some}
use Rattle.std.specs.Float.Ieee.{lt}
use Rattle.binary64.specs.Values.{ranked}
use Rattle.distance.specs.Distances.{merge_cost}
use Rattle.head.specs.declared.Settings.{Settings}
use Rattle.rules.specs.Tree.{Node, Tree, node_at, entry_at}
use Rattle.rules.specs.Descent.{Best, best, closer}
use Rattle.rules.specs.declared.Pair.{Pair}

-- ---- the cheapest partner

-- a NaN is read as infinity
unfoldable pub cost_of : Settings → Tree → ℕ → ℕ → Float
cost_of s t i j = ranked (merge_cost s.dim (entry_at t i) (entry_at t j))

-- the first on a tie
unfoldable pub cheaper : Option Best → ℕ → Float → Option Best
cheaper None j c = Some (best j c)
cheaper (Some b) j c = Some (closer b j c)

-- the cheapest partner of entry i in a group
unfoldable pub partner : (ℕ → Float) → ℕ → Option Best → List ℕ → Option Best
partner f i b [] = b
partner f i b (j ∷ js) = elim (eqb j i) [ true ↦ partner f i b js | false ↦ partner f i (cheaper b j (f j)) js ]

unfoldable pub pair_of : ℕ → Option Best → List Pair
pair_of i None = []
pair_of i (Some (best j c)) = record { cost = c; one = i; two = j } ∷ []

-- each entry of a list with its partner in the group g
unfoldable pub partners : Settings → Tree → List ℕ → List ℕ → List Pair
partners s t g [] = []
partners s t g (i ∷ is) = pair_of i (partner (cost_of s t i) i None g) ++ partners s t g is

-- ---- the groups: leaves, or only if no leaf has two entries, cousins under one parent

unfoldable pub siblings : Settings → Tree → List Node → List Pair
siblings s t [] = []
siblings s t (n ∷ ns) = cond (n.leaf && ltb 1 (length n.list)) (partners s t n.list n.list) [] ++ siblings s t ns

unfoldable pub all_leaves : Tree → List ℕ → Bool
all_leaves t [] = true
all_leaves t (k ∷ ks) = (node_at t k).leaf && all_leaves t ks

-- the lists of the nodes ks, one after the other
unfoldable pub beneath : Tree → List ℕ → List ℕ
beneath t [] = []
beneath t (k ∷ ks) = (node_at t k).list ++ beneath t ks

unfoldable pub cousins : Settings → Tree → List Node → List Pair
cousins s t [] = []
cousins s t (n ∷ ns) =
    let g = beneath t n.list in
    cond (not n.leaf && all_leaves t n.list) (partners s t g g) [] ++ cousins s t ns

-- ---- by cost, ties in list order

unfoldable pub sort_in : Pair → List Pair → List Pair
sort_in p [] = p ∷ []
sort_in p (q ∷ qs) = elim (lt q.cost p.cost) [ true ↦ q ∷ sort_in p qs | false ↦ p ∷ q ∷ qs ]

unfoldable pub sorted : List Pair → List Pair
sorted [] = []
sorted (p ∷ ps) = sort_in p (sorted ps)

-- The split of a list that is over its cap, and its way up to a new root.
use Rattle.std.specs.Prelude.{ℕ, zero, suc, Bool, true, false, cond, ◌||◌, ◌&&◌, not, length, get_or, set, leb, eqb, Float, Option, None, Some}
use mathlib.Core.List.{List, [], ◌∷◌, map, foldl}
use Rattle.std.specs.Float.Ieee.{lt, eq}
use Rattle.binary64.specs.Operators.{f0}
use Rattle.feature.specs.Summaries.{blank}
use Rattle.feature.specs.declared.Summary.{Summary}
use Rattle.head.specs.declared.Settings.{Settings}
use Rattle.rules.specs.Lists.{change_at, keep, snoc, flip}
use Rattle.rules.specs.Tree.{Node, Tree, merge, dist_between, node_at, child, cap, with_nodes, with_root, adding, under}

-- ---- the seeds: the first pair with the strictly largest `dist`, starting from 0 with seeds 0 and 1

pub data Seeds : Type 0 where
  seeds : ℕ → ℕ → Float → Seeds

unfoldable pub farther : Seeds → ℕ → ℕ → Float → Seeds
farther (seeds a b m) i j d = cond (lt m d) (seeds i j d) (seeds a b m)

-- the summary c at place i, paired with those from place j on
unfoldable pub seeds_with : Settings → ℕ → Summary → ℕ → List Summary → Seeds → Seeds
seeds_with s i c j [] b = b
seeds_with s i c j (d ∷ ds) b = seeds_with s i c (suc j) ds (farther b i j (dist_between s c d))

unfoldable pub seeds_from : Settings → ℕ → List Summary → Seeds → Seeds
seeds_from s i [] b = b
seeds_from s i (c ∷ cs) b = seeds_from s (suc i) cs (seeds_with s i c (suc i) cs b)

-- ---- the sides: true for the first group

-- strictly closer to the first seed, or equal and the first group is not longer so far
unfoldable pub to_first : Float → Float → ℕ → ℕ → Bool
to_first d1 d2 n1 n2 = lt d1 d2 || (eq d1 d2 && leb n1 n2)

-- where place i goes, with summary c: the seeds are at s1 and s2 with summaries a and b, n1 and n2 are placed so far
unfoldable pub side : Settings → ℕ → ℕ → Summary → Summary → ℕ → ℕ → ℕ → Summary → Bool
side s s1 s2 a b i n1 n2 c = cond (eqb i s1) true (cond (eqb i s2) false (to_first (dist_between s c a) (dist_between s c b) n1 n2))

unfoldable pub plus_if : Bool → ℕ → ℕ
plus_if true n = suc n
plus_if false n = n

unfoldable pub sides : (ℕ → ℕ → ℕ → Summary → Bool) → ℕ → ℕ → ℕ → List Summary → List Bool
sides f i n1 n2 [] = []
sides f i n1 n2 (c ∷ cs) = let b = f i n1 n2 c in b ∷ sides f (suc i) (plus_if b n1) (plus_if (not b) n2) cs

unfoldable pub sides_by : Settings → Seeds → List Summary → List Bool
sides_by s (seeds a b m) cs = sides (side s a b (get_or cs a blank) (get_or cs b blank)) 0 0 0 cs

-- which of a node's list stay
unfoldable pub stays : Settings → Tree → Node → List Bool
stays s t n = let cs = map (child t n.leaf) n.list in sides_by s (seeds_from s 0 cs (seeds 0 1 f0)) cs

-- ---- the two halves

-- the summary of a list: merged in order into an empty one
unfoldable pub gathered : Settings → Tree → Bool → List ℕ → Summary
gathered s t l ks = foldl (λ a c. merge s a (child t l c)) blank ks

-- the nodes that a list names, told that p is their parent; entries have none
unfoldable pub adopted : Bool → ℕ → List ℕ → List Node → List Node
adopted true p ks ns = ns
adopted false p [] ns = ns
adopted false p (k ∷ ks) ns = adopted false p ks (change_at (under p) k ns)

-- a half of node n: the list ks, its summary gathered from the tree as it stood
unfoldable pub half : Settings → Tree → Node → List ℕ → Node
half s t n ks = record { summary = gathered s t n.leaf ks; list = ks; leaf = n.leaf; parent = n.parent }

-- node i keeps the first group; the second is a new node, last in number, under the same parent
unfoldable pub parted : Settings → ℕ → Node → List ℕ → List ℕ → Tree → Tree
parted s i n one two t = with_nodes (adopted n.leaf (length t.nodes) two (snoc (set t.nodes i (half s t n one)) (half s t n two))) t

unfoldable pub split : Settings → ℕ → Tree → Tree
split s i t =
    let n = node_at t i in
    let bs = stays s t n in
    parted s i n (keep bs n.list) (keep (flip bs) n.list) t

-- ---- the way up

-- a new root over i and j
unfoldable pub crowned : Settings → ℕ → ℕ → Tree → Tree
crowned s i j t =
    let r = length t.nodes in
    let top : Node = record { summary = gathered s t false (i ∷ j ∷ []); list = i ∷ j ∷ []; leaf = false; parent = None } in
    with_root r (with_nodes (snoc (change_at (under r) j (change_at (under r) i t.nodes)) top) t)

unfoldable pub fitting : Settings → Tree → ℕ → Bool
fitting s t i = leb (length (node_at t i).list) (cap s (node_at t i).leaf)

-- what follows a split of i into i and j: a new root, or j goes last into the parent's list and the parent is looked at
unfoldable pub split_next : Settings → (ℕ → Tree → Tree) → ℕ → ℕ → Option ℕ → Tree → Tree
split_next s go i j None u = crowned s i j u
split_next s go i j (Some p) u = go p (with_nodes (change_at (adding j) p u.nodes) u)

unfoldable pub split_if : Settings → (ℕ → Tree → Tree) → ℕ → Bool → Tree → Tree
split_if s go i true t = t
split_if s go i false t = split_next s go i (length t.nodes) (node_at t i).parent (split s i t)

-- node i split if it is over its cap, and so on up; k steps at most
unfoldable pub split_up : Settings → ℕ → ℕ → Tree → Tree
split_up s zero i t = t
split_up s (suc k) i t = split_if s (λ p u. split_up s k p u) i (fitting s t i) t

unfoldable pub split_from : Settings → ℕ → Tree → Tree
split_from s i t = split_up s (length t.nodes) i t

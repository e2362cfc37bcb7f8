-- N = (M+1)(M+2)/2 nodes and M + 1 entries suffice at every moment, and no list is over its cap by more than the spare place.
use Rattle.std.specs.Prelude.{ℕ, zero, suc, ◌+◌, ◌*◌, ◌/◌, ◌≤◌, ◌<◌, ◌≡◌, Bool, true, false, not, T, length, Option, None, Some}
use Rattle.std.proofs.Math.Path.{refl}
use Rattle.std.proofs.Common.{sym, ap, ◌∙◌, subst, mul-le-mul, arith}
use Rattle.std.proofs.Math.Dec.{nleb→lt}
use Rattle.head.specs.declared.Settings.{Settings}
use Rattle.head.specs.Sizes.{node_cap, entry_cap}
use Rattle.rules.specs.Tree.{Node, Tree, node_at, cap, with_nodes, with_root}
use Rattle.rules.specs.Split.{split, parted, crowned, fitting, split_next, split_if, split_up}
use Rattle.counting.specs.Count.{is_le}
use Rattle.laws.specs.Invariant.Links.{Links}
use Rattle.laws.specs.Invariant.Height.{nodes_few}
use Rattle.laws.specs.Invariant.Sound.{Looking, Caps, cap-some}
use Rattle.laws.specs.Splitting.Nodes.{split-length}
use Rattle.laws.specs.Splitting.Extended.{extended}
use Rattle.laws.specs.Splitting.Split.{torn_of}
use Rattle.laws.specs.Splitting.Up.{crowned-settled, next_looking, next_in}

-- for any slack: more than its cap at a node, less growth at a level, an orphan
pub room_links : {s : Settings} {A : ℕ → Node} {n root es : ℕ} {R x y o : ℕ → ℕ} → Links s A n root es R x y o → es ≤ s.max_leaves + 1 → n ≤ node_cap s
unfolding node_cap
room_links {s} {A} {n} {root} {es} {R} {x} {y} {o} g h =
    let a = nodes_few s A n root es R x y o g in
    let b : es * (es + 1) ≤ (s.max_leaves + 1) * (s.max_leaves + 2) = mul-le-mul h (omega arith) in
    let c : 2 * n ≤ (s.max_leaves + 1) * (s.max_leaves + 2) = omega arith in
    halved ((s.max_leaves + 1) * (s.max_leaves + 2)) n c
  where
    halved : (x n : ℕ) → 2 * n ≤ x → n ≤ x / 2
    halved x n h = omega arith

pub record Roomy (s : Settings) (t : Tree) : Type 0 where
  pub nodes : length t.nodes ≤ node_cap s
  pub entries : length t.entries ≤ entry_cap s
  pub lists : (i : ℕ) → i < length t.nodes → length (node_at t i).list ≤ cap s (node_at t i).leaf + 1

-- u has the nodes of t, no more entries and no longer lists
pub record Within (t u : Tree) : Type 0 where
  pub nodes : length u.nodes ≡ length t.nodes
  pub entries : length u.entries ≤ length t.entries
  pub leaf : (i : ℕ) → (node_at u i).leaf ≡ (node_at t i).leaf
  pub lists : (i : ℕ) → length (node_at u i).list ≤ length (node_at t i).list

pub within_then : {t u v : Tree} → Within t u → Within u v → Within t v
within_then a b =
    let e = a.entries in
    let f = b.entries in
    record {
      nodes = b.nodes ∙ a.nodes;
      entries = omega arith;
      leaf = (λ i. b.leaf i ∙ a.leaf i);
      lists = (λ i. let x = a.lists i in let y = b.lists i in omega arith);
    }

pub within-roomy : {s : Settings} {t u : Tree} → Within t u → Roomy s t → Roomy s u
within-roomy {s} {t} {u} w r =
    let n = w.nodes in
    let a = r.nodes in
    let e = w.entries in
    let b = r.entries in
    record { nodes = omega arith; entries = omega arith; lists = lists }
  where
    lists : (i : ℕ) → i < length u.nodes → length (node_at u i).list ≤ cap s (node_at u i).leaf + 1
    lists i l =
        let n = w.nodes in
        let c : cap s (node_at u i).leaf ≡ cap s (node_at t i).leaf = ap (cap s) (w.leaf i) in
        let d = w.lists i in
        let f = r.lists i (omega arith) in
        omega arith

-- a tree with at most one member more than the cap at any node
pub links_roomy : {s : Settings} (t : Tree) {n root es : ℕ} {R x y o : ℕ → ℕ} → Links s (node_at t) n root es R x y o → length t.nodes ≡ n
    → length t.entries ≡ es → ((i : ℕ) → x i ≤ 1) → es ≤ s.max_leaves + 1 → Roomy s t
unfolding entry_cap
links_roomy {s} t g e f one h =
    let a = room_links g h in
    record { nodes = omega arith; entries = omega arith; lists = (λ i l. let b = g.caps i (omega arith) in let c = one i in omega arith) }

-- the trees that splits from node i upward go through: a node split, its second half listed by the parent, or both under a new root
pub data Splitting (s : Settings) : ℕ → Tree → Tree → Type 0 where
  here : {i : ℕ} {t : Tree} → Splitting s i t t
  halved : {i : ℕ} {t : Tree} → fitting s t i ≡ false → Splitting s i t (split s i t)
  crowns : {i : ℕ} {t : Tree} → fitting s t i ≡ false → (node_at t i).parent ≡ None → Splitting s i t (crowned s i (length t.nodes) (split s i t))
  listed : {i : ℕ} {t u : Tree} (p : ℕ) → fitting s t i ≡ false → (node_at t i).parent ≡ Some p → Splitting s p (extended p (length t.nodes) (split s i t)) u
      → Splitting s i t u

-- the last of them is the rule's
pub splitting_end : (s : Settings) (k i : ℕ) (t : Tree) → Splitting s i t (split_up s k i t)
unfolding split_up split_if split_next
splitting_end s zero i t = here
splitting_end s (suc k) i t = go (fitting s t i) refl (λ p u. splitting_end s k p u)
  where
    next : (o : Option ℕ) → (node_at t i).parent ≡ o → fitting s t i ≡ false → ((p : ℕ) (u : Tree) → Splitting s p u (split_up s k p u))
        → Splitting s i t (split_next s (λ p u. split_up s k p u) i (length t.nodes) o (split s i t))
    next None e f ih = crowns f e
    next (Some p) e f ih = listed p f e (ih p (extended p (length t.nodes) (split s i t)))

    go : (b : Bool) → fitting s t i ≡ b → ((p : ℕ) (u : Tree) → Splitting s p u (split_up s k p u)) → Splitting s i t (split_if s (λ p u. split_up s k p u) i b t)
    go true e ih = here
    go false e ih = next (node_at t i).parent refl e ih

many_of : (s : Settings) (t : Tree) (i : ℕ) → Caps s → fitting s t i ≡ false → 1 < length (node_at t i).list
unfolding fitting
many_of s t i c e =
    let h = nleb→lt (length (node_at t i).list) (cap s (node_at t i).leaf) (subst (λ b. T (not b)) (sym e) tt) in
    let q = cap-some s (node_at t i).leaf c in
    omega arith

-- every tree of the splits from a node upward
pub splitting-roomy : {s : Settings} {i : ℕ} {t u : Tree} {R : ℕ → ℕ} {total : ℕ} → Caps s → Looking s t R i total → i < length t.nodes
    → length t.entries ≤ s.max_leaves + 1 → Splitting s i t u → Roomy s u
splitting-roomy {i = i} {t} c g l h here = links_roomy t g.links refl refl (is_le i) h
splitting-roomy {s} {i} {t} c g l h (halved e) =
    let same : length (split s i t).entries ≡ length t.entries = unfold split parted with_nodes in refl in
    links_roomy (split s i t) (torn_of i g l c (many_of s t i c e)) (split-length s t i l) same (λ k. omega arith) h
splitting-roomy {s} {i} {t} c g l h (crowns e q) =
    let few : length (crowned s i (length t.nodes) (split s i t)).entries ≤ s.max_leaves + 1 = unfold crowned split parted with_root with_nodes in h in
    links_roomy (crowned s i (length t.nodes) (split s i t)) (crowned-settled i g l c (many_of s t i c e) q).links refl refl (λ k. omega arith) few
splitting-roomy {s} {i} {t} c g l h (listed p e q r) =
    let few : length (extended p (length t.nodes) (split s i t)).entries ≤ s.max_leaves + 1 = unfold split parted with_nodes in h in
    splitting-roomy c (next_looking i g l c (many_of s t i c e) p q) (next_in i g l c (many_of s t i c e) p q) few r

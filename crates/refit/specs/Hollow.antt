-- Whether any leaf is empty, told node by node.
use Rattle.std.specs.Prelude.{ℕ, suc, ◌+◌, ◌<◌, ◌≡◌, refl, Bool, true, false, ◌||◌, List, [], ◌∷◌, eqb, length, get_or, Float}
use Rattle.std.specs.List.{list_any, range_with_len}
use Rattle.std.proofs.Math.Path.{ap, ap₂}
use Rattle.std.proofs.Common.{arith}
use Rattle.head.specs.declared.Settings.{Settings}
use Rattle.head.specs.declared.Counters.{Counters}
use Rattle.rules.specs.Tree.{Node, blank_node, node_at}
use Rattle.rules.specs.Slices.{tree_of}
use Rattle.rules.specs.Refit.{hollow, any_hollow}
use Rattle.arena.specs.Trees.{count_nodes_lem}

-- ---- one node, by its kind and the length of its list

module _ (n : Node) where
  pub hollow-inner : n.leaf ≡ false → false ≡ hollow n
  unfolding hollow
  hollow-inner e = rw e

  pub hollow-leaf : (k : ℕ) → n.leaf ≡ true → k ≡ length n.list → eqb k 0 ≡ hollow n
  unfolding hollow
  hollow-leaf k e q = rw (e, q)

-- ---- all nodes, told one by one

told : (f : ℕ → Bool) (l : List Node) (a : ℕ) → ((i j : ℕ) → i < length l → j ≡ a + i → f j ≡ hollow (get_or l i blank_node))
    → list_any f (range_with_len a (length l)) ≡ any_hollow l
unfolding any_hollow
told f [] a h = refl
told f (n ∷ l) a h = ap₂ (λ b c. b || c) (h 0 a (omega arith) (omega arith)) (told f l (a + 1) (λ i j p e. h (suc i) j (omega arith) (omega arith)))

pub hollow_told : (s : Settings) (n : Counters) (fs : List Float) (ls : List ℕ)
    → list_any (λ i. hollow (node_at (tree_of s n fs ls) i)) (range_with_len 0 n.nodes) ≡ any_hollow (tree_of s n fs ls).nodes
unfolding node_at
hollow_told s n fs ls =
    let t = tree_of s n fs ls in
    rw (count_nodes_lem s n fs ls) at
    (told (λ i. hollow (get_or t.nodes i blank_node)) t.nodes 0 (λ i j p e. ap (λ k. hollow (get_or t.nodes k blank_node)) (omega arith)))

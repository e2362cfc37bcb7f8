-- One more node in a list, and a new root, node by node.
use Prim.Native.Nat.{ℕ, suc, ◌<◌}
use Rattle.std.specs.Prelude.{◌≡◌, refl, ◌⊎◌, ◌≢◌, false, List, [], ◌∷◌, None, Some}
use Rattle.std.proofs.Common.{sym, ◌∙◌, subst, inl, inr}
use Rattle.std.proofs.Math.Path.{ap}
use native.Mathlib.Omega.{arith}
use Rattle.std.proofs.Math.ListN.{length, get_or}
use Rattle.head.specs.declared.Settings.{Settings}
use Rattle.rules.specs.Lists.{change_at, snoc}
use Rattle.rules.specs.Tree.{Node, Tree, blank_node, node_at, with_nodes, with_root, under, adding, with_list}
use Rattle.rules.specs.Split.{gathered, crowned}
use Rattle.counting.specs.Count.{same?}
use Rattle.laws.specs.Splitting.Tied.{Added}
use Rattle.laws.specs.Splitting.Crown.{Crowned}
use Rattle.counting.specs.Lists.{snoc-length, change_off, change_keeps, snoc-at, change-at, length-change, snoc_off}

-- ---- one more in a list

abbrev pub extended : ℕ → ℕ → Tree → Tree
extended p j t = with_nodes (change_at (adding j) p t.nodes) t

pub extend_added : (t : Tree) (p j : ℕ) → p < length t.nodes → Added (node_at t) (node_at (extended p j t)) p j
unfolding with_nodes node_at adding with_list
extend_added t p j l = record {
  kids_p = ap (λ m. m.list) (change-at (adding j) p blank_node t.nodes l);
  kids_o = (λ k d. ap (λ m. m.list) (change_off (adding j) p k blank_node t.nodes d));
  leaf_o = (λ k. change_keeps (λ m. m.leaf) (adding j) p k blank_node t.nodes (λ m. refl));
  parent_o = (λ k. change_keeps (λ m. m.parent) (adding j) p k blank_node t.nodes (λ m. refl));
}

pub extend_sum : (t : Tree) (p j k : ℕ) → (node_at (extended p j t) k).summary ≡ (node_at t k).summary
unfolding with_nodes node_at adding with_list
extend_sum t p j k = change_keeps (λ m. m.summary) (adding j) p k blank_node t.nodes (λ m. refl)

pub extend_length : (p j : ℕ) (t : Tree) → length (extended p j t).nodes ≡ length t.nodes
unfolding with_nodes
extend_length p j t = length-change (adding j) p t.nodes

-- ---- a new root

module _ (s : Settings) (t : Tree) (i j : ℕ) (li : i < length t.nodes) (lj : j < length t.nodes) where
  abbrev pub told : List Node
  told = change_at (under (length t.nodes)) j (change_at (under (length t.nodes)) i t.nodes)

  told-length : length told ≡ length t.nodes
  told-length =
      length-change (under (length t.nodes)) j (change_at (under (length t.nodes)) i t.nodes) ∙ length-change (under (length t.nodes)) i t.nodes

  abbrev pub top_node : Node
  top_node = record { summary = gathered s t false (i ∷ j ∷ []); list = i ∷ j ∷ []; leaf = false; parent = None }

  pub crowned-length : length (crowned s i j t).nodes ≡ suc (length t.nodes)
  unfolding crowned with_root with_nodes
  crowned-length = snoc-length told top_node ∙ ap suc told-length

  pub crowned_n : node_at (crowned s i j t) (length t.nodes) ≡ top_node
  unfolding crowned with_root with_nodes node_at
  crowned_n = ap (λ z. get_or (snoc told top_node) z blank_node) (sym told-length) ∙ snoc-at told top_node blank_node

  crowned-told : (k : ℕ) → k ≢ length t.nodes → node_at (crowned s i j t) k ≡ get_or told k blank_node
  unfolding crowned with_root with_nodes node_at
  crowned-told k d = snoc_off told top_node blank_node k (λ e. d (e ∙ told-length))

  crowned_keeps : {B : Type 0} (g : Node → B) (k : ℕ) → k ≢ length t.nodes → ((q : ℕ) (m : Node) → g (under q m) ≡ g m)
      → g (node_at (crowned s i j t) k) ≡ g (node_at t k)
  unfolding node_at
  crowned_keeps g k d h =
      ap g (crowned-told k d)
      ∙ change_keeps g (under (length t.nodes)) j k blank_node (change_at (under (length t.nodes)) i t.nodes) (h (length t.nodes))
      ∙ change_keeps g (under (length t.nodes)) i k blank_node t.nodes (h (length t.nodes))

  told_o : (k : ℕ) → k ≢ i → k ≢ j → get_or told k blank_node ≡ node_at t k
  unfolding node_at
  told_o k d e =
      change_off (under (length t.nodes)) j k blank_node (change_at (under (length t.nodes)) i t.nodes) e
      ∙ change_off (under (length t.nodes)) i k blank_node t.nodes d

  told_j : (get_or told j blank_node).parent ≡ Some (length t.nodes)
  unfolding under
  told_j =
      ap (λ m. m.parent) (change-at (under (length t.nodes)) j blank_node (change_at (under (length t.nodes)) i t.nodes)
      (subst (λ z. j < z) (sym (length-change (under (length t.nodes)) i t.nodes)) lj))

  told_i : (get_or told i blank_node).parent ≡ Some (length t.nodes)
  unfolding under
  told_i = go (same? i j)
    where
      go : (i ≡ j) ⊎ (i ≢ j) → (get_or told i blank_node).parent ≡ Some (length t.nodes)
      go (inl e) = ap (λ z. (get_or told z blank_node).parent) e ∙ told_j
      go (inr e) =
          ap (λ m. m.parent) (change_off (under (length t.nodes)) j i blank_node (change_at (under (length t.nodes)) i t.nodes) e)
          ∙ ap (λ m. m.parent) (change-at (under (length t.nodes)) i blank_node t.nodes li)

  pub crowned-sum : (k : ℕ) → k ≢ length t.nodes → (node_at (crowned s i j t) k).summary ≡ (node_at t k).summary
  unfolding under
  crowned-sum k d = crowned_keeps (λ m. m.summary) k d (λ q m. refl)

  pub crowned_parts : Crowned (node_at t) (node_at (crowned s i j t)) i j (length t.nodes)
  unfolding under
  crowned_parts = record {
    kids_n = ap (λ m. m.list) crowned_n;
    leaf_n = ap (λ m. m.leaf) crowned_n;
    parent_n = ap (λ m. m.parent) crowned_n;
    kids_o = (λ k d. crowned_keeps (λ m. m.list) k d (λ q m. refl));
    leaf_o = (λ k d. crowned_keeps (λ m. m.leaf) k d (λ q m. refl));
    parent_i = ap (λ m. m.parent) (crowned-told i (ne i li)) ∙ told_i;
    parent_j = ap (λ m. m.parent) (crowned-told j (ne j lj)) ∙ told_j;
    parent_o = (λ k d e f. ap (λ m. m.parent) (crowned-told k d ∙ told_o k e f));
  }
    where
      ne : (k : ℕ) → k < length t.nodes → k ≢ length t.nodes
      ne k l e = omega arith

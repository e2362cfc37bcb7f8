-- A split and its two endings, node by node: what each leaves at every number.
use Prim.Native.Nat.{ℕ, zero, suc, ◌+◌, ◌<◌}
use Rattle.std.specs.Prelude.{◌≡◌, ◌⊎◌, ◌≢◌, Bool, length, get_or, set, Some}
use Rattle.std.proofs.Math.Path.{refl, ap}
use Rattle.std.proofs.Common.{sym, ◌∙◌, subst, inl, inr, not-suc-le-zero, get_or-set_same}
use Rattle.std.proofs.Math.Bool.{true, false}
use Rattle.std.proofs.lemmas.Bool.{false≢true}
use mathlib.Core.List.{List, [], ◌∷◌}
use native.Mathlib.Omega.{arith}
use Rattle.std.proofs.Math.ListN.{length-set}
use Rattle.std.proofs.Math.Seq.{get_or-set_other}
use Rattle.head.specs.declared.Settings.{Settings}
use Rattle.rules.specs.Lists.{change_at, snoc, occurs}
use Rattle.rules.specs.Tree.{Node, Tree, blank_node, node_at, with_nodes, under}
use Rattle.rules.specs.Split.{half, adopted, parted, split, gathered}
use Rattle.laws.specs.Splitting.Groups.{stay_list, move_list, two_lists}
use Rattle.counting.specs.Count.{is, is_same, is_other, same?}
use Rattle.counting.specs.Sums.{over, occurs-over, length_over, occurs-cons}
use Rattle.laws.specs.Splitting.Torn.{Parts}
use Rattle.counting.specs.Lists.{snoc-length, change_off, change_keeps, snoc-at, change-at, length-change, snoc_off}

-- ---- adopted: only parents change

module _ (p : ℕ) (d : Node) where
  pub adopted_keeps : {B : Type 0} (g : Node → B) (b : Bool) (ks : List ℕ) (ns : List Node) (k : ℕ) → ((m : Node) → g (under p m) ≡ g m)
      → g (get_or (adopted b p ks ns) k d) ≡ g (get_or ns k d)
  unfolding adopted
  adopted_keeps g true ks ns k h = refl
  adopted_keeps g false [] ns k h = refl
  adopted_keeps g false (x ∷ ks) ns k h = adopted_keeps g false ks (change_at (under p) x ns) k h ∙ change_keeps g (under p) x k d ns h

  pub adopted-length : (b : Bool) (ks : List ℕ) (ns : List Node) → length (adopted b p ks ns) ≡ length ns
  unfolding adopted
  adopted-length true ks ns = refl
  adopted-length false [] ns = refl
  adopted-length false (x ∷ ks) ns = adopted-length false ks (change_at (under p) x ns) ∙ length-change (under p) x ns

  adopted_stay : (ks : List ℕ) (ns : List Node) (k : ℕ) → (get_or ns k d).parent ≡ Some p → (get_or (adopted false p ks ns) k d).parent ≡ Some p
  unfolding adopted under change_at
  adopted_stay [] ns k h = h
  adopted_stay (x ∷ ks) ns k h = adopted_stay ks (change_at (under p) x ns) k (go (same? k x))
    where
      go : (k ≡ x) ⊎ (k ≢ x) → (get_or (change_at (under p) x ns) k d).parent ≡ Some p
      go (inr q) = ap (λ m. m.parent) (change_off (under p) x k d ns q) ∙ h
      go (inl q) = end ns x k h
        where
          end : (ns : List Node) (x k : ℕ) → (get_or ns k d).parent ≡ Some p → (get_or (change_at (under p) x ns) k d).parent ≡ Some p
          end [] x k h = h
          end (m ∷ ns) zero zero h = refl
          end (m ∷ ns) zero (suc k) h = h
          end (m ∷ ns) (suc x) zero h = h
          end (m ∷ ns) (suc x) (suc k) h = end ns x k h

  pub adopted_in : (ks : List ℕ) (ns : List Node) (k : ℕ) → k < length ns → 0 < occurs k ks → (get_or (adopted false p ks ns) k d).parent ≡ Some p
  unfolding adopted occurs under
  adopted_in [] ns k l h = absurd (not-suc-le-zero h)
  adopted_in (x ∷ ks) ns k l h = go (same? k x) (λ o. adopted_in ks (change_at (under p) x ns) k (subst (λ z. k < z) (sym (length-change (under p) x ns)) l) o)
    where
      go : (k ≡ x) ⊎ (k ≢ x) → (0 < occurs k ks → (get_or (adopted false p ks (change_at (under p) x ns)) k d).parent ≡ Some p)
          → (get_or (adopted false p ks (change_at (under p) x ns)) k d).parent ≡ Some p
      go (inl e) ih =
          adopted_stay ks (change_at (under p) x ns) k (subst (λ z. (get_or (change_at (under p) z ns) k d).parent ≡ Some p) e
          (ap (λ m. m.parent) (change-at (under p) k d ns l)))
      go (inr e) ih =
          let a : occurs k (x ∷ ks) ≡ is k x + occurs k ks = occurs-cons k x ks in
          let b : is k x ≡ 0 = is_other k x e in
          ih (omega arith)

  pub adopted_out : (b : Bool) (ks : List ℕ) (ns : List Node) (k : ℕ) → (b ≡ true) ⊎ (occurs k ks ≡ 0) → get_or (adopted b p ks ns) k d ≡ get_or ns k d
  unfolding adopted occurs
  adopted_out true ks ns k h = refl
  adopted_out false [] ns k h = refl
  adopted_out false (x ∷ ks) ns k (inl h) = absurd (false≢true h)
  adopted_out false (x ∷ ks) ns k (inr h) =
      let a : occurs k (x ∷ ks) ≡ is k x + occurs k ks = occurs-cons k x ks in
      adopted_out false ks (change_at (under p) x ns) k (inr (omega arith)) ∙ change_off (under p) x k d ns (λ e. off (is_same k x e) a)
    where
      off : is k x ≡ 1 → occurs k (x ∷ ks) ≡ is k x + occurs k ks → ⊥
      off p q = omega arith

-- ---- the split

module _ (s : Settings) (t : Tree) (i : ℕ) (l : i < length t.nodes) where
  pub split-length : length (split s i t).nodes ≡ suc (length t.nodes)
  unfolding split parted with_nodes
  split-length =
      adopted-length (length t.nodes) blank_node (node_at t i).leaf (move_list s t i) (snoc (set t.nodes i (half s t (node_at t i) (stay_list s t i)))
      (half s t (node_at t i) (move_list s t i)))
      ∙ snoc-length (set t.nodes i (half s t (node_at t i) (stay_list s t i))) (half s t (node_at t i) (move_list s t i))
      ∙ ap suc (length-set t.nodes i (half s t (node_at t i) (stay_list s t i)))

  -- before the moved children are told
  abbrev pub bare : List Node
  bare = snoc (set t.nodes i (half s t (node_at t i) (stay_list s t i))) (half s t (node_at t i) (move_list s t i))

  bare_i : get_or bare i blank_node ≡ half s t (node_at t i) (stay_list s t i)
  bare_i =
      snoc_off (set t.nodes i (half s t (node_at t i) (stay_list s t i))) (half s t (node_at t i) (move_list s t i)) blank_node i
      (λ e. differ (e ∙ length-set t.nodes i (half s t (node_at t i) (stay_list s t i))))
      ∙ get_or-set_same t.nodes i (half s t (node_at t i) (stay_list s t i)) blank_node l
    where
      differ : i ≡ length t.nodes → ⊥
      differ e = omega arith

  bare_n : get_or bare (length t.nodes) blank_node ≡ half s t (node_at t i) (move_list s t i)
  bare_n =
      ap (λ z. get_or bare z blank_node) (sym (length-set t.nodes i (half s t (node_at t i) (stay_list s t i))))
      ∙ snoc-at (set t.nodes i (half s t (node_at t i) (stay_list s t i))) (half s t (node_at t i) (move_list s t i)) blank_node

  bare_o : (k : ℕ) → k ≢ i → k ≢ length t.nodes → get_or bare k blank_node ≡ node_at t k
  unfolding node_at
  bare_o k d e =
      snoc_off (set t.nodes i (half s t (node_at t i) (stay_list s t i))) (half s t (node_at t i) (move_list s t i)) blank_node k
      (λ z. e (z ∙ length-set t.nodes i (half s t (node_at t i) (stay_list s t i))))
      ∙ get_or-set_other t.nodes i k (half s t (node_at t i) (stay_list s t i)) blank_node d

  bare-length : length bare ≡ suc (length t.nodes)
  bare-length =
      snoc-length (set t.nodes i (half s t (node_at t i) (stay_list s t i))) (half s t (node_at t i) (move_list s t i))
      ∙ ap suc (length-set t.nodes i (half s t (node_at t i) (stay_list s t i)))

  -- what adoption leaves alone, read off the bare list
  split_keeps : {B : Type 0} (g : Node → B) (k : ℕ) → ((q : ℕ) (m : Node) → g (under q m) ≡ g m) → g (node_at (split s i t) k) ≡ g (get_or bare k blank_node)
  unfolding split parted with_nodes node_at
  split_keeps g k h = adopted_keeps (length t.nodes) blank_node g (node_at t i).leaf (move_list s t i) bare k (h (length t.nodes))

  pub split-sum_i : (node_at (split s i t) i).summary ≡ gathered s t (node_at t i).leaf (stay_list s t i)
  unfolding under half
  split-sum_i = split_keeps (λ m. m.summary) i (λ q m. refl) ∙ ap (λ m. m.summary) bare_i

  pub split-sum_n : (node_at (split s i t) (length t.nodes)).summary ≡ gathered s t (node_at t i).leaf (move_list s t i)
  unfolding under half
  split-sum_n = split_keeps (λ m. m.summary) (length t.nodes) (λ q m. refl) ∙ ap (λ m. m.summary) bare_n

  pub split-sum_o : (k : ℕ) → k ≢ i → k ≢ length t.nodes → (node_at (split s i t) k).summary ≡ (node_at t k).summary
  unfolding under
  split-sum_o k d e = split_keeps (λ m. m.summary) k (λ q m. refl) ∙ ap (λ m. m.summary) (bare_o k d e)

  kids_i' : (node_at (split s i t) i).list ≡ stay_list s t i
  unfolding under half
  kids_i' = split_keeps (λ m. m.list) i (λ q m. refl) ∙ ap (λ m. m.list) bare_i

  kids_n' : (node_at (split s i t) (length t.nodes)).list ≡ move_list s t i
  unfolding under half
  kids_n' = split_keeps (λ m. m.list) (length t.nodes) (λ q m. refl) ∙ ap (λ m. m.list) bare_n

  kids_o' : (k : ℕ) → k ≢ i → k ≢ length t.nodes → (node_at (split s i t) k).list ≡ (node_at t k).list
  unfolding under
  kids_o' k d e = split_keeps (λ m. m.list) k (λ q m. refl) ∙ ap (λ m. m.list) (bare_o k d e)

  leaf_n' : (node_at (split s i t) (length t.nodes)).leaf ≡ (node_at t i).leaf
  unfolding under half
  leaf_n' = split_keeps (λ m. m.leaf) (length t.nodes) (λ q m. refl) ∙ ap (λ m. m.leaf) bare_n

  leaf_o' : (k : ℕ) → k ≢ length t.nodes → (node_at (split s i t) k).leaf ≡ (node_at t k).leaf
  unfolding under half
  leaf_o' k e = split_keeps (λ m. m.leaf) k (λ q m. refl) ∙ go (same? k i)
    where
      go : (k ≡ i) ⊎ (k ≢ i) → (get_or bare k blank_node).leaf ≡ (node_at t k).leaf
      go (inl q) = ap (λ z. (get_or bare z blank_node).leaf) q ∙ ap (λ m. m.leaf) bare_i ∙ ap (λ z. (node_at t z).leaf) (sym q)
      go (inr q) = ap (λ m. m.leaf) (bare_o k q e)

  bare_parent : (k : ℕ) → k ≢ length t.nodes → (get_or bare k blank_node).parent ≡ (node_at t k).parent
  unfolding half
  bare_parent k e = go (same? k i)
    where
      go : (k ≡ i) ⊎ (k ≢ i) → (get_or bare k blank_node).parent ≡ (node_at t k).parent
      go (inl q) = ap (λ z. (get_or bare z blank_node).parent) q ∙ ap (λ m. m.parent) bare_i ∙ ap (λ z. (node_at t z).parent) (sym q)
      go (inr q) = ap (λ m. m.parent) (bare_o k q e)

  -- the new node itself is in no list of the old tree
  module _ (new : ((node_at t i).leaf ≡ true) ⊎ (occurs (length t.nodes) (move_list s t i) ≡ 0)) where
    parent_n' : (node_at (split s i t) (length t.nodes)).parent ≡ (node_at t i).parent
    unfolding split parted with_nodes node_at half
    parent_n' = ap (λ m. m.parent) (adopted_out (length t.nodes) blank_node (node_at t i).leaf (move_list s t i) bare (length t.nodes) new ∙ bare_n)

    parent_moved' : (k : ℕ) → k < length t.nodes → (node_at t i).leaf ≡ false → 0 < occurs k (move_list s t i)
        → (node_at (split s i t) k).parent ≡ Some (length t.nodes)
    unfolding split parted with_nodes node_at
    parent_moved' k h f o =
        ap (λ b. (get_or (adopted b (length t.nodes) (move_list s t i) bare) k blank_node).parent) f
        ∙ adopted_in (length t.nodes) blank_node (move_list s t i) bare k (subst (λ z. k < z) (sym bare-length) (omega arith)) o

    parent_kept' : (k : ℕ) → k ≢ length t.nodes → ((node_at t i).leaf ≡ true) ⊎ (occurs k (move_list s t i) ≡ 0)
        → (node_at (split s i t) k).parent ≡ (node_at t k).parent
    unfolding split parted with_nodes node_at
    parent_kept' k e h = ap (λ m. m.parent) (adopted_out (length t.nodes) blank_node (node_at t i).leaf (move_list s t i) bare k h) ∙ bare_parent k e

  pub split_parts : ((node_at t i).leaf ≡ true) ⊎ (occurs (length t.nodes) (move_list s t i) ≡ 0) → 1 < length (node_at t i).list
      → Parts (node_at t) (node_at (split s i t)) i (length t.nodes) (stay_list s t i) (move_list s t i)
  split_parts new h =
      let g = two_lists s t i h in
      record {
        kids_i = kids_i';
        kids_n = kids_n';
        kids_o = kids_o';
        leaf_n = leaf_n';
        leaf_o = leaf_o';
        parent_n = parent_n' new;
        parent_moved = parent_moved' new;
        parent_kept = parent_kept' new;
        both = (λ c. ap (λ z. z + occurs c (move_list s t i)) (occurs-over c (stay_list s t i)) ∙ ap (λ z. over (is c) (stay_list s t i) + z)
            (occurs-over c (move_list s t i)) ∙ g.sums (is c) ∙ sym (occurs-over c (node_at t i).list));
        sizes = ap (λ z. z + length (move_list s t i)) (length_over (stay_list s t i)) ∙ ap (λ z. over (λ _. 1) (stay_list s t i) + z)
            (length_over (move_list s t i)) ∙ g.sums (λ _. 1) ∙ sym (length_over (node_at t i).list);
        one-some = g.one-some;
        two_some = g.two_some;
      }

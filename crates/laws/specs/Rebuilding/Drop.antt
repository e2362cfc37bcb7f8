-- Dropping the entries that were merged away.
use Rattle.std.specs.Prelude.{ℕ, suc, ◌+◌, ◌≤◌, ◌<◌, ◌≡◌, ◌⊎◌, Bool, true, false, length, get_or, Some}
use Rattle.std.proofs.Math.Path.{refl, ap}
use Rattle.std.proofs.Common.{sym, ◌∙◌, subst, inl, inr, arith}
use Rattle.std.proofs.Math.Bool.{cond}
use mathlib.Core.List.{List, [], ◌∷◌, filter_map}
use Rattle.std.proofs.lemmas.List.{length-map}
use Rattle.std.proofs.Math.ListN.{get_or-map}
use Rattle.binary64.specs.Whole.{most}
use Rattle.feature.specs.Summaries.{blank}
use Rattle.head.specs.declared.Settings.{Settings}
use Rattle.rules.specs.Lists.{count_up, occurs}
use Rattle.rules.specs.Tree.{Tree, node_at, entry_at, blank_node, with_nodes, with_entries, with_list, cap, row_count}
use Rattle.rules.specs.Rebuild.{renumber, keep_numbers, pruned, dropped}
use Rattle.laws.specs.Invariant.Weights.{IsExact}
use Rattle.counting.specs.Count.{is, below}
use Rattle.counting.specs.Sums.{over, over-same, length_over, occurs-over, sum_to, sum_same}
use Rattle.laws.specs.Invariant.Links.{Links, inner, held, inner_no, inner_yes, held_no, held_yes, leaf?, nil}
use Rattle.laws.specs.Invariant.Weigh.{own, own-leaf, own-inner}
use Rattle.laws.specs.Invariant.Sound.{entry_weight, node_weight}
use Rattle.laws.specs.Inserting.Grown.{Counted, Whole}
use Rattle.laws.specs.Invariant.Beneath.{Frame, frame-of, leaves_sum}
use Rattle.counting.specs.Flags.{alive, alive_up, alive_down, flag?, over-kept, renumber-sum, is_sum, old_number, keep_at, keep-length}

over-le : (v w : ℕ → ℕ) (l : List ℕ) → ((c : ℕ) → v c ≤ w c) → over v l ≤ over w l
unfolding over
over-le v w [] h = omega arith
over-le v w (c ∷ l) h = let a = over-le v w l h in let b = h c in omega arith

flag_le : (bs : List Bool) (c : ℕ) → alive bs (λ _. 1) c ≤ 1
flag_le bs c = go (flag? bs c)
  where
    go : (get_or bs c false ≡ true) ⊎ (get_or bs c false ≡ false) → alive bs (λ _. 1) c ≤ 1
    go (inl e) = let a = alive_up bs (λ _. 1) c e in omega arith
    go (inr e) = let a = alive_down bs (λ _. 1) c e in omega arith

-- ---- dropping lengthens no list

pub node_is : (bs : List Bool) (u : Tree) (k : ℕ) → node_at (dropped bs u) k ≡ pruned bs (node_at u k)
unfolding dropped with_entries with_nodes node_at pruned with_list keep_numbers filter_map blank_node
node_is bs u k = get_or-map (pruned bs) u.nodes k blank_node

pub dropped-leaf : (bs : List Bool) (u : Tree) (k : ℕ) → (node_at (dropped bs u) k).leaf ≡ (node_at u k).leaf
unfolding pruned with_list
dropped-leaf bs u k = ap (λ m. m.leaf) (node_is bs u k)

pub dropped_lists : (bs : List Bool) (u : Tree) (k : ℕ) → length (node_at (dropped bs u) k).list ≤ length (node_at u k).list
unfolding pruned with_list
dropped_lists bs u k = subst (λ m. length m.list ≤ length (node_at u k).list) (sym (node_is bs u k)) (go (node_at u k).leaf (node_at u k).list)
  where
    go : (b : Bool) (l : List ℕ) → length (cond b (keep_numbers bs l) l) ≤ length l
    go false l = omega arith
    go true l =
        let a = length_over (keep_numbers bs l) ∙ over-kept bs (λ _. 1) l in
        let b = over-le (alive bs (λ _. 1)) (λ _. 1) l (flag_le bs) in
        let c = length_over l in
        omega arith

pub dropped_nodes : (bs : List Bool) (u : Tree) → length (dropped bs u).nodes ≡ length u.nodes
unfolding dropped with_entries with_nodes
dropped_nodes bs u = length-map u.nodes (pruned bs)

-- ---- what the others keep

module _ {s : Settings} (u : Tree) (bs : List Bool) {R : ℕ → ℕ} (total : ℕ) (g : Links s (node_at u) (length u.nodes) u.root (length u.entries) R nil
    nil nil) (len : length bs ≡ length u.entries) (live : (c : ℕ) → get_or bs c false ≡ true → IsExact (entry_at u c) × (1 ≤ entry_weight u c))
    (sums : sum_to (alive bs (entry_weight u)) (length u.entries) ≡ total) where
  pub leaf-is : (k : ℕ) → (node_at (dropped bs u) k).leaf ≡ (node_at u k).leaf
  leaf-is = dropped-leaf bs u

  parent_is : (k : ℕ) → (node_at (dropped bs u) k).parent ≡ (node_at u k).parent
  unfolding pruned with_list
  parent_is k = ap (λ m. m.parent) (node_is bs u k)

  sum_is : (k : ℕ) → (node_at (dropped bs u) k).summary ≡ (node_at u k).summary
  unfolding pruned with_list
  sum_is k = ap (λ m. m.summary) (node_is bs u k)

  kids-leaf : (k : ℕ) → (node_at u k).leaf ≡ true → (node_at (dropped bs u) k).list ≡ keep_numbers bs (node_at u k).list
  unfolding pruned with_list
  kids-leaf k f = ap (λ m. m.list) (node_is bs u k) ∙ ap (λ b. cond b (keep_numbers bs (node_at u k).list) (node_at u k).list) f

  kids-inner : (k : ℕ) → (node_at u k).leaf ≡ false → (node_at (dropped bs u) k).list ≡ (node_at u k).list
  unfolding pruned with_list
  kids-inner k f = ap (λ m. m.list) (node_is bs u k) ∙ ap (λ b. cond b (keep_numbers bs (node_at u k).list) (node_at u k).list) f

  pub dropped_entries : length (dropped bs u).entries ≡ count_up bs
  unfolding dropped with_entries with_nodes
  dropped_entries = keep-length bs u.entries len

  root_is : (dropped bs u).root ≡ u.root
  unfolding dropped with_entries with_nodes
  root_is = refl

  entry_is : (c : ℕ) → get_or bs c false ≡ true → entry_at (dropped bs u) (renumber bs c) ≡ entry_at u c
  unfolding dropped with_entries with_nodes entry_at
  entry_is c e = keep_at bs u.entries c blank len e

  weight_is : (c : ℕ) → get_or bs c false ≡ true → entry_weight (dropped bs u) (renumber bs c) ≡ entry_weight u c
  unfolding entry_weight
  weight_is c e = ap (λ m. row_count m) (entry_is c e)

  alive-same : (c : ℕ) → alive bs (λ c. entry_weight (dropped bs u) (renumber bs c)) c ≡ alive bs (entry_weight u) c
  alive-same c = go (flag? bs c)
    where
      go : (get_or bs c false ≡ true) ⊎ (get_or bs c false ≡ false) → alive bs (λ c. entry_weight (dropped bs u) (renumber bs c)) c ≡ alive bs (entry_weight u) c
      go (inl e) = alive_up bs (λ c. entry_weight (dropped bs u) (renumber bs c)) c e ∙ weight_is c e ∙ sym (alive_up bs (entry_weight u) c e)
      go (inr e) = alive_down bs (λ c. entry_weight (dropped bs u) (renumber bs c)) c e ∙ sym (alive_down bs (entry_weight u) c e)

  fr : Frame (node_at u) (length u.nodes) u.root (length u.entries) R
  fr = frame-of s (node_at u) (length u.nodes) u.root (length u.entries) R nil nil g

  kid' : (i c : ℕ) → i < length u.nodes → (node_at (dropped bs u) i).leaf ≡ false → 0 < occurs c (node_at (dropped bs u) i).list
      → ((node_at (dropped bs u) c).parent ≡ Some i) × (R i ≡ suc (R c))
  kid' i c l f o =
      let f' : (node_at u i).leaf ≡ false = sym (leaf-is i) ∙ f in
      let r = g.kid i c l f' (subst (λ z. 0 < occurs c z) (kids-inner i f') o) in
      (parent_is c ∙ r.0, r.1)

  inner' : (c k : ℕ) → inner (node_at (dropped bs u) k) c ≡ inner (node_at u k) c
  inner' c k = go (leaf? (node_at u k))
    where
      go : ((node_at u k).leaf ≡ true) ⊎ ((node_at u k).leaf ≡ false) → inner (node_at (dropped bs u) k) c ≡ inner (node_at u k) c
      go (inl f) = inner_no (node_at (dropped bs u) k) c (leaf-is k ∙ f) ∙ sym (inner_no (node_at u k) c f)
      go (inr f) = inner_yes (node_at (dropped bs u) k) c (leaf-is k ∙ f) ∙ ap (λ z. occurs c z) (kids-inner k f) ∙ sym (inner_yes (node_at u k) c f)

  held' : (c k : ℕ) → held (node_at (dropped bs u) k) c ≡ cond (node_at u k).leaf (over (alive bs (λ i. is c (renumber bs i))) (node_at u k).list) 0
  held' c k = go (leaf? (node_at u k))
    where
      go : ((node_at u k).leaf ≡ true) ⊎ ((node_at u k).leaf ≡ false)
          → held (node_at (dropped bs u) k) c ≡ cond (node_at u k).leaf (over (alive bs (λ i. is c (renumber bs i))) (node_at u k).list) 0
      go (inl f) =
          held_yes (node_at (dropped bs u) k) c (leaf-is k ∙ f) ∙ ap (λ z. occurs c z) (kids-leaf k f) ∙ occurs-over c (keep_numbers bs (node_at u k).list)
          ∙ over-kept bs (is c) (node_at u k).list
          ∙ ap (λ b. cond b (over (alive bs (λ i. is c (renumber bs i))) (node_at u k).list) 0) (sym f)
      go (inr f) =
          held_no (node_at (dropped bs u) k) c (leaf-is k ∙ f) ∙ ap (λ b. cond b (over (alive bs (λ i. is c (renumber bs i))) (node_at u k).list) 0) (sym f)

  entries' : (c : ℕ) → sum_to (λ k. held (node_at (dropped bs u) k) c) (length u.nodes) ≡ below c (count_up bs)
  entries' c =
      sum_same (λ k. cond (node_at u k).leaf (over (alive bs (λ i. is c (renumber bs i))) (node_at u k).list) 0) (λ k. held (node_at (dropped bs u) k) c)
      (length u.nodes) (λ k q. held' c k)
      ∙ leaves_sum fr (alive bs (λ i. is c (renumber bs i)))
      ∙ ap (λ m. sum_to (alive bs (λ i. is c (renumber bs i))) m) (sym len)
      ∙ renumber-sum bs (is c) ∙ is_sum c (count_up bs)

  nodes' : (c : ℕ) → sum_to (λ k. inner (node_at (dropped bs u) k) c) (length u.nodes) ≡ sum_to (λ k. inner (node_at u k) c) (length u.nodes)
  nodes' c = sum_same (λ k. inner (node_at u k) c) (λ k. inner (node_at (dropped bs u) k) c) (length u.nodes) (λ k q. inner' c k)

  frame₀ : Frame (node_at (dropped bs u)) (length u.nodes) u.root (count_up bs) R
  frame₀ = record {
    root_in = g.root_in;
    kid = kid';
    grounded = (λ i l f. g.grounded i l (sym (leaf-is i) ∙ f));
    nodes_once = (λ c. let a = g.nodes_once c in let b = nodes' c in omega arith);
    entries_once = entries';
    top = g.top;
  }

  pub drop-frame : Frame (node_at (dropped bs u)) (length (dropped bs u).nodes) (dropped bs u).root (length (dropped bs u).entries) R
  drop-frame =
      subst (λ m. Frame (node_at (dropped bs u)) (length (dropped bs u).nodes) (dropped bs u).root m R) (sym dropped_entries)
      (subst (λ m. Frame (node_at (dropped bs u)) m (dropped bs u).root (count_up bs) R) (sym (dropped_nodes bs u))
      (subst (λ r. Frame (node_at (dropped bs u)) (length u.nodes) r (count_up bs) R) (sym root_is) frame₀))

  pub drop_rows : (k : ℕ) → k < length (dropped bs u).entries → IsExact (entry_at (dropped bs u) k) × (1 ≤ entry_weight (dropped bs u) k)
  drop_rows k h =
      let r = old_number bs k (subst (λ m. k < m) dropped_entries h) in
      let c = r.0 in
      let q = live c r.2 in
      let n : renumber bs c ≡ k = r.3 in (
        subst (λ z. IsExact (entry_at (dropped bs u) z)) n (subst (λ m. IsExact m) (sym (entry_is c r.2)) q.0),
        subst (λ z. 1 ≤ entry_weight (dropped bs u) z) n (subst (λ m. 1 ≤ m) (sym (weight_is c r.2)) q.1),
      )

  pub drop-counted : Counted (dropped bs u) total
  drop-counted =
      ap (λ m. sum_to (entry_weight (dropped bs u)) m) dropped_entries
      ∙ sym (renumber-sum bs (entry_weight (dropped bs u)))
      ∙ sum_same (alive bs (entry_weight u)) (alive bs (λ c. entry_weight (dropped bs u) (renumber bs c))) (length bs) (λ c q. alive-same c)
      ∙ ap (λ m. sum_to (alive bs (entry_weight u)) m) len ∙ sums

  pub size-leaf : (k : ℕ) → (node_at u k).leaf ≡ true → length (node_at (dropped bs u) k).list ≡ over (alive bs (λ _. 1)) (node_at u k).list
  size-leaf k f = ap (λ z. length z) (kids-leaf k f) ∙ length_over (keep_numbers bs (node_at u k).list) ∙ over-kept bs (λ _. 1) (node_at u k).list

  -- ---- where every leaf keeps an entry

  module _ (stay : (k : ℕ) → k < length u.nodes → (node_at u k).leaf ≡ true → 0 < over (alive bs (λ _. 1)) (node_at u k).list) where
    caps' : (k : ℕ) → k < length u.nodes → length (node_at (dropped bs u) k).list ≤ cap s (node_at (dropped bs u) k).leaf + 0
    caps' k l =
        let a = dropped_lists bs u k in
        let e = g.caps k l in
        let h : cap s (node_at (dropped bs u) k).leaf ≡ cap s (node_at u k).leaf = ap (λ z. cap s z) (leaf-is k) in
        omega arith

    filled' : (k : ℕ) → k < length u.nodes → 0 < length (node_at (dropped bs u) k).list
    filled' k l = go (leaf? (node_at u k))
      where
        go : ((node_at u k).leaf ≡ true) ⊎ ((node_at u k).leaf ≡ false) → 0 < length (node_at (dropped bs u) k).list
        go (inl f) = let a = size-leaf k f in let b = stay k l f in omega arith
        go (inr f) =
            let a : length (node_at (dropped bs u) k).list ≡ length (node_at u k).list = ap (λ z. length z) (kids-inner k f) in
            let b = g.filled k l in
            omega arith

    links₀ : Links s (node_at (dropped bs u)) (length u.nodes) u.root (count_up bs) R nil nil nil
    links₀ = record {
      root_in = g.root_in;
      root_top = parent_is u.root ∙ g.root_top;
      kid = kid';
      grounded = (λ i l f. g.grounded i l (sym (leaf-is i) ∙ f));
      nodes_once = (λ c. let a = g.nodes_once c in let b = nodes' c in omega arith);
      entries_once = entries';
      caps = caps';
      filled = filled';
      top = g.top;
      grows = g.grows;
    }

    pub drop_links : Links s (node_at (dropped bs u)) (length (dropped bs u).nodes) (dropped bs u).root (length (dropped bs u).entries) R nil nil nil
    drop_links =
        subst (λ m. Links s (node_at (dropped bs u)) (length (dropped bs u).nodes) (dropped bs u).root m R nil nil nil) (sym dropped_entries)
        (subst (λ m. Links s (node_at (dropped bs u)) m (dropped bs u).root (count_up bs) R nil nil nil) (sym (dropped_nodes bs u))
        (subst (λ r. Links s (node_at (dropped bs u)) (length u.nodes) r (count_up bs) R nil nil nil) (sym root_is) links₀))

    -- ---- and its weight

    module _ (small : total ≤ most) (exact : (k : ℕ) → k < length u.nodes → IsExact (node_at u k).summary)
        (bound : (k : ℕ) → k < length u.nodes → node_weight u k ≤ total) (at_top : node_weight u u.root ≡ total)
        (inners : (k : ℕ) → k < length u.nodes → (node_at u k).leaf ≡ false → node_weight u k ≡ over (node_weight u) (node_at u k).list)
        (leaves : (k : ℕ) → k < length u.nodes → (node_at u k).leaf ≡ true → node_weight u k ≡ over (alive bs (entry_weight u)) (node_at u k).list) where
      wt_is : (k : ℕ) → node_weight (dropped bs u) k ≡ node_weight u k
      unfolding node_weight
      wt_is k = ap (λ m. row_count m) (sum_is k)

      own' : (k : ℕ) → k < length u.nodes → node_weight (dropped bs u) k
          ≡ own (node_at (dropped bs u) k) (entry_weight (dropped bs u)) (node_weight (dropped bs u))
      own' k l = go (leaf? (node_at u k))
        where
          go : ((node_at u k).leaf ≡ true) ⊎ ((node_at u k).leaf ≡ false)
              → node_weight (dropped bs u) k ≡ own (node_at (dropped bs u) k) (entry_weight (dropped bs u)) (node_weight (dropped bs u))
          go (inl f) =
              wt_is k ∙ leaves k l f
              ∙ sym (own-leaf (node_at (dropped bs u) k) (entry_weight (dropped bs u)) (node_weight (dropped bs u)) (leaf-is k ∙ f)
              ∙ ap (λ z. over (entry_weight (dropped bs u)) z) (kids-leaf k f)
              ∙ over-kept bs (entry_weight (dropped bs u)) (node_at u k).list ∙ over-same (alive bs (λ c. entry_weight (dropped bs u) (renumber bs c)))
              (alive bs (entry_weight u)) (node_at u k).list (λ c o. alive-same c))
          go (inr f) =
              wt_is k ∙ inners k l f
              ∙ sym (own-inner (node_at (dropped bs u) k) (entry_weight (dropped bs u)) (node_weight (dropped bs u)) (leaf-is k ∙ f)
              ∙ ap (λ z. over (node_weight (dropped bs u)) z) (kids-inner k f)
              ∙ over-same (node_weight (dropped bs u)) (node_weight u) (node_at u k).list (λ c o. wt_is c))

      pub drop-whole : Whole s (dropped bs u) total
      drop-whole = (
        R,
        record {
          links = drop_links;
          exact = record {
            at_node = (λ k q. subst (λ m. IsExact m) (sym (sum_is k)) (exact k (subst (λ n. k < n) (dropped_nodes bs u) q)));
            at_entry = (λ k q. (drop_rows k q).0);
            some_entry = (λ k q. (drop_rows k q).1);
            small = small;
          };
          weighs = record {
            sums = (λ k q. own' k (subst (λ n. k < n) (dropped_nodes bs u) q));
            bound = (λ k q. subst (λ z. z ≤ total) (sym (wt_is k)) (bound k (subst (λ n. k < n) (dropped_nodes bs u) q)));
            whole-tree = ap (λ r. node_weight (dropped bs u) r) root_is ∙ wt_is u.root ∙ at_top;
          };
        },
        drop-counted,
      )

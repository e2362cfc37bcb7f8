-- The refold, children before parents, makes every node's weight right, whatever the nodes' summaries were before.
use Rattle.std.specs.Prelude.{ℕ, ◌+◌, ◌≤◌, ◌<◌, ◌≡◌, ◌⊎◌, ◌≢◌, Bool, true, length, get_or}
use Rattle.std.proofs.Math.Path.{refl, sym, ap, subst}
use Rattle.std.proofs.Common.{◌∙◌}
use Rattle.std.proofs.Math.Logic.{inl, inr}
use Rattle.std.proofs.Math.Bool.{false, cond}
use mathlib.Core.List.{List, [], ◌∷◌, map, reverse, reverse_aux}
use native.Mathlib.Omega.{arith}
use Rattle.std.proofs.lemmas.List.{length-map}
use Rattle.binary64.specs.Whole.{most}
use Rattle.feature.specs.declared.Summary.{Summary}
use Rattle.feature.specs.Summaries.{blank}
use Rattle.head.specs.declared.Settings.{Settings}
use Rattle.rules.specs.Tree.{Node, Tree, node_at, entry_at, blank_node, with_nodes, summed, child, row_count}
use Rattle.rules.specs.Refold.{fold_balanced, refold_one, refold_all, refolded, preorder}
use Rattle.rules.specs.Lists.{occurs}
use Rattle.rules.specs.Check.{total_of}
use Rattle.laws.specs.Invariant.Weights.{IsExact, Exactly, exact_count, exact_is, weight_of}
use Rattle.counting.specs.Count.{is_other, same?}
use Rattle.counting.specs.Sums.{over, over-same, occurs-cons, sum_to}
use Rattle.laws.specs.Invariant.Links.{Links, nil, leaf?}
use Rattle.counting.specs.Lists.{change-at, change_off, change_keeps, length-change}
use Rattle.laws.specs.Invariant.Weigh.{own, own-leaf, own-inner, Weighs}
use Rattle.laws.specs.Invariant.Sound.{entry_weight, node_weight, Exact, Settled}
use Rattle.laws.specs.Invariant.Same.{links_same}
use Rattle.laws.specs.Rebuilding.Order.{Ordered, every_node, root_ordered}
use Rattle.laws.specs.Inserting.Grown.{Counted, Whole}
use Rattle.laws.specs.Invariant.Beneath.{Frame, frame-of, deep-le, leaves_sum, kid_below, entry_below}
use Rattle.laws.specs.Rebuilding.Refold.{fold_weight, members_total, members_count}
use Rattle.laws.specs.Invariant.Collected.{under, under-leaf, under-inner, under_root}

-- links and entries of a settled tree; nothing is said of the nodes' summaries
pub record Stale (s : Settings) (t : Tree) (R : ℕ → ℕ) (total : ℕ) : Type 0 where
  pub links : Links s (node_at t) (length t.nodes) t.root (length t.entries) R nil nil nil
  pub rows : (c : ℕ) → c < length t.entries → IsExact (entry_at t c) × (1 ≤ entry_weight t c)
  pub counts : Counted t total
  pub small : total ≤ most

-- a settled tree may be refolded too
pub stale_of : (s : Settings) (t : Tree) (R : ℕ → ℕ) (total : ℕ) → Settled s t R total → Counted t total → Stale s t R total
stale_of s t R total g n = record { links = g.links; rows = (λ c h. (g.exact.at_entry c h, g.exact.some_entry c h)); counts = n; small = g.exact.small }

module _ {s : Settings} {t : Tree} {R : ℕ → ℕ} {total : ℕ} (g : Stale s t R total) where
  fr : Frame (node_at t) (length t.nodes) t.root (length t.entries) R
  fr = frame-of s (node_at t) (length t.nodes) t.root (length t.entries) R nil nil g.links

  -- ---- the weights to be

  abbrev L : ℕ → ℕ
  L k = cond (node_at t k).leaf (over (entry_weight t) (node_at t k).list) 0

  unfoldable due : ℕ → ℕ
  due k = under fr (λ k. cond (node_at t k).leaf (over (entry_weight t) (node_at t k).list) 0) k

  due-leaf : (k : ℕ) → k < length t.nodes → (node_at t k).leaf ≡ true → due k ≡ over (entry_weight t) (node_at t k).list
  unfolding due
  due-leaf k l e = under-leaf fr L k l e ∙ ap (λ b. cond b (over (entry_weight t) (node_at t k).list) 0) e

  due-inner : (k : ℕ) → k < length t.nodes → (node_at t k).leaf ≡ false → due k ≡ over due (node_at t k).list
  unfolding due
  due-inner k l e = under-inner fr L k l e ∙ ap (λ b. cond b (over (entry_weight t) (node_at t k).list) 0 + over (under fr L) (node_at t k).list) e ∙ omega arith

  all-due : sum_to L (length t.nodes) ≡ total
  all-due = leaves_sum fr (entry_weight t) ∙ g.counts

  due-le : (k : ℕ) → k < length t.nodes → due k ≤ total
  unfolding due under
  due-le k l = let a = deep-le fr L k l in let b = all-due in omega arith

  due_root : due t.root ≡ total
  unfolding due
  due_root = under_root fr L ∙ all-due

  -- ---- a tree with the same links and entries

  pub record Like (v : Tree) : Type 0 where
    pub kids_as : (k : ℕ) → (node_at v k).list ≡ (node_at t k).list
    pub leaf_as : (k : ℕ) → (node_at v k).leaf ≡ (node_at t k).leaf
    pub parent_as : (k : ℕ) → (node_at v k).parent ≡ (node_at t k).parent
    pub nodes_as : length v.nodes ≡ length t.nodes
    pub entries_as : v.entries ≡ t.entries
    pub root_as : v.root ≡ t.root

  like_self : Like t
  like_self = record { kids_as = (λ k. refl); leaf_as = (λ k. refl); parent_as = (λ k. refl); nodes_as = refl; entries_as = refl; root_as = refl }

  abbrev Done : Tree → ℕ → Type 0
  Done v k = Exactly (node_at v k).summary (due k)

  module _ (v : Tree) (y : Like v) (i : ℕ) where
    abbrev fold : Node → Summary
    fold n = fold_balanced s (length n.list) (map (child v n.leaf) n.list)

    like_one : Like (refold_one s i v)
    unfolding refold_one with_nodes node_at summed
    like_one = record {
      kids_as = (λ k. change_keeps (λ n. n.list) (λ n. summed (λ _. fold n) n) i k blank_node v.nodes (λ n. refl) ∙ y.kids_as k);
      leaf_as = (λ k. change_keeps (λ n. n.leaf) (λ n. summed (λ _. fold n) n) i k blank_node v.nodes (λ n. refl) ∙ y.leaf_as k);
      parent_as = (λ k. change_keeps (λ n. n.parent) (λ n. summed (λ _. fold n) n) i k blank_node v.nodes (λ n. refl) ∙ y.parent_as k);
      nodes_as = length-change (λ n. summed (λ _. fold n) n) i v.nodes ∙ y.nodes_as;
      entries_as = y.entries_as;
      root_as = y.root_as;
    }

    sum_o : (k : ℕ) → k ≢ i → (node_at (refold_one s i v) k).summary ≡ (node_at v k).summary
    unfolding refold_one with_nodes node_at
    sum_o k d = ap (λ n. n.summary) (change_off (λ n. summed (λ _. fold n) n) i k blank_node v.nodes d)

    module _ (l : i < length t.nodes) (kids-done : (node_at t i).leaf ≡ false → (c : ℕ) → 0 < occurs c (node_at t i).list → Done v c) where
      sum_i : (node_at (refold_one s i v) i).summary ≡ fold_balanced s (length (node_at t i).list) (map (child v (node_at t i).leaf) (node_at t i).list)
      unfolding refold_one with_nodes node_at summed
      sum_i =
          ap (λ n. n.summary) (change-at (λ n. summed (λ _. fold n) n) i blank_node v.nodes (subst (λ z. i < z) (sym y.nodes_as) l))
          ∙ ap (λ ks. fold_balanced s (length ks) (map (child v (node_at v i).leaf) ks)) (y.kids_as i)
          ∙ ap (λ b. fold_balanced s (length (node_at t i).list) (map (child v b) (node_at t i).list)) (y.leaf_as i)

      -- each of the list counts what it should
      member : (c : ℕ) → 0 < occurs c (node_at t i).list → IsExact (child v (node_at t i).leaf c)
      member c o = go (node_at t i).leaf refl
        where
          go : (b : Bool) → (node_at t i).leaf ≡ b → IsExact (child v b c)
          go true e =
              unfold child entry_at in subst (λ es. IsExact (get_or es c blank)) (sym y.entries_as) (unfold entry_at in (g.rows c (entry_below fr i c l e o)).0)
          go false e = unfold child in exact_is (node_at v c).summary (due c) (kids-done e c o)

      sums_to : total_of (map (child v (node_at t i).leaf) (node_at t i).list) ≡ due i
      sums_to = members_total v (node_at t i).leaf (node_at t i).list ∙ go (node_at t i).leaf refl
        where
          go : (b : Bool) → (node_at t i).leaf ≡ b → over (weight_of v b) (node_at t i).list ≡ due i
          go true e = over-same (weight_of v true) (entry_weight t) (node_at t i).list (λ c o. same c) ∙ sym (due-leaf i l e)
            where
              same : (c : ℕ) → weight_of v true c ≡ entry_weight t c
              same c = unfold weight_of child entry_at entry_weight in ap (λ es. row_count (get_or es c blank)) y.entries_as
          go false e = over-same (weight_of v false) due (node_at t i).list (λ c o. same c o) ∙ sym (due-inner i l e)
            where
              same : (c : ℕ) → 0 < occurs c (node_at t i).list → weight_of v false c ≡ due c
              same c o = unfold weight_of child in exact_count (node_at v c).summary (due c) (kids-done e c o)

      done_i : Done (refold_one s i v) i
      done_i =
          subst (λ e. Exactly e (due i)) (sym sum_i)
          (subst (λ z. Exactly (fold_balanced s (length (node_at t i).list) (map (child v (node_at t i).leaf) (node_at t i).list)) z) sums_to
          (fold_weight s (length (node_at t i).list) (map (child v (node_at t i).leaf) (node_at t i).list)
          (let q = length-map (node_at t i).list (child v (node_at t i).leaf) in omega arith)
          (members_count v (node_at t i).leaf (node_at t i).list member) (let a = sums_to in let b = due-le i l in let c = g.small in omega arith)))

      done_all : (k : ℕ) → (k ≡ i) ⊎ Done v k → Done (refold_one s i v) k
      done_all k (inl e) = subst (λ z. Done (refold_one s i v) z) (sym e) done_i
      done_all k (inr d) = go (same? k i)
        where
          go : (k ≡ i) ⊎ (k ≢ i) → Done (refold_one s i v) k
          go (inl e) = subst (λ z. Done (refold_one s i v) z) (sym e) done_i
          go (inr e) = subst (λ m. Exactly m (due k)) (sym (sum_o k e)) d

  -- ---- all of them

  all_append : (l r : List ℕ) (v : Tree) → refold_all s (reverse_aux l r) v ≡ refold_all s r (refold_all s (reverse_aux l []) v)
  unfolding refold_all
  all_append [] r v = refl
  all_append (m ∷ l) r v = all_append l (m ∷ r) v ∙ sym (ap (λ u. refold_all s r u) (all_append l (m ∷ []) v))

  abbrev Result : Tree → List ℕ → Type 0
  Result v l = Like v × ((c : ℕ) → 0 < occurs c l → Done v c)

  refold_list : (l : List ℕ) → Ordered t fr l → Result (refold_all s (reverse_aux l []) t) l
  unfolding refold_all
  refold_list [] o = (like_self, (λ c q. absurd (none c q)))
    where
      none : (c : ℕ) → 0 < occurs c [] → ⊥
      none c q = let z : occurs c [] ≡ 0 = unfold occurs in refl in omega arith
  refold_list (m ∷ l) o = subst (λ v. Result v (m ∷ l)) (sym (all_append l (m ∷ []) t)) (next_one (refold_all s (reverse_aux l []) t) (refold_list l o.2))
    where
      next_one : (v : Tree) → Result v l → Result (refold_one s m v) (m ∷ l)
      next_one v r = (like_one v r.0 m, (λ c q. done_all v r.0 m o.0 (λ e d p. r.1 d (o.1 e d p)) c (by c q (same? c m))))
        where
          by : (c : ℕ) → 0 < occurs c (m ∷ l) → (c ≡ m) ⊎ (c ≢ m) → (c ≡ m) ⊎ Done v c
          by c q (inl e) = inl e
          by c q (inr e) = inr (r.1 c (let p = occurs-cons c m l in let z = is_other c m e in omega arith))

  settled_like : (v : Tree) → Like v → ((c : ℕ) → c < length t.nodes → Done v c) → Whole s v total
  settled_like v y d = (R, record { links = links'; exact = exact'; weighs = weighs' }, counted')
    where
      ew : (c : ℕ) → entry_weight v c ≡ entry_weight t c
      ew c = unfold entry_weight entry_at in ap (λ es. row_count (get_or es c blank)) y.entries_as

      len_e : length v.entries ≡ length t.entries
      len_e = ap (λ es. length es) y.entries_as

      wt : (k : ℕ) → k < length t.nodes → node_weight v k ≡ due k
      wt k h = unfold node_weight in exact_count (node_at v k).summary (due k) (d k h)

      in_t : (k : ℕ) → k < length v.nodes → k < length t.nodes
      in_t k h = subst (λ z. k < z) y.nodes_as h

      links' : Links s (node_at v) (length v.nodes) v.root (length v.entries) R nil nil nil
      links' =
          subst (λ m. Links s (node_at v) m v.root (length v.entries) R nil nil nil) (sym y.nodes_as)
          (subst (λ r. Links s (node_at v) (length t.nodes) r (length v.entries) R nil nil nil) (sym y.root_as)
          (subst (λ e. Links s (node_at v) (length t.nodes) t.root e R nil nil nil) (sym len_e)
          (links_same s (node_at t) (node_at v) (length t.nodes) t.root (length t.entries) R nil nil nil y.kids_as y.leaf_as y.parent_as
          g.links)))

      entry_count : (c : ℕ) → c < length t.entries → IsExact (entry_at v c)
      entry_count c h = unfold entry_at in subst (λ es. IsExact (get_or es c blank)) (sym y.entries_as) (unfold entry_at in (g.rows c h).0)

      exact' : Exact v total
      exact' = record {
        at_node = (λ k h. exact_is (node_at v k).summary (due k) (d k (in_t k h)));
        at_entry = (λ c h. entry_count c (subst (λ z. c < z) len_e h));
        some_entry = (λ c h. let a = ew c in let b = (g.rows c (subst (λ z. c < z) len_e h)).1 in omega arith);
        small = g.small;
      }

      own_as : (k : ℕ) → k < length t.nodes → due k ≡ own (node_at v k) (entry_weight v) (node_weight v)
      own_as k h = go (leaf? (node_at t k))
        where
          go : ((node_at t k).leaf ≡ true) ⊎ ((node_at t k).leaf ≡ false) → due k ≡ own (node_at v k) (entry_weight v) (node_weight v)
          go (inl e) =
              due-leaf k h e ∙ sym (over-same (entry_weight v) (entry_weight t) (node_at t k).list (λ c o. ew c))
              ∙ ap (λ l. over (entry_weight v) l) (sym (y.kids_as k))
              ∙ sym (own-leaf (node_at v k) (entry_weight v) (node_weight v) (y.leaf_as k ∙ e))
          go (inr e) =
              due-inner k h e ∙ sym (over-same (node_weight v) due (node_at t k).list (λ c o. wt c (kid_below fr k c h e o)))
              ∙ ap (λ l. over (node_weight v) l) (sym (y.kids_as k))
              ∙ sym (own-inner (node_at v k) (entry_weight v) (node_weight v) (y.leaf_as k ∙ e))

      weighs' : Weighs (node_at v) (entry_weight v) (node_weight v) (length v.nodes) v.root total
      weighs' = record {
        sums = (λ k h. wt k (in_t k h) ∙ own_as k (in_t k h));
        bound = (λ k h. let a = wt k (in_t k h) in let b = due-le k (in_t k h) in omega arith);
        whole-tree = ap (λ r. node_weight v r) y.root_as ∙ wt t.root g.links.root_in ∙ due_root;
      }

      counted' : Counted v total
      counted' = same ∙ g.counts
        where
          same : sum_to (entry_weight v) (length v.entries) ≡ sum_to (entry_weight t) (length t.entries)
          same = unfold entry_weight entry_at in ap (λ es. sum_to (λ k. row_count (get_or es k blank)) (length es)) y.entries_as

  -- the refold makes a stale tree settled
  pub refold_restores : Whole s (refolded s t) total
  unfolding refolded
  refold_restores =
      let r = refold_list (preorder t (length t.nodes) (t.root ∷ [])) (root_ordered t fr) in
      settled_like (refold_all s (reverse (preorder t (length t.nodes) (t.root ∷ []))) t) r.0 (λ c h. r.1 c (every_node t fr c h))

-- so of a tree that holds
pub refolded-whole : (s : Settings) (t : Tree) (total : ℕ) → Whole s t total → Whole s (refolded s t) total
refolded-whole s t total w = refold_restores (stale_of s t w.0 total w.1 w.2)

-- What push and merge keep of a summary, and an empty one has, every step keeps of all summaries in a tree. So their shape is kept.
use Prim.Native.Nat.{ℕ, zero, suc, ◌/◌}
use Rattle.std.specs.Prelude.{Bool, ltb, eqb, set, take, drop, Float, Option, None, Some}
use Rattle.std.proofs.Math.Bool.{true, false}
use mathlib.Core.List.{List, [], ◌∷◌, map, foldl, reverse}
use Rattle.std.proofs.Math.ListN.{length, get_or}
use Rattle.feature.specs.declared.Summary.{Summary}
use Rattle.feature.specs.Summaries.{blank}
use Rattle.head.specs.declared.Settings.{Settings}
use Rattle.rules.specs.Lists.{change_at, snoc, keep, flip}
use Rattle.rules.specs.Tree.{Node, Tree, push, merge, dist_to, dist_between, node_at, entry_at, blank_node, child}
use Rattle.rules.specs.Tree.{with_nodes, with_entries, with_root, on_running, summed, with_list, adding, under}
use Rattle.rules.specs.Descent.{searched, leaf_for, climbed, along_path}
use Rattle.rules.specs.Split.{gathered, stays, adopted, half, parted, split, crowned, fitting, split_next, split_if, split_up, split_from}
use Rattle.rules.specs.Insert.{begun, absorbed, absorbs, absorbed_or_begun, placed, grown_at, grown, row_item}
use Rattle.rules.specs.Reinsert.{collected, cleared, replaced, replaced_all, reinserted}
use Rattle.rules.specs.Refold.{fold_balanced, refold_one, refold_all, refolded, preorder}
use Rattle.rules.specs.Pairs.{sorted}
use Rattle.rules.specs.declared.Pair.{Pair}
use Rattle.rules.specs.Rebuild.{Merging, merge_one, merge_all, pruned, dropped, with_merges, pairs_of, merge_start, merges_in, thinned, Guard, any_two, mergeable}
use Rattle.rules.specs.Rebuild.{counted, rebuilt}
use Rattle.rules.specs.Refit.{poured, reaccumulated, refit_rounds, refitted}
use Rattle.counting.specs.Count.{either}
use Rattle.counting.specs.All.{All, all_map, all-at, all-change, all_back, all_take, all_keep, all_drop, all_append, all_set}
use Rattle.head.specs.Counting.{with_merged}
use Rattle.rules.specs.Route.{Route}
use Rattle.rules.specs.Rows.{inserted, inserted_all}
use Rattle.laws.specs.Rebuilding.Walk.{rebuilt_walk}
use Rattle.laws.specs.Refitting.Walk.{anew, thin, used_in, rounds_walk}

abbrev OfNode : (Summary → Type 0) → Node → Type 0
OfNode Q n = Q n.summary

pub record Throughout (Q : Summary → Type 0) (t : Tree) : Type 0 where
  pub nodes : All (OfNode Q) t.nodes
  pub entries : All Q t.entries

module _ (s : Settings) (Q : Summary → Type 0) (none-q : Q blank) (push-q : (x : List Float) (c : Summary) → Q c → Q (push s x c))
    (merge-q : (a b : Summary) → Q a → Q b → Q (merge s a b)) where
  node_q : (t : Tree) (i : ℕ) → Throughout Q t → Q (node_at t i).summary
  unfolding node_at blank_node
  node_q t i h = all-at (OfNode Q) t.nodes i blank_node h.nodes none-q

  entry_q : (t : Tree) (i : ℕ) → Throughout Q t → Q (entry_at t i)
  unfolding entry_at
  entry_q t i h = all-at Q t.entries i blank h.entries none-q

  child_q : (t : Tree) (b : Bool) (i : ℕ) → Throughout Q t → Q (child t b i)
  unfolding child
  child_q t true i h = entry_q t i h
  child_q t false i h = node_q t i h

  nodes_q : (ns : List Node) (t : Tree) → All (OfNode Q) ns → Throughout Q t → Throughout Q (with_nodes ns t)
  unfolding with_nodes
  nodes_q ns t n h = record { nodes = n; entries = h.entries }

  entries_q : (es : List Summary) (t : Tree) → All Q es → Throughout Q t → Throughout Q (with_entries es t)
  unfolding with_entries
  entries_q es t e h = record { nodes = h.nodes; entries = e }

  climbed_q : (f : Summary → Summary) → ((c : Summary) → Q c → Q (f c)) → (k : ℕ) (o : Option ℕ) (ns : List Node) → All (OfNode Q) ns
      → All (OfNode Q) (climbed f k o ns)
  unfolding climbed summed
  climbed_q f p zero o ns h = h
  climbed_q f p (suc k) None ns h = h
  climbed_q f p (suc k) (Some n) ns h =
      climbed_q f p k (get_or ns n blank_node).parent (change_at (summed f) n ns) (all-change (OfNode Q) (summed f) (λ m. p m.summary) n ns h)

  path_q : (f : Summary → Summary) → ((c : Summary) → Q c → Q (f c)) → (l : ℕ) (t : Tree) → Throughout Q t → Throughout Q (along_path f l t)
  unfolding along_path
  path_q f p l t h = nodes_q (climbed f (length t.nodes) (Some l) t.nodes) t (climbed_q f p (length t.nodes) (Some l) t.nodes h.nodes) h

  begun_q : (l : ℕ) (e : Summary) (t : Tree) → Q e → Throughout Q t → Throughout Q (begun l e t)
  unfolding begun adding with_list with_entries snoc
  begun_q l e t q h =
      nodes_q (change_at (adding (length t.entries)) l t.nodes) (with_entries (snoc t.entries e) t)
      (all-change (OfNode Q) (adding (length t.entries)) (λ m r. r) l t.nodes h.nodes)
      (entries_q (snoc t.entries e) t (all_append Q t.entries (e ∷ []) h.entries (q, tt)) h)

  -- ---- splits

  fold_q : (t : Tree) (b : Bool) → Throughout Q t → (ks : List ℕ) (a : Summary) → Q a → Q (foldl (λ a c. merge s a (child t b c)) a ks)
  fold_q t b h [] a q = q
  fold_q t b h (k ∷ ks) a q = fold_q t b h ks (merge s a (child t b k)) (merge-q a (child t b k) q (child_q t b k h))

  gathered_q : (t : Tree) (b : Bool) (ks : List ℕ) → Throughout Q t → Q (gathered s t b ks)
  unfolding gathered
  gathered_q t b ks h = fold_q t b h ks blank none-q

  adopted_q : (b : Bool) (p : ℕ) (ks : List ℕ) (ns : List Node) → All (OfNode Q) ns → All (OfNode Q) (adopted b p ks ns)
  unfolding adopted under
  adopted_q true p ks ns h = h
  adopted_q false p [] ns h = h
  adopted_q false p (k ∷ ks) ns h = adopted_q false p ks (change_at (under p) k ns) (all-change (OfNode Q) (under p) (λ m r. r) k ns h)

  split_q : (i : ℕ) (t : Tree) → Throughout Q t → Throughout Q (split s i t)
  unfolding split parted half snoc
  split_q i t h =
      let n = node_at t i in
      let one = keep (stays s t n) n.list in
      let two = keep (flip (stays s t n)) n.list in
      nodes_q (adopted n.leaf (length t.nodes) two (snoc (set t.nodes i (half s t n one)) (half s t n two))) t
      (adopted_q n.leaf (length t.nodes) two (snoc (set t.nodes i (half s t n one)) (half s t n two))
      (all_append (OfNode Q) (set t.nodes i (half s t n one)) (half s t n two ∷ []) (all_set (OfNode Q) t.nodes i (half s t n one)
      (gathered_q t n.leaf one h) h.nodes) (gathered_q t n.leaf two h, tt))) h

  crowned_q : (i j : ℕ) (t : Tree) → Throughout Q t → Throughout Q (crowned s i j t)
  unfolding crowned under snoc with_root with_nodes
  crowned_q i j t h =
      let r = length t.nodes in
      record {
        nodes = all_append (OfNode Q) (change_at (under r) j (change_at (under r) i t.nodes)) _
            (all-change (OfNode Q) (under r) (λ m q. q) j (change_at (under r) i t.nodes) (all-change (OfNode Q) (under r) (λ m q. q) i t.nodes
            h.nodes)) (gathered_q t false (i ∷ j ∷ []) h, tt);
        entries = h.entries;
      }

  next_q : (go : ℕ → Tree → Tree) (i j : ℕ) (o : Option ℕ) (u : Tree) → ((p : ℕ) (v : Tree) → Throughout Q v → Throughout Q (go p v)) → Throughout Q u
      → Throughout Q (split_next s go i j o u)
  unfolding split_next adding with_list
  next_q go i j None u f h = crowned_q i j u h
  next_q go i j (Some p) u f h =
      f p (with_nodes (change_at (adding j) p u.nodes) u)
      (nodes_q (change_at (adding j) p u.nodes) u (all-change (OfNode Q) (adding j) (λ m r. r) p u.nodes h.nodes) h)

  if_q : (go : ℕ → Tree → Tree) (i : ℕ) (b : Bool) (t : Tree) → ((p : ℕ) (v : Tree) → Throughout Q v → Throughout Q (go p v)) → Throughout Q t
      → Throughout Q (split_if s go i b t)
  unfolding split_if
  if_q go i true t f h = h
  if_q go i false t f h = next_q go i (length t.nodes) (node_at t i).parent (split s i t) f (split_q i t h)

  up_q : (k i : ℕ) (t : Tree) → Throughout Q t → Throughout Q (split_up s k i t)
  unfolding split_up
  up_q zero i t h = h
  up_q (suc k) i t h = if_q (λ p u. split_up s k p u) i (fitting s t i) t (λ p v. up_q k p v) h

  -- ---- a row in, and an entry placed again

  joined_q : (x : List Float) (l : ℕ) (r : Option ℕ) (t : Tree) → Throughout Q t → Throughout Q (absorbed_or_begun (row_item s x) l r t)
  unfolding absorbed_or_begun absorbed
  joined_q x l None t h = begun_q l (push s x blank) t (push-q x blank none-q) h
  joined_q x l (Some e) t h =
      either (Throughout Q) (absorbs (row_item s x) e t) (absorbed (row_item s x) e t) (begun l (push s x blank) t)
      (entries_q (change_at (push s x) e t.entries) t (all-change Q (push s x) (push-q x) e t.entries h.entries) h)
      (begun_q l (push s x blank) t (push-q x blank none-q) h)

  grown_q : (x : List Float) (t : Tree) → Throughout Q t → Throughout Q (grown s (row_item s x) t)
  unfolding grown grown_at placed split_from
  grown_q x t h =
      let l = leaf_for t (λ c. dist_to s c x) in
      let u = along_path (push s x) l t in
      let r = searched (λ e. dist_to s (entry_at u e) x) (node_at u l).list in
      up_q (length (absorbed_or_begun (row_item s x) l r u).nodes) l (absorbed_or_begun (row_item s x) l r u) (joined_q x l r u (path_q (push s x) (push-q x) l t h))

  replaced_all_q : (es : List Summary) (t : Tree) → All Q es → Throughout Q t → Throughout Q (replaced_all s es t)
  unfolding replaced_all replaced split_from
  replaced_all_q [] t e h = h
  replaced_all_q (c ∷ es) t e h =
      let l = leaf_for t (λ d. dist_between s d c) in
      let F : Summary → Summary = λ d. merge s d c in
      let v = begun l c (along_path F l t) in
      replaced_all_q es (split_up s (length v.nodes) l v) e.1
      (up_q (length v.nodes) l v (begun_q l c (along_path F l t) e.0 (path_q F (λ d q. merge-q d c q e.0) l t h)))

  reinserted_q : (t : Tree) → Throughout Q t → Throughout Q (reinserted s t)
  unfolding reinserted cleared blank_node
  reinserted_q t h =
      let ks = collected t (length t.nodes) (t.root ∷ []) in
      replaced_all_q (reverse (map (entry_at t) ks)) (cleared t) (all_back Q (map (entry_at t) ks) [] (all_map Q (entry_at t) (λ k. entry_q t k h) ks) tt)
      (record { nodes = (none-q, tt); entries = tt })

  -- ---- the refold

  balanced_q : (k : ℕ) (es : List Summary) → All Q es → Q (fold_balanced s k es)
  unfolding fold_balanced
  balanced_q zero es h = none-q
  balanced_q (suc k) [] h = none-q
  balanced_q (suc k) (e ∷ []) h = h.0
  balanced_q (suc k) (e ∷ d ∷ es) h =
      let l = e ∷ d ∷ es in
      let m = length l / 2 in
      merge-q (fold_balanced s k (take m l)) (fold_balanced s k (drop m l)) (balanced_q k (take m l) (all_take Q m l h))
      (balanced_q k (drop m l) (all_drop Q m l h))

  refold_all_q : (ns : List ℕ) (t : Tree) → Throughout Q t → Throughout Q (refold_all s ns t)
  unfolding refold_all refold_one summed
  refold_all_q [] t h = h
  refold_all_q (i ∷ ns) t h =
      refold_all_q ns (refold_one s i t)
      (nodes_q _ t (all-change (OfNode Q) (λ n. summed (λ _. fold_balanced s (length n.list) (map (child t n.leaf) n.list)) n)
      (λ n r. balanced_q (length n.list) (map (child t n.leaf) n.list) (all_map Q (child t n.leaf) (λ k. child_q t n.leaf k h) n.list)) i
      t.nodes h.nodes) h)

  refolded_q : (t : Tree) → Throughout Q t → Throughout Q (refolded s t)
  unfolding refolded
  refolded_q t h = refold_all_q (reverse (preorder t (length t.nodes) (t.root ∷ []))) t h

  -- ---- the rebuild

  merges_q : (may : Guard) (k : ℕ) (ps : List Pair) (m : Merging) → All Q m.entries → All Q (merge_all s may k ps m).entries
  unfolding merge_all merge_one
  merges_q may zero ps m h = h
  merges_q may (suc k) [] m h = h
  merges_q may (suc k) (p ∷ ps) m h = go (mergeable may p m) (merges_q may k ps (merge_one s p m) one) (merges_q may (suc k) ps m h)
    where
      b : Summary
      b = get_or m.entries p.two blank

      one : All Q (merge_one s p m).entries
      one = all-change Q (λ e. merge s e b) (λ e q. merge-q e b q (all-at Q m.entries p.two blank h none-q)) p.one m.entries h

      go : (l : Bool) → All Q (merge_all s may k ps (merge_one s p m)).entries → All Q (merge_all s may (suc k) ps m).entries
          → All Q (elim l as (λ _. Merging) [ true ↦ merge_all s may k ps (merge_one s p m) | false ↦ merge_all s may (suc k) ps m ]).entries
      go true x y = x
      go false x y = y

  dropped_q : (bs : List Bool) (t : Tree) → Throughout Q t → Throughout Q (dropped bs t)
  unfolding dropped
  dropped_q bs t h =
      entries_q (keep bs t.entries) (with_nodes (map (pruned bs) t.nodes) t) (all_keep Q bs t.entries h.entries)
      (nodes_q (map (pruned bs) t.nodes) t (pruned_q t.nodes h.nodes) h)
    where
      pruned_q : (ns : List Node) → All (OfNode Q) ns → All (OfNode Q) (map (pruned bs) ns)
      pruned_q [] h = tt
      pruned_q (n ∷ ns) h = (unfold pruned with_list in h.0, pruned_q ns h.1)

  rebuilt_q : (t : Tree) → Throughout Q t → Throughout Q (rebuilt s t)
  rebuilt_q t h =
      rebuilt_walk s t (λ _ u. Throughout Q u) (λ _. h) (λ _. thin)
      (reinserted_q (on_running (with_merged 0) (thinned t (merges_in s t))) (unfold on_running in (record { nodes = thin.nodes; entries = thin.entries })))
      (λ _ u q. refolded_q u q) (λ _ u q. unfold counted on_running in (record { nodes = q.nodes; entries = q.entries }))
    where
      thin : Throughout Q (thinned t (merges_in s t))
      thin =
          dropped_q (merges_in s t).alive (with_merges t (merges_in s t)) (unfold with_merges on_running with_entries in
          (record { nodes = h.nodes; entries = merges_q any_two _ (sorted (pairs_of s t)) (merge_start t) h.entries }))

  pub inserted_all_q : (xs : List (List Float)) (t : Tree) → Throughout Q t → Throughout Q (inserted_all s xs t)
  unfolding inserted_all inserted
  inserted_all_q [] t h = h
  inserted_all_q (x ∷ xs) t h =
      let u = grown s (row_item s x) t in
      let g = grown_q x t h in
      inserted_all_q xs (inserted s x t) (either (Throughout Q) (ltb s.max_leaves (length u.entries)) (rebuilt s u) u (rebuilt_q u g) g)

  -- ---- the refit

  poured_q : (way : Route) (t : Tree) (xs : List (List Float)) (es : List Summary) → All Q es → All Q (poured s (way t) xs es)
  unfolding poured
  poured_q way t [] es h = h
  poured_q way t (x ∷ xs) es h = poured_q way t xs (change_at (push s x) (way t x) es) (all-change Q (push s x) (push-q x) (way t x) es h)

  rounds_q : (way : Route) (xs : List (List Float)) (k r : ℕ) (t : Tree) → Throughout Q t → Throughout Q (refit_rounds s way xs k r t)
  rounds_q way xs k r t h =
      rounds_walk s way xs (λ _ u _. Throughout Q u) (λ u _. Throughout Q u) (λ u a q. q) (λ k u a q _. poured u q)
      (λ k r u a q _ _. thinned u q) (λ k u a q _. reinserted_q (thin s way xs u) (thinned u q)) k r t [] h
    where
      poured : (u : Tree) → Throughout Q u → Throughout Q (anew s way xs u)
      poured u q =
          entries_q (reaccumulated s way u xs) u
          (unfold reaccumulated in poured_q way u xs (map (λ _. blank) u.entries) (all_map Q (λ _. blank) (λ _. none-q) u.entries)) q

      thinned : (u : Tree) → Throughout Q u → Throughout Q (thin s way xs u)
      thinned u q = dropped_q (used_in s way xs u) (anew s way xs u) (poured u q)

  pub refitted_q : (way : Route) (xs : List (List Float)) (t : Tree) → Throughout Q t → Throughout Q (refitted s way xs t)
  unfolding refitted
  refitted_q way [] t h = h
  refitted_q way (x ∷ xs) t h =
      let v = refit_rounds s way (x ∷ xs) (length t.entries) 0 t in
      either (Throughout Q) (eqb (length t.entries) 0) t (refolded s v) h (refolded_q v (rounds_q way (x ∷ xs) (length t.entries) 0 t h))

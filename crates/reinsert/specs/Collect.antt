-- A collection, one node at a time: the summaries so far, and those beneath the nodes that wait, are all.
use Rattle.std.specs.Prelude.{ℕ, zero, suc, ◌+◌, ◌-◌, ◌≤◌, ◌<◌, ◌≡◌, true, false, ◌⊎◌, List, [], ◌∷◌, ◌++◌, map}
use Rattle.std.proofs.Math.Path.{refl, sym}
use Rattle.std.proofs.Common.{ap, ◌∙◌, subst, inl, inr, arith, length-append}
use Rattle.std.proofs.Math.ListN.{length}
use Rattle.std.proofs.lemmas.List.{length-map}
use Rattle.feature.specs.declared.Summary.{Summary}
use Rattle.head.specs.declared.Settings.{Settings}
use Rattle.head.specs.Sizes.{entry_cap}
use Rattle.rules.specs.Lists.{occurs}
use Rattle.rules.specs.Tree.{Tree, node_at, entry_at}
use Rattle.rules.specs.Reinsert.{collected}
use Rattle.counting.specs.Count.{lt?}
use Rattle.counting.specs.Sums.{over, over-append, length_over, occurs-append, occurs_here, occurs_later, occurs-only, sum_ones}
use Rattle.laws.specs.Invariant.Beneath.{kid_below}
use Rattle.laws.specs.Invariant.Collected.{collect_sum, under-inner}
use Rattle.laws.specs.ForCode.{Standing}
use Rattle.bounds.specs.Standing.{leaves_under, one_leaf, nodes_few, under-few}
use Rattle.stretch.specs.Stretches.{append-none}
use Rattle.scratch.specs.Slots.{append-map}

-- the summaries of all entries, from the first leaf to the last
unfoldable pub all_collected : Tree → List Summary
all_collected t = map (entry_at t) (collected t (length t.nodes) (t.root ∷ []))

pub all-length : (s : Settings) (t : Tree) → Standing s t → length (all_collected t) ≡ length t.entries
unfolding all_collected
all-length s t u =
    let all = collected t (length t.nodes) (t.root ∷ []) in
    length-map all (entry_at t) ∙ length_over all ∙ collect_sum s t u.framed.frame (λ _. 1) ∙ sum_ones (length t.entries)

-- with k nodes at most left, the summaries es so far and the nodes ns that wait, which are there, with no more leaves beneath them than the entries' cap
pub record Collecting (s : Settings) (t : Tree) (k : ℕ) (es : List Summary) (ns : List ℕ) : Type 0 where
  pub standing : Standing s t
  pub same : es ++ map (entry_at t) (collected t k ns) ≡ all_collected t
  pub there : (c : ℕ) → 0 < occurs c ns → c < length t.nodes
  pub few : over (leaves_under s t standing) ns ≤ entry_cap s

pub collect_start : (s : Settings) (t : Tree) {es : List Summary} {ns : List ℕ} {k : ℕ} → Standing s t → k ≡ length t.nodes → es ≡ [] → ns ≡ t.root ∷ []
    → Collecting s t k es ns
unfolding all_collected over
collect_start s t u e p q =
    rw (e, p, q)
    record {
      standing = u;
      same = refl;
      there = λ c o. subst (λ z. z < length t.nodes) (sym (occurs-only c t.root o)) u.framed.frame.root_in;
      few = let a = under-few s t u t.root u.framed.frame.root_in in omega arith;
    }

-- ---- the rule's steps

leaf_first : (t : Tree) (k i : ℕ) (ns : List ℕ) → 0 < k → (node_at t i).leaf ≡ true → collected t k (i ∷ ns) ≡ (node_at t i).list ++ collected t (k - 1) ns
unfolding collected
leaf_first t zero i ns l e = absurd (omega arith)
leaf_first t (suc k) i ns l e = let p : suc k - 1 ≡ k = omega arith in rw (e, collected, p)

inner_first : (t : Tree) (k i : ℕ) (ns : List ℕ) → 0 < k → (node_at t i).leaf ≡ false → collected t k (i ∷ ns) ≡ collected t (k - 1) ((node_at t i).list ++ ns)
unfolding collected
inner_first t zero i ns l e = absurd (omega arith)
inner_first t (suc k) i ns l e = let p : suc k - 1 ≡ k = omega arith in rw (e, collected, p)

-- ---- one node after the other

module _ (s : Settings) (t : Tree) (k : ℕ) (es : List Summary) where
  -- none waits, or none may be visited: all are collected
  pub collect_none : {ns : List ℕ} → ns ≡ [] → Collecting s t k es ns → es ≡ all_collected t
  collect_none e g = sym (append-none es) ∙ ap (λ l. es ++ map (entry_at t) l) (sym (nothing k)) ∙ (rw e at g.same)
    where
      nothing : (k : ℕ) → collected t k [] ≡ []
      nothing zero = unfold collected in refl
      nothing (suc k) = unfold collected in refl

  pub collect_end : {ns : List ℕ} → k ≡ 0 → Collecting s t k es ns → es ≡ all_collected t
  unfolding collected
  collect_end e g = sym (append-none es) ∙ (rw e at g.same)

  -- no more nodes wait than entries have room
  pub waiting_few : (ns : List ℕ) → Collecting s t k es ns → length ns ≤ entry_cap s
  waiting_few ns g = let a = nodes_few s t g.standing ns g.there in let b = g.few in omega arith

  module _ (i : ℕ) (ns : List ℕ) (g : Collecting s t k es (i ∷ ns)) where
    pub top_there : i < length t.nodes
    top_there = g.there i (occurs_here i ns)

    rest_there : (c : ℕ) → 0 < occurs c ns → c < length t.nodes
    rest_there c o = g.there c (occurs_later c i ns o)

    sum : over (leaves_under s t g.standing) (i ∷ ns) ≡ leaves_under s t g.standing i + over (leaves_under s t g.standing) ns
    unfolding over
    sum = refl

    module _ (l : 0 < k) where
      -- ---- a leaf: its entries follow
      module _ (e : (node_at t i).leaf ≡ true) where
        -- and have room behind those so far
        pub leaf_room : length es + length (node_at t i).list ≤ entry_cap s
        leaf_room =
            let all = all-length s t g.standing in
            let a = ap length (ap (λ l. es ++ map (entry_at t) l) (sym (leaf_first t k i ns l e)) ∙ g.same) in
            let b = length-append es (map (entry_at t) ((node_at t i).list ++ collected t (k - 1) ns)) in
            let c = length-map ((node_at t i).list ++ collected t (k - 1) ns) (entry_at t) in
            let d = length-append (node_at t i).list (collected t (k - 1) ns) in
            let f = g.standing.entries_few in
            omega arith

        pub collect_leaf : {fs : List Summary} {ms : List ℕ} → fs ≡ es ++ map (entry_at t) (node_at t i).list → ms ≡ ns → Collecting s t (k - 1) fs ms
        collect_leaf q p =
            rw (q, p)
            record {
              standing = g.standing;
              same =
                  append-map (entry_at t) es (node_at t i).list (collected t (k - 1) ns)
                  ∙ ap (λ l. es ++ map (entry_at t) l) (sym (leaf_first t k i ns l e)) ∙ g.same;
              there = rest_there;
              few = let a = sum in let b = g.few in omega arith;
            }

      -- ---- an inner node: its children wait
      module _ (e : (node_at t i).leaf ≡ false) where
        children : Collecting s t (k - 1) es ((node_at t i).list ++ ns)
        children = record {
          standing = g.standing;
          same = ap (λ l. es ++ map (entry_at t) l) (sym (inner_first t k i ns l e)) ∙ g.same;
          there = (λ c o. by c (lt? 0 (occurs c (node_at t i).list)) o);
          few =
              (let a = sum in
              let b = g.few in
              let c = over-append (leaves_under s t g.standing) (node_at t i).list ns in
              let d : leaves_under s t g.standing i ≡ one_leaf t i + over (leaves_under s t g.standing) (node_at t i).list =
              (unfold leaves_under in under-inner g.standing.framed.frame (one_leaf t) i top_there e) in
              omega arith);
        }
          where
            by : (c : ℕ) → (0 < occurs c (node_at t i).list) ⊎ (occurs c (node_at t i).list ≤ 0) → 0 < occurs c ((node_at t i).list ++ ns)
                → c < length t.nodes
            by c (inl q) o = kid_below g.standing.framed.frame i c top_there e q
            by c (inr q) o = let p = occurs-append c (node_at t i).list ns in rest_there c (omega arith)

        -- which have room on the stack
        pub inner_room : length (node_at t i).list + length ns ≤ entry_cap s
        inner_room =
            let a = length-append (node_at t i).list ns in
            let b = nodes_few s t children.standing ((node_at t i).list ++ ns) children.there in
            let c = children.few in
            omega arith

        pub collect_inner : {fs : List Summary} {ms : List ℕ} → fs ≡ es → ms ≡ (node_at t i).list ++ ns → Collecting s t (k - 1) fs ms
        collect_inner q p = rw (q, p) children

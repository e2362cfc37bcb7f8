-- The rebuild keeps the invariant and the total, and leaves fewer entries.
use Rattle.std.specs.Prelude.{ℕ, zero, suc, ◌-◌, ◌≤◌, ◌<◌, ◌≡◌, refl, true, ◌&&◌}
use Rattle.std.proofs.Math.Path.{sym, ap, subst}
use Rattle.std.proofs.Common.{◌∙◌, true≢false, not-suc-le-zero, le_of_suc-le-suc}
use Rattle.std.proofs.Math.Bool.{false}
use mathlib.Core.List.{List, [], ◌∷◌, map}
use native.Mathlib.Omega.{arith}
use Rattle.std.proofs.Math.ListN.{length, get_or, length-map}
use Rattle.feature.specs.declared.Summary.{Summary}
use Rattle.feature.specs.Summaries.{blank}
use Rattle.head.specs.declared.Settings.{Settings}
use Rattle.rules.specs.Lists.{count_up, occurs}
use Rattle.rules.specs.Tree.{Tree, node_at, entry_at, on_running, with_entries, row_count}
use Rattle.rules.specs.Pairs.{sorted, siblings}
use Rattle.rules.specs.declared.Pair.{Pair}
use Rattle.rules.specs.Rebuild.{Merging, merge_all, both_alive, dropped, with_merges, target, pairs_from, pairs_of, none_near, across, merge_start, merges_in, counted, rebuilt, compacted, thinned, any_two, mergeable}
use Rattle.rules.specs.Reinsert.{reinserted}
use Rattle.laws.specs.Invariant.Weights.{IsExact}
use Rattle.counting.specs.Sums.{over, over-same, length_over, sum_to, sum_same, sum-at}
use Rattle.laws.specs.Invariant.Links.{Links, nil}
use Rattle.laws.specs.Invariant.Weigh.{own-leaf, own-inner}
use Rattle.laws.specs.Invariant.Sound.{entry_weight, node_weight, Settled, Caps}
use Rattle.laws.specs.Inserting.Listed.{held_in_lem}
use Rattle.laws.specs.Inserting.Grown.{Counted, Whole}
use Rattle.laws.specs.Invariant.Beneath.{Frame}
use Rattle.counting.specs.Flags.{alive, alive_up, up_in}
use Rattle.laws.specs.Rebuilding.Drop.{dropped_entries, drop-frame, drop_rows, drop-counted, drop-whole}
use Rattle.laws.specs.Rebuilding.Merge.{Merged, Near, merge_weight, merged-one, near_one, Every, merge-all, merges-some}
use Rattle.laws.specs.Rebuilding.Pairs.{NearPair, siblings-all, every-sorted, sorted-length, leaves_single, every_map}
use Rattle.laws.specs.Rebuilding.Cousins.{FarPair, cousins-far, cousins-some}
use Rattle.laws.specs.Rebuilding.Reinsert.{reinserted-whole}
use Rattle.laws.specs.Rebuilding.Restored.{refolded-whole}
use Rattle.laws.specs.Rebuilding.Refold.{counted-whole}
use Rattle.laws.specs.Running.{refolded_entries}
use Rattle.laws.specs.Rebuilding.Walk.{Stays, compacted_walk, rebuilt_walk}
use Rattle.head.specs.Counting.{with_merged}

up_flags : (l : List Summary) (c : ℕ) → c < length l → get_or (map (λ _. true) l) c false ≡ true
up_flags [] c h = absurd (not-suc-le-zero h)
up_flags (e ∷ l) zero h = refl
up_flags (e ∷ l) (suc c) h = up_flags l c (le_of_suc-le-suc h)

up_count : (l : List Summary) → count_up (map (λ _. true) l) ≡ length l
unfolding count_up
up_count [] = refl
up_count (e ∷ l) = ap suc (up_count l)

module _ {s : Settings} {t : Tree} {R : ℕ → ℕ} {total : ℕ} (g : Settled s t R total) (n : Counted t total) where
  pub begun-alive : (v : ℕ → ℕ) (c : ℕ) → c < length t.entries → alive (merge_start t).alive v c ≡ v c
  begun-alive v c h = alive_up (merge_start t).alive v c (up_flags t.entries c h)

  pub begun-merged : Merged s (length t.entries) total (merge_start t)
  unfolding merge_weight entry_weight entry_at
  begun-merged = record {
    len_e = refl;
    len_a = length-map t.entries (λ _. true);
    live = (λ c e. let l : c < length t.entries = subst (λ z. c < z) (length-map t.entries (λ _. true)) (up_in (merge_start t).alive c e) in
        (g.exact.at_entry c l, g.exact.some_entry c l));
    sums = sum_same (entry_weight t) (alive (merge_start t).alive (merge_weight s (merge_start t))) (length t.entries)
        (λ c l. begun-alive (merge_weight s (merge_start t)) c l) ∙ n;
    counted = (let q = up_count t.entries in omega arith);
  }

  inside : (k c : ℕ) → k < length t.nodes → (node_at t k).leaf ≡ true → 0 < occurs c (node_at t k).list → c < length t.entries
  inside k c l f o = (held_in_lem s (node_at t) (length t.nodes) t.root (length t.entries) R nil nil nil g.links k c l f o).0

  begun_near : Near s t (merge_start t)
  unfolding merge_weight entry_weight entry_at
  begun_near = record {
    leaves = (λ k l f. g.weighs.sums k l ∙ own-leaf (node_at t k) (entry_weight t) (node_weight t) f
        ∙ sym (over-same (alive (merge_start t).alive (merge_weight s (merge_start t))) (entry_weight t) (node_at t k).list
        (λ c o. begun-alive (merge_weight s (merge_start t)) c (inside k c l f o))));
    stay = (λ k l f. subst (λ z. 0 < z) (length_over (node_at t k).list
        ∙ sym (over-same (alive (merge_start t).alive (λ _. 1)) (λ _. 1) (node_at t k).list (λ c o. begun-alive (λ _. 1) c (inside k c l f o))))
        (g.links.filled k l));
  }

  -- two entries at least: a total
  some-total : 0 < length t.entries → 0 < total
  some-total h = let a = sum-at (entry_weight t) 0 (length t.entries) h in let b = g.exact.some_entry 0 h in let c = n in omega arith

  -- ---- after the merges m

  module _ {m : Merging} (d : Merged s (length t.entries) total m) (h : 0 < length t.entries) where
    abbrev u : Tree
    u = with_merges t m

    abbrev v : Tree
    v = dropped m.alive (with_merges t m)

    links_u : Links s (node_at u) (length u.nodes) u.root (length u.entries) R nil nil nil
    unfolding with_merges node_at on_running with_entries
    links_u = subst (λ k. Links s (node_at t) (length t.nodes) t.root k R nil nil nil) (sym d.len_e) g.links

    len_u : length m.alive ≡ length u.entries
    unfolding with_merges on_running with_entries
    len_u = d.len_a ∙ sym d.len_e

    live_u : (c : ℕ) → get_or m.alive c false ≡ true → IsExact (entry_at u c) × (1 ≤ entry_weight u c)
    unfolding with_merges entry_weight entry_at merge_weight on_running with_entries
    live_u c e = d.live c e

    sums_u : sum_to (alive m.alive (entry_weight u)) (length u.entries) ≡ total
    unfolding with_merges entry_weight entry_at merge_weight on_running with_entries
    sums_u = ap (λ k. sum_to (alive m.alive (λ c. row_count (get_or m.entries c blank))) k) d.len_e ∙ d.sums

    pub frame-v : Frame (node_at v) (length v.nodes) v.root (length v.entries) R
    frame-v = drop-frame u m.alive total links_u len_u live_u sums_u

    rows_v : (k : ℕ) → k < length v.entries → IsExact (entry_at v k) × (1 ≤ entry_weight v k)
    rows_v = drop_rows u m.alive total links_u len_u live_u sums_u

    counted-v : Counted v total
    counted-v = drop-counted u m.alive total links_u len_u live_u sums_u

    length-v : length v.entries ≡ count_up m.alive
    length-v = dropped_entries u m.alive total links_u len_u live_u sums_u

    pos_v : 0 < length v.entries
    pos_v = go (length v.entries) refl
      where
        go : (k : ℕ) → length v.entries ≡ k → 0 < k
        go zero e =
            let a : sum_to (entry_weight v) (length v.entries) ≡ 0 =
            ap (λ z. sum_to (entry_weight v) z) e ∙ (unfold sum_to in refl) in
            let b = counted-v in
            let c = some-total h in
            absurd (omega arith)
        go (suc k) e = omega arith

    -- reinserted
    abbrev pub w : Tree
    w = on_running (with_merged 0) (dropped m.alive (with_merges t m))

    pub frame-w : Frame (node_at w) (length w.nodes) w.root (length w.entries) R
    unfolding on_running node_at
    frame-w = frame-v

    pub rows_w : (k : ℕ) → k < length w.entries → IsExact (entry_at w k) × (1 ≤ entry_weight w k)
    unfolding on_running entry_at entry_weight
    rows_w = rows_v

    pub counted-w : Counted w total
    unfolding on_running entry_at entry_weight
    counted-w = counted-v

    pub length-w : length w.entries ≡ count_up m.alive
    unfolding on_running
    length-w = length-v

    pub pos_w : 0 < length w.entries
    unfolding on_running
    pos_w = pos_v

    pub reinserted-merged : Caps s → Whole s (reinserted s w) total × (length (reinserted s w).entries ≡ count_up m.alive)
    reinserted-merged c = let r = reinserted-whole w total c frame-w rows_w counted-w g.exact.small pos_w in (r.0, r.1 ∙ length-w)

    -- within leaves: not reinserted
    pub dropped-merged : Near s t m → Whole s v total × (length v.entries ≡ count_up m.alive)
    dropped-merged near = (drop-whole u m.alive total links_u len_u live_u sums_u st g.exact.small ex bd at_top inn lv, length-v)
      where
        ex : (k : ℕ) → k < length u.nodes → IsExact (node_at u k).summary
        ex = unfold with_merges node_at on_running with_entries in g.exact.at_node

        bd : (k : ℕ) → k < length u.nodes → node_weight u k ≤ total
        bd = unfold with_merges node_at node_weight on_running with_entries in g.weighs.bound

        at_top : node_weight u u.root ≡ total
        at_top = unfold with_merges node_at node_weight on_running with_entries in g.weighs.whole-tree

        inn₀ : (k : ℕ) → k < length t.nodes → (node_at t k).leaf ≡ false → node_weight t k ≡ over (node_weight t) (node_at t k).list
        inn₀ k l f = g.weighs.sums k l ∙ own-inner (node_at t k) (entry_weight t) (node_weight t) f

        inn : (k : ℕ) → k < length u.nodes → (node_at u k).leaf ≡ false → node_weight u k ≡ over (node_weight u) (node_at u k).list
        inn = unfold with_merges node_at node_weight on_running with_entries in inn₀

        lv : (k : ℕ) → k < length u.nodes → (node_at u k).leaf ≡ true → node_weight u k ≡ over (alive m.alive (entry_weight u)) (node_at u k).list
        lv = unfold with_merges node_at node_weight entry_weight entry_at merge_weight on_running with_entries in near.leaves

        st : (k : ℕ) → k < length u.nodes → (node_at u k).leaf ≡ true → 0 < over (alive m.alive (λ _. 1)) (node_at u k).list
        st = unfold with_merges node_at on_running with_entries in near.stay

  -- ---- the merges of a rebuild: one at least

  pub living_first : (p : Pair) → FarPair (length t.entries) p → both_alive p (merge_start t).alive ≡ true
  unfolding both_alive
  living_first p f = ap (λ b. b && get_or (merge_start t).alive p.two false) (up_flags t.entries p.one f.0) ∙ up_flags t.entries p.two f.1

  pub near_far : (p : Pair) → NearPair s t p → FarPair (length t.entries) p
  near_far p q = (inside q.0 p.one q.1 q.2 q.3, inside q.0 p.two q.1 q.2 q.4, q.5)

  -- the pairs name two entries each, siblings where they are used, and there is one at least
  pub pairs_far : Every (FarPair (length t.entries)) (pairs_of s t)
  pairs_far = go (siblings s t t.nodes) (siblings-all s t)
    where
      go : (ps : List Pair) → Every (NearPair s t) ps → Every (FarPair (length t.entries)) (pairs_from s t ps)
      go [] a = unfold pairs_from in cousins-far t g.links t.nodes
      go (p ∷ ps) a = unfold pairs_from in every_map (NearPair s t) (FarPair (length t.entries)) (p ∷ ps) near_far a

  pairs_near : across s t ≡ false → Every (NearPair s t) (pairs_of s t)
  unfolding across
  pairs_near e = go (siblings s t t.nodes) e (siblings-all s t)
    where
      go : (ps : List Pair) → none_near ps ≡ false → Every (NearPair s t) ps → Every (NearPair s t) (pairs_from s t ps)
      go [] e a = unfold none_near in absurd (true≢false e)
      go (p ∷ ps) e a = unfold pairs_from in a

  pairs_some : 2 ≤ length t.entries → 0 < length (pairs_of s t)
  pairs_some h = go (siblings s t t.nodes) refl
    where
      go : (ps : List Pair) → siblings s t t.nodes ≡ ps → 0 < length (pairs_from s t ps)
      go [] e = unfold pairs_from in cousins-some t g.links (leaves_single s t R nil nil nil g.links (ap (λ z. length z) e)) h
      go (p ∷ ps) e = unfold pairs_from in omega arith

  abbrev wanted : ℕ
  wanted = length t.entries - target s.max_leaves

  -- of any pairs of entries
  pub merges-far : (ps : List Pair) → Every (FarPair (length t.entries)) ps
      → Merged s (length t.entries) total (merge_all s any_two wanted (sorted ps) (merge_start t))
  merges-far ps far =
      merge-all s any_two (Merged s (length t.entries) total) (FarPair (length t.entries)) (λ p m q l x. merged-one p g.exact.small x q.2 l)
      wanted (sorted ps) (merge_start t) (every-sorted (FarPair (length t.entries)) ps far) begun-merged

  pub merges-merged : Merged s (length t.entries) total (merges_in s t)
  merges-merged = merges-far (pairs_of s t) pairs_far

  merges_near : across s t ≡ false → Near s t (merges_in s t)
  merges_near e =
      (merge-all s any_two (λ m. Merged s (length t.entries) total m × Near s t m) (NearPair s t) (λ p m q l x. (
        merged-one p g.exact.small x.0 q.5 l,
        near_one p g.exact.small x.0 q.5 l g.links x.1 q.0 q.1 q.2 q.3 q.4,
      ))
      wanted (sorted (pairs_of s t)) (merge_start t) (every-sorted (NearPair s t) (pairs_of s t) (pairs_near e)) (begun-merged, begun_near)).1

  pub merges-one : 1 ≤ s.max_leaves → s.max_leaves < length t.entries → 1 ≤ (merges_in s t).count
  merges-one one more =
      first (sorted (pairs_of s t)) (sorted-length (pairs_of s t)) (every-sorted (FarPair (length t.entries)) (pairs_of s t) pairs_far)
    where
      enough : 1 ≤ length t.entries - target s.max_leaves
      enough = unfold target in omega arith

      first : (qs : List Pair) → length qs ≡ length (pairs_of s t) → Every (FarPair (length t.entries)) qs → 1 ≤ (merge_all s any_two wanted qs (merge_start t)).count
      first [] e a = let p = pairs_some (omega arith) in absurd (omega arith)
      first (q ∷ qs) e a = merges-some s any_two wanted q qs (merge_start t) enough (unfold mergeable in living_first q a.0)

-- ---- the rebuild

-- the invariant and the total kept, one entry less at least
abbrev pub Fewer : Settings → ℕ → Tree → Tree → Type 0
Fewer s total t v = Whole s v total × (suc (length v.entries) ≤ length t.entries)

module _ (s : Settings) (t : Tree) (total : ℕ) (c : Caps s) (one : 1 ≤ s.max_leaves) (w : Whole s t total) (more : s.max_leaves < length t.entries) where
  pos : 0 < length t.entries
  pos = omega arith

  done : Merged s (length t.entries) total (merges_in s t)
  done = merges-merged w.1 w.2

  some-merged : 1 ≤ (merges_in s t).count
  some-merged = merges-one w.1 w.2 one more

  fewer : suc (count_up (merges_in s t).alive) ≤ length t.entries
  fewer = let q = done.counted in let k = some-merged in omega arith

  none : (merges_in s t).count ≡ 0 → Fewer s total t t
  none e = absurd (let k = some-merged in omega arith)

  thin : Stays s t → Fewer s total t (thinned t (merges_in s t))
  thin q = let r = dropped-merged w.1 w.2 done pos (merges_near w.1 w.2 q.near) in (r.0, (let k = r.1 in let f = fewer in omega arith))

  place : Fewer s total t (reinserted s (on_running (with_merged 0) (thinned t (merges_in s t))))
  place = let r = reinserted-merged w.1 w.2 done pos c in (r.0, (let k = r.1 in let f = fewer in omega arith))

  pub compacted-whole : Fewer s total t (compacted s t)
  compacted-whole = compacted_walk s t (λ _ v. Fewer s total t v) none thin place

  pub rebuilt-whole : Fewer s total t (rebuilt s t)
  rebuilt-whole =
      rebuilt_walk s t (λ _ v. Fewer s total t v) none thin place
      (λ _ v q. (refolded-whole s v total q.0, subst (λ es. suc (length es) ≤ length t.entries) (sym (refolded_entries s v)) q.1))
      (λ _ v q. (counted-whole s v total q.0, unfold counted on_running in q.1))

-- The account through merges, reinsertion and a rebuild.
use Rattle.std.specs.Prelude.{ℕ, zero, suc, ◌+◌, ◌-◌, ◌≤◌, ◌<◌, ◌≡◌, ◌⊎◌, ◌≢◌, Bool, true}
use Rattle.std.proofs.Math.Path.{refl, sym, ap}
use Rattle.std.proofs.Common.{◌∙◌, subst, inl, inr}
use Rattle.std.proofs.Math.Bool.{false}
use mathlib.Core.List.{List, [], ◌∷◌, ◌++◌, map, reverse, reverse_aux, append_assoc}
use native.Mathlib.Omega.{arith}
use Rattle.std.proofs.Math.ListN.{length, get_or, get_or-map}
use Rattle.binary64.specs.Whole.{most}
use Rattle.feature.specs.declared.Summary.{Summary}
use Rattle.feature.specs.Summaries.{blank}
use Rattle.head.specs.declared.Settings.{Settings}
use Rattle.rules.specs.Lists.{snoc, occurs}
use Rattle.rules.specs.Tree.{Tree, node_at, entry_at, on_running, with_entries, row_count}
use Rattle.rules.specs.Pairs.{sorted}
use Rattle.rules.specs.declared.Pair.{Pair}
use Rattle.rules.specs.Rebuild.{Merging, merge_one, both_alive, merge_all, target, renumber, dropped, pairs_of, merge_start, merges_in, thinned, Guard, any_two, mergeable}
use Rattle.rules.specs.Rebuild.{with_merges, counted, rebuilt}
use Rattle.rules.specs.Reinsert.{collected, replaced, replaced_all, cleared, reinserted}
use Rattle.rules.specs.Refold.{refolded}
use Rattle.counting.specs.Lists.{past_end}
use Rattle.laws.specs.Inserting.Grown.{Counted}
use Rattle.counting.specs.Count.{is, below, below_in, lt?}
use Rattle.counting.specs.Sums.{occurs-over, occurs-cons}
use Rattle.laws.specs.Invariant.Sound.{entry_weight, Settled}
use Rattle.laws.specs.Invariant.Beneath.{Frame}
use Rattle.counting.specs.Flags.{alive, alive_up, alive_down, is_sum, flag?}
use Rattle.laws.specs.Invariant.Collected.{collect_sum}
use Rattle.laws.specs.Rebuilding.Reinsert.{place_entries}
use Rattle.laws.specs.Rebuilding.Merge.{Merged, merge_weight, merged-one, Every, aw_a, aw-b, aw_o, up_a, up_b, entry_a, entry_o, able_alive}
use Rattle.laws.specs.Rebuilding.Pairs.{every-sorted}
use Rattle.laws.specs.Rebuilding.Cousins.{FarPair}
use Rattle.laws.specs.Rebuilding.Rebuilt.{begun-alive, frame-v, begun-merged, merges-one, merges-merged, pairs_far}
use Rattle.laws.specs.Moves.{merged_to, merged_into, reinserted_to, rebuilt_to}
use Rattle.promises.specs.Ownership.Moved.{moved_made}
use Rattle.promises.specs.Ownership.Carries.{Held, held_by, Carries, carries_then, carries_same, merge_carries, drop_carries}
use Rattle.laws.specs.Invariant.Owned.{weight_past, owner_in}
use Rattle.laws.specs.Running.{refolded_entries}
use Rattle.counting.specs.Places.{place_occurs, place_get, place_in}
use Rattle.head.specs.Counting.{with_merged}
use Rattle.laws.specs.Rebuilding.Walk.{rebuilt_walk, sent_to, thinned_to}

-- ---- all merges

-- the entries in the midst of merges: one that is merged away weighs nothing
abbrev held_in : Settings → Merging → Held
held_in s m = record { rows = alive m.alive (merge_weight s m); entry = (λ c. get_or m.entries c blank) }

module _ {s : Settings} {n total : ℕ} (p : Pair) {m : Merging} (b : total ≤ most) (g : Merged s n total m) (d : p.one ≢ p.two)
    (l : both_alive p m.alive ≡ true) where
  -- an entry that lives weighs something
  some_at : (c : ℕ) → get_or m.alive c false ≡ true → 1 ≤ alive m.alive (merge_weight s m) c
  some_at c e = let x = alive_up m.alive (merge_weight s m) c e in let y = (g.live c e).1 in omega arith

  -- one merge
  one_carries : Carries s (merged_to p) (held_in s m) (held_in s (merge_one s p m))
  one_carries =
      merge_carries s p d (held_in s m) (held_in s (merge_one s p m)) (aw_a p b g d l) (aw-b p b g d l) (aw_o p b g d l)
      (some_at p.one (up_a p b g d l)) (some_at p.two (up_b p b g d l)) (entry_a p b g d l) (entry_o p b g d l)

-- the merges move each row with the entry that it is in
pub merges_carry : (s : Settings) (may : Guard) (n total : ℕ) → total ≤ most → (k : ℕ) (ps : List Pair) (m : Merging) → Merged s n total m → Every (FarPair n) ps
    → Carries s (λ c. merged_into s may k ps m c) (held_in s m) (held_in s (merge_all s may k ps m))
unfolding merge_all merged_into
merges_carry s may n total b zero ps m g f = carries_same s (held_in s m) (held_in s m) (λ c. refl) (λ c. refl)
merges_carry s may n total b (suc k) [] m g f = carries_same s (held_in s m) (held_in s m) (λ c. refl) (λ c. refl)
merges_carry s may n total b (suc k) (p ∷ ps) m g f =
    go (mergeable may p m) refl (λ e. merges_carry s may n total b k ps (merge_one s p m) (merged-one p b g f.0.2 (able_alive may p m e)) f.1)
    (merges_carry s may n total b (suc k) ps m g f.1)
  where
    go : (l : Bool) → mergeable may p m ≡ l
        → (mergeable may p m ≡ true → Carries s (λ c. merged_into s may k ps (merge_one s p m) c) (held_in s (merge_one s p m))
        (held_in s (merge_all s may k ps (merge_one s p m))))
        → Carries s (λ c. merged_into s may (suc k) ps m c) (held_in s m) (held_in s (merge_all s may (suc k) ps m))
        → Carries s (λ c. elim l as (λ _. ℕ) [ true ↦ merged_into s may k ps (merge_one s p m) (merged_to p c) | false ↦ merged_into s may (suc k) ps m c ])
        (held_in s m) (held_in s (elim l as (λ _. Merging) [ true ↦ merge_all s may k ps (merge_one s p m) | false ↦ merge_all s may (suc k) ps m ]))
    go true e x y =
        carries_then s (merged_to p) (λ c. merged_into s may k ps (merge_one s p m) c) (held_in s m) (held_in s (merge_one s p m))
        (held_in s (merge_all s may k ps (merge_one s p m))) (one_carries p b g f.0.2 (able_alive may p m e)) (x e)
    go false e x y = y

-- ---- reinsertion

all_entries : (s : Settings) (es : List Summary) (t : Tree) → (replaced_all s es t).entries ≡ t.entries ++ es
unfolding replaced_all snoc
all_entries s [] t = sym (append_nil' t.entries)
  where
    append_nil' : (l : List Summary) → l ++ [] ≡ l
    append_nil' [] = refl
    append_nil' (e ∷ l) = ap (λ z. e ∷ z) (append_nil' l)
all_entries s (e ∷ es) t = all_entries s es (replaced s e t) ∙ ap (λ l. l ++ es) (place_entries s e t) ∙ append_assoc t.entries (e ∷ []) es

map_back : {A : Type 0} (f : ℕ → A) (l r : List ℕ) → map f (reverse_aux l r) ≡ reverse_aux (map f l) (map f r)
map_back f [] r = refl
map_back f (c ∷ l) r = map_back f l (c ∷ r)

occurs_back : (c : ℕ) (l r : List ℕ) → occurs c (reverse_aux l r) ≡ occurs c l + occurs c r
occurs_back c [] r = let z : occurs c [] ≡ 0 = unfold occurs in refl in omega arith
occurs_back c (x ∷ l) r = let h = occurs_back c l (x ∷ r) in let p = occurs-cons c x l in let q = occurs-cons c x r in omega arith

module _ (s : Settings) (t : Tree) {R : ℕ → ℕ} (g : Frame (node_at t) (length t.nodes) t.root (length t.entries) R) where
  abbrev order : List ℕ
  order = reverse (collected t (length t.nodes) (t.root ∷ []))

  entries_are : (reinserted s t).entries ≡ map (entry_at t) (reverse (collected t (length t.nodes) (t.root ∷ [])))
  unfolding reinserted cleared
  entries_are =
      all_entries s (reverse (map (entry_at t) (collected t (length t.nodes) (t.root ∷ [])))) (cleared t)
      ∙ sym (map_back (entry_at t) (collected t (length t.nodes) (t.root ∷ [])) [])

  weight_at_lem : (k : ℕ) → entry_weight (reinserted s t) k ≡ entry_weight t (get_or (reverse (collected t (length t.nodes) (t.root ∷ []))) k (length t.entries))
  unfolding entry_weight
  weight_at_lem k =
      begin
      ∙ ap (λ d. row_count (get_or (map (entry_at t) (reverse (collected t (length t.nodes) (t.root ∷ [])))) k d)) (sym end)
      ∙ ap (λ m. row_count m) (get_or-map (entry_at t) (reverse (collected t (length t.nodes) (t.root ∷ []))) k (length t.entries))
    where
      begin : entry_weight (reinserted s t) k ≡ row_count (get_or (map (entry_at t) (reverse (collected t (length t.nodes) (t.root ∷ [])))) k blank)
      begin = unfold entry_weight entry_at in ap (λ l. row_count (get_or l k blank)) entries_are

      end : entry_at t (length t.entries) ≡ blank
      end = unfold entry_at in past_end t.entries blank (length t.entries) (omega arith)

  once : (c : ℕ) → occurs c (reverse (collected t (length t.nodes) (t.root ∷ []))) ≡ below c (length t.entries)
  once c =
      let a = occurs_back c (collected t (length t.nodes) (t.root ∷ [])) [] in
      let z : occurs c [] ≡ 0 = unfold occurs in refl in
      let b = occurs-over c (collected t (length t.nodes) (t.root ∷ [])) in
      let d = collect_sum s t g (is c) in
      let e = is_sum c (length t.entries) in
      omega arith

  -- the entry itself goes by the same number
  pub reinserted-at : (c : ℕ) → c < length t.entries → entry_at (reinserted s t) (reinserted_to s t c) ≡ entry_at t c
  unfolding reinserted_to
  reinserted-at c h =
      begin ∙ get_or-map (entry_at t) order (place_in order c) (length t.entries)
      ∙ ap (λ k. entry_at t k) (place_get order c (length t.entries) (let a = once c in let b = below_in c (length t.entries) h in omega arith))
    where
      end : entry_at t (length t.entries) ≡ blank
      end = unfold entry_at in past_end t.entries blank (length t.entries) (omega arith)

      begin : entry_at (reinserted s t) (place_in order c) ≡ get_or (map (entry_at t) order) (place_in order c) (entry_at t (length t.entries))
      begin =
          subst (λ d. entry_at (reinserted s t) (place_in order c) ≡ get_or (map (entry_at t) order) (place_in order c) d) (sym end)
          (unfold entry_at in ap (λ l. get_or l (place_in order c) blank) entries_are)

  reinserted_rows : (a : List ℕ) → ((c : ℕ) → entry_weight t c ≡ occurs c a) → (k : ℕ) → entry_weight (reinserted s t) k
      ≡ occurs k (map (λ c. reinserted_to s t c) a)
  unfolding reinserted_to
  reinserted_rows a h k =
      weight_at_lem k ∙ h (get_or (reverse (collected t (length t.nodes) (t.root ∷ []))) k (length t.entries))
      ∙ sym (place_occurs (reverse (collected t (length t.nodes) (t.root ∷ []))) (length t.entries) k a
      (λ i o. let q = owner_in t a h i o in (once i ∙ below_in i (length t.entries) q, (λ e. clash i q e))))
    where
      clash : (i : ℕ) → i < length t.entries → i ≡ length t.entries → ⊥
      clash i q e = omega arith

  -- two entries go to two numbers
  reinserted_apart : (c d : ℕ) → c < length t.entries → d < length t.entries → reinserted_to s t c ≡ reinserted_to s t d → c ≡ d
  unfolding reinserted_to
  reinserted_apart c d h k e = sym (there c h) ∙ ap (λ i. get_or order i (length t.entries)) e ∙ there d k
    where
      there : (c : ℕ) → c < length t.entries → get_or order (place_in order c) (length t.entries) ≡ c
      there c h = place_get order c (length t.entries) (let a = once c in let b = below_in c (length t.entries) h in omega arith)

  -- reinsertion
  pub reinsert_carries : Carries s (λ c. reinserted_to s t c) (held_by t) (held_by (reinserted s t))
  reinsert_carries a h = (
    reinserted_rows a h,
    (λ ys m. moved_made (λ c. reinserted_to s t c) (entry_at t) (entry_at (reinserted s t)) a (λ c o. reinserted-at c (owner_in t a h c o))
        (λ c d o q e. reinserted_apart c d (owner_in t a h c o) (owner_in t a h d q) e) m),
  )

-- ---- the rebuild

module _ {s : Settings} {t : Tree} {R : ℕ → ℕ} {total : ℕ} (g : Settled s t R total) (n : Counted t total) where
  begin_carries : Carries s (λ c. c) (held_by t) (held_in s (merge_start t))
  unfolding merge_weight entry_weight entry_at
  begin_carries = carries_same s (held_by t) (held_in s (merge_start t)) (λ c. go c (lt? c (length t.entries))) (λ c. refl)
    where
      go : (c : ℕ) → (c < length t.entries) ⊎ (length t.entries ≤ c) → alive (merge_start t).alive (merge_weight s (merge_start t)) c ≡ entry_weight t c
      go c (inl h) = begun-alive g n (merge_weight s (merge_start t)) c h
      go c (inr h) = off (flag? (merge_start t).alive c)
        where
          off : (get_or (merge_start t).alive c false ≡ true) ⊎ (get_or (merge_start t).alive c false ≡ false)
              → alive (merge_start t).alive (merge_weight s (merge_start t)) c ≡ entry_weight t c
          off (inl e) = alive_up (merge_start t).alive (merge_weight s (merge_start t)) c e
          off (inr e) = alive_down (merge_start t).alive (merge_weight s (merge_start t)) c e ∙ sym (weight_past t c h)

  module _ {m : Merging} (d : Merged s (length t.entries) total m) (h : 0 < length t.entries) where
    drop_moves : Carries s (renumber m.alive) (held_in s m) (held_by (dropped m.alive (with_merges t m)))
    drop_moves a k =
        let (u, v) = drop_carries s (with_merges t m) m.alive len a (λ c. same c ∙ k c) in
        (u, (λ ys x. v ys (unfold with_merges entry_at on_running with_entries in x)))
      where
        len : length m.alive ≡ length (with_merges t m).entries
        len = unfold with_merges on_running with_entries in (d.len_a ∙ sym d.len_e)

        same : (c : ℕ) → alive m.alive (entry_weight (with_merges t m)) c ≡ alive m.alive (merge_weight s m) c
        same c = unfold with_merges entry_weight entry_at merge_weight alive on_running with_entries in refl

    again_moves : Carries s (λ c. reinserted_to s (on_running (with_merged 0) (dropped m.alive (with_merges t m))) c) (held_by (dropped m.alive (with_merges t m)))
        (held_by (reinserted s (on_running (with_merged 0) (dropped m.alive (with_merges t m)))))
    again_moves a k =
        let (u, v) = reinsert_carries s (on_running (with_merged 0) (dropped m.alive (with_merges t m))) {R = R} (unfold with_merged node_at on_running in frame-v g n d h) a
        (λ c. same c ∙ k c) in
        (u, (λ ys x. v ys (unfold with_merged entry_at on_running in x)))
      where
        same : (c : ℕ) → entry_weight (on_running (with_merged 0) (dropped m.alive (with_merges t m))) c ≡ entry_weight (dropped m.alive (with_merges t m)) c
        same c = unfold with_merged entry_weight entry_at on_running in refl

  -- the merges, entry by entry
  pub merges_move : Carries s (sent_to s t) (held_by t) (held_in s (merges_in s t))
  merges_move =
      carries_then s (λ c. c) (sent_to s t) (held_by t) (held_in s (merge_start t)) (held_in s (merges_in s t)) begin_carries
      (merges_carry s any_two (length t.entries) total g.exact.small (length t.entries - target s.max_leaves) (sorted (pairs_of s t)) (merge_start t)
      (begun-merged g n) (every-sorted (FarPair (length t.entries)) (pairs_of s t) (pairs_far g n)))

  pub rebuild_moves : 1 ≤ s.max_leaves → s.max_leaves < length t.entries → Carries s (λ c. rebuilt_to s t c) (held_by t) (held_by (rebuilt s t))
  rebuild_moves one more =
      rebuilt_walk s t (λ f v. Carries s f (held_by t) (held_by v)) (λ e. absurd (let k = merges-one g n one more in omega arith)) (λ _. thin)
      (carries_then s (thinned_to s t) (λ c. reinserted_to s (on_running (with_merged 0) u) c) (held_by t) (held_by u)
      (held_by (reinserted s (on_running (with_merged 0) u))) thin (again_moves d (omega arith)))
      (λ f v p. carries_then s f (λ c. c) (held_by t) (held_by v) (held_by (refolded s v)) p (folds v))
      (λ f v p. carries_then s f (λ c. c) (held_by t) (held_by v) (held_by (counted v)) p (counts v))
    where
      u : Tree
      u = thinned t (merges_in s t)

      d : Merged s (length t.entries) total (merges_in s t)
      d = merges-merged g n

      thin : Carries s (thinned_to s t) (held_by t) (held_by u)
      thin =
          carries_then s (sent_to s t) (renumber (merges_in s t).alive) (held_by t) (held_in s (merges_in s t)) (held_by u) merges_move
          (drop_moves d (omega arith))

      folds : (v : Tree) → Carries s (λ c. c) (held_by v) (held_by (refolded s v))
      folds v = carries_same s (held_by v) (held_by (refolded s v)) (λ c. unfold entry_weight in ap (λ e. row_count e) (same c)) same
        where
          same : (c : ℕ) → entry_at (refolded s v) c ≡ entry_at v c
          same c = unfold entry_at in ap (λ l. get_or l c blank) (refolded_entries s v)

      counts : (v : Tree) → Carries s (λ c. c) (held_by v) (held_by (counted v))
      counts v = carries_same s (held_by v) (held_by (counted v)) (λ c. unfold entry_weight entry_at counted on_running in refl)
          (λ c. unfold entry_at counted on_running in refl)

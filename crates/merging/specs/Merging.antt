-- Merges of the pairs in scratch: what the slices and the count so far say of them, one pair's, and all.
use Prim.Native.Nat.{ℕ, zero, suc, ◌+◌, ◌-◌, ◌*◌, ◌≤◌, ◌<◌}
use Rattle.std.specs.Prelude.{◌≡◌, Bool, ◌&&◌, Float, length, get_or, set, replicate}
use Rattle.std.proofs.Math.Path.{refl, sym, ap, ap₂}
use Rattle.std.proofs.Common.{◌∙◌, drop_of_length-le}
use Rattle.std.proofs.Math.Bool.{true, false, cond}
use mathlib.Core.List.{List, [], ◌∷◌, map}
use Rattle.std.proofs.Math.Numerals.{add-one}
use native.Mathlib.Omega.{arith}
use Rattle.std.proofs.Math.ListN.{drop}
use Rattle.std.proofs.Math.Seq.{drop-cons}
use Rattle.binary64.specs.Operators.{f0}
use Rattle.feature.specs.Summaries.{blank}
use Rattle.feature.specs.declared.Summary.{Summary}
use Rattle.head.specs.declared.Settings.{Settings}
use Rattle.head.specs.declared.Counters.{Counters}
use Rattle.head.specs.Counting.{count_running}
use Rattle.rules.specs.declared.Pair.{Pair}
use Rattle.rules.specs.Lists.{change_at}
use Rattle.rules.specs.ListLaws.{table_at}
use Rattle.rules.specs.Tree.{Tree, merge, abs_between, entry_at, with_entries, on_running}
use Rattle.rules.specs.Rebuild.{Merging, widened, merge_one, both_alive, merge_all, with_merges, merges_on, any_two, mergeable}
use Rattle.rules.specs.Slices.{tree_of}
use Rattle.laws.specs.Rebuilding.Merge.{Every}
use Rattle.arena.specs.Trees.{AnyLinks, FloatsTo, on_entry, count_entries_lem}
use Rattle.scratch.specs.Stored.{pair_at, pairs_in, length_pairs}
use Rattle.scratch.specs.Flags.{alive_at, alive_in, alive-is, alive-all, flags_set}
use Rattle.scratch.specs.Flags.{PairBelow, PairsBelow, pairs_below, SamePairs, same_none, same_flag, same_more}
use Rattle.merging.specs.declared.merges.Merges.{Merges}
use Rattle.arena.specs.Writes.{tree_running}

-- ---- where the merges stand

-- no merges yet
unfoldable pub no_merges : Merges
no_merges = record { count = 0; widest = f0 }

-- the merges so far, by the slices and their count
unfoldable pub merging_in : Settings → Counters → List Float → List ℕ → Merges → Merging
merging_in s n fs ns m =
    record { entries = (tree_of s n fs []).entries; alive = alive_in ns n.entries; count = m.count; widest = m.widest }

-- before the first merge
unfoldable pub start_of : Tree → List Bool → Merging
start_of t alive = record { entries = t.entries; alive = alive; count = 0; widest = f0 }

-- one pair, merged if both of its entries are there
unfoldable pub merge_pair : Settings → Pair → Merging → Merging
merge_pair s p m = cond (both_alive p m.alive) (merge_one s p m) m

-- nothing but entries of the tree changed from fs to gs
unfoldable pub OnlyEntries : Settings → Counters → List Float → List Float → Type 0
OnlyEntries s n fs gs = FloatsTo s n fs n gs (with_entries (tree_of s n gs []).entries)

pub only_by : (s : Settings) (n : Counters) (fs gs : List Float) (f : List Summary → List Summary)
    → FloatsTo s n fs n gs (λ t. with_entries (f t.entries) t) → OnlyEntries s n fs gs
unfolding OnlyEntries with_entries tree_of
only_by s n fs gs f to = λ ls. to ls ∙ ap (λ es. with_entries es (tree_of s n fs ls)) (sym (ap (λ (t : Tree). t.entries) (to [])))

pub only_more : (s : Settings) (n : Counters) (fs gs hs : List Float) → OnlyEntries s n fs gs → OnlyEntries s n gs hs → OnlyEntries s n fs hs
unfolding OnlyEntries with_entries
only_more s n fs gs hs g h = λ ls. h ls ∙ ap (with_entries (tree_of s n hs []).entries) (g ls)

-- r is the widest gap, with the one between entries one and two
unfoldable pub GapWidened : Settings → Counters → ℕ → ℕ → Float → List Float → Float → Type 0
GapWidened s n one two widest fs r = AnyLinks s n fs (λ t. r ≡ widened widest (abs_between s (entry_at t one) (entry_at t two)))

-- entry two is merged into entry one
unfoldable pub TwoMerged : Settings → Counters → ℕ → ℕ → List Float → List Float → Type 0
TwoMerged s n one two fs gs = FloatsTo s n fs n gs (λ t. on_entry (λ x. merge s x (entry_at t two)) one t)

-- pair k was looked at: from the count m and the slices fs and ns to r, gs and ms
pub record PairMerged (s : Settings) (n : Counters) (k : ℕ) (m : Merges) (fs : List Float) (ns : List ℕ) (r : Merges) (gs : List Float) (ms : List ℕ)
    : Type 0 where
  pub state : (cs : List Float) → merging_in s n gs ms r ≡ merge_pair s (pair_at cs ns k) (merging_in s n fs ns m)
  pub few : r.count ≤ m.count + 1
  pub tree : OnlyEntries s n fs gs
  pub pairs : SamePairs ns ms

-- the tree t became u, the flags are bs and the count r as the merges m have it
pub record Ended (t u : Tree) (bs : List Bool) (r : Merges) (m : Merging) : Type 0 where
  pub count : r.count ≡ m.count
  pub widest : r.widest ≡ m.widest
  pub alive : bs ≡ m.alive
  pub tree : u ≡ with_entries m.entries t

-- the first pairs were merged by the rules, whatever the costs and the links
unfoldable pub PairsMerged : Settings → Counters → ℕ → ℕ → List Float → List ℕ → Merges → List Float → List ℕ → Type 0
PairsMerged s n pairs most fs ns r gs ms =
    (cs : List Float) (ls : List ℕ) → Ended (tree_of s n fs ls) (tree_of s n gs ls) (alive_in ms n.entries) r
    (merge_all s any_two most (pairs_in cs ns pairs) (start_of (tree_of s n fs ls) (alive_in ns n.entries)))

-- ---- one pair

module _ (s : Settings) (n : Counters) (k : ℕ) (m : Merges) (fs : List Float) (ns : List ℕ) (b : PairBelow n.entries ns k) where
  both_is : (cs : List Float) → both_alive (pair_at cs ns k) (merging_in s n fs ns m).alive
      ≡ alive_at ns (get_or ns (3 * k) 0) && alive_at ns (get_or ns (3 * k + 1) 0)
  unfolding both_alive merging_in pair_at PairBelow
  both_is cs = ap₂ (λ x y. x && y) (alive-is ns n.entries (get_or ns (3 * k) 0) b.0) (alive-is ns n.entries (get_or ns (3 * k + 1) 0) b.1)

  pub pair_skipped : alive_at ns (get_or ns (3 * k) 0) && alive_at ns (get_or ns (3 * k + 1) 0) ≡ false → PairMerged s n k m fs ns m fs ns
  unfolding merge_pair OnlyEntries tree_of with_entries
  pair_skipped e =
      record {
        state = λ cs. sym (ap (λ x. cond x (merge_one s (pair_at cs ns k) (merging_in s n fs ns m)) (merging_in s n fs ns m)) (both_is cs ∙ e));
        few = omega arith;
        tree = λ ls. refl;
        pairs = same_none ns;
      }

  module _ (gs : List Float) (w : Float) (room : 3 * get_or ns (3 * k + 1) 0 + 2 < length ns)
      (gap : GapWidened s n (get_or ns (3 * k) 0) (get_or ns (3 * k + 1) 0) m.widest fs w)
      (to : TwoMerged s n (get_or ns (3 * k) 0) (get_or ns (3 * k + 1) 0) fs gs) where
    done : (cs : List Float) → merging_in s n gs (set ns (3 * get_or ns (3 * k + 1) 0 + 2) 0) (record { count = m.count + 1; widest = w })
        ≡ merge_one s (pair_at cs ns k) (merging_in s n fs ns m)
    unfolding merging_in merge_one pair_at on_entry with_entries entry_at PairBelow GapWidened TwoMerged
    done cs =
        rw (
          ap (λ (t : Tree). t.entries) (to []),
          flags_set ns (get_or ns (3 * k + 1) 0) 0 n.entries b.1 room,
          gap [],
          add-one m.count,
        )

    only : OnlyEntries s n fs gs
    unfolding on_entry entry_at TwoMerged
    only = only_by s n fs gs (λ es. change_at (λ x. merge s x (get_or es (get_or ns (3 * k + 1) 0) blank)) (get_or ns (3 * k) 0) es) to

    pub pair-merged : alive_at ns (get_or ns (3 * k) 0) && alive_at ns (get_or ns (3 * k + 1) 0) ≡ true
        → PairMerged s n k m fs ns (record { count = m.count + 1; widest = w }) gs (set ns (3 * get_or ns (3 * k + 1) 0 + 2) 0)
    unfolding merge_pair
    pair-merged e =
        record {
          state = λ cs.
              done cs ∙ sym (ap (λ x. cond x (merge_one s (pair_at cs ns k) (merging_in s n fs ns m)) (merging_in s n fs ns m)) (both_is cs ∙ e));
          few = omega arith;
          tree = only;
          pairs = same_flag ns ns (get_or ns (3 * k + 1) 0) 0 (same_none ns);
        }

-- ---- all pairs

module _ (s : Settings) where
  -- no more merges are wanted, and no pairs are left
  merge_full : (k : ℕ) (ps : List Pair) (m : Merging) → k ≡ 0 → merge_all s any_two k ps m ≡ m
  unfolding merge_all mergeable
  merge_full k ps m e = ap (λ j. merge_all s any_two j ps m) e

  merge_none : (k : ℕ) (m : Merging) → merge_all s any_two k [] m ≡ m
  unfolding merge_all mergeable
  merge_none zero m = refl
  merge_none (suc k) m = refl

  -- the next pair
  merge-next : (most : ℕ) (p : Pair) (ps : List Pair) (m : Merging) → m.count < most
      → merge_all s any_two (most - (merge_pair s p m).count) ps (merge_pair s p m) ≡ merge_all s any_two (most - m.count) (p ∷ ps) m
  unfolding merge_all mergeable merge_pair merge_one
  merge-next most p ps m h =
      let k : most - m.count ≡ suc (most - suc m.count) = omega arith in
      go (both_alive p m.alive) k ∙ sym (ap (λ j. merge_all s any_two j (p ∷ ps) m) k)
    where
      go : (b : Bool) → most - m.count ≡ suc (most - suc m.count)
          → merge_all s any_two (most - (cond b (merge_one s p m) m).count) ps (cond b (merge_one s p m) m)
          ≡ elim b [ true ↦ merge_all s any_two (most - suc m.count) ps (merge_one s p m) | false ↦ merge_all s any_two (suc (most - suc m.count)) ps m ]
      go true k = refl
      go false k = ap (λ j. merge_all s any_two j ps m) k

-- k pairs are looked at: what is left to merge from here gives the whole
pub record Midway (s : Settings) (n : Counters) (pairs most : ℕ) (fs : List Float) (ns : List ℕ) (k : ℕ) (m : Merges) (gs : List Float) (ms : List ℕ)
    : Type 0 where
  pub few : m.count ≤ k
  pub within : m.count ≤ most
  pub same : SamePairs ns ms
  pub left : (cs : List Float) → merge_all s any_two (most - m.count) (drop k (pairs_in cs ns pairs)) (merging_in s n gs ms m)
      ≡ merge_all s any_two most (pairs_in cs ns pairs) (merging_in s n fs ns no_merges)
  pub tree : OnlyEntries s n fs gs

module _ (s : Settings) (n : Counters) (pairs most : ℕ) (fs : List Float) (ns : List ℕ) where
  pub midway_start : Midway s n pairs most fs ns 0 no_merges fs ns
  unfolding no_merges OnlyEntries tree_of with_entries
  midway_start =
      record {
        few = omega arith;
        within = omega arith;
        same = same_none ns;
        left = λ cs. ap (λ j. merge_all s any_two j (pairs_in cs ns pairs) (merging_in s n fs ns no_merges)) (omega arith);
        tree = λ ls. refl;
      }

  module _ (k : ℕ) (m : Merges) (gs : List Float) (ms : List ℕ) (g : Midway s n pairs most fs ns k m gs ms) where
    here : (cs : List Float) → k < pairs → drop k (pairs_in cs ns pairs) ≡ pair_at cs ms k ∷ drop (k + 1) (pairs_in cs ns pairs)
    unfolding pairs_in SamePairs
    here cs h =
        drop-cons (pairs_in cs ns pairs) k (pair_at cs ms k) (rw (length_pairs cs ns pairs) h)
        ∙ ap₂ (λ p j. p ∷ drop j (pairs_in cs ns pairs)) (table_at (pair_at cs ns) pairs k (pair_at cs ms k) h ∙ sym (g.same cs k)) (sym (add-one k))

    -- one pair more
    pub midway_turn : (r : Merges) (hs : List Float) (os : List ℕ) → k < pairs → ¬ (m.count ≡ most)
        → PairMerged s n k m gs ms r hs os → Midway s n pairs most fs ns (k + 1) r hs os
    unfolding merging_in
    midway_turn r hs os h d p =
        record {
          few = omega (arith, g.few, p.few);
          within = omega (arith, g.within, p.few);
          same = same_more ns ms os g.same p.pairs;
          left = λ cs.
              ap (λ z. merge_all s any_two (most - z.count) (drop (k + 1) (pairs_in cs ns pairs)) z) (p.state cs)
              ∙ merge-next s most (pair_at cs ms k) (drop (k + 1) (pairs_in cs ns pairs)) (merging_in s n gs ms m) (omega (arith, g.within))
              ∙ ap (λ ps. merge_all s any_two (most - m.count) ps (merging_in s n gs ms m)) (sym (here cs h)) ∙ g.left cs;
          tree = only_more s n fs gs hs g.tree p.tree;
        }

    -- the merges are done
    done_all : ((cs : List Float) → merging_in s n gs ms m ≡ merge_all s any_two most (pairs_in cs ns pairs) (merging_in s n fs ns no_merges))
        → PairsMerged s n pairs most fs ns m gs ms
    unfolding PairsMerged merging_in start_of no_merges OnlyEntries tree_of
    done_all e = λ cs ls.
        record {
          count = ap (λ (z : Merging). z.count) (e cs);
          widest = ap (λ (z : Merging). z.widest) (e cs);
          alive = ap (λ (z : Merging). z.alive) (e cs);
          tree = g.tree ls ∙ ap (λ (z : Merging). with_entries z.entries (tree_of s n fs ls)) (e cs);
        }

    pub midway_full : m.count ≡ most → PairsMerged s n pairs most fs ns m gs ms
    midway_full e = done_all (λ cs. sym (merge_full s (most - m.count) (drop k (pairs_in cs ns pairs)) (merging_in s n gs ms m) (omega arith)) ∙ g.left cs)

    pub midway_end : pairs ≤ k → PairsMerged s n pairs most fs ns m gs ms
    midway_end h = done_all (λ cs.
        let none : drop k (pairs_in cs ns pairs) ≡ [] = drop_of_length-le (pairs_in cs ns pairs) {i = k} (rw (length_pairs cs ns pairs) h) in
        sym (ap (λ ps. merge_all s any_two (most - m.count) ps (merging_in s n gs ms m)) none ∙ merge_none s (most - m.count) (merging_in s n gs ms m)) ∙ g.left cs)

-- ---- what a rebuild has

-- all flags up, as the rules begin
pub start_all : (s : Settings) (n : Counters) (fs : List Float) (ls : List ℕ) → start_of (tree_of s n fs ls) (replicate n.entries true)
    ≡ start_of (tree_of s n fs ls) (map (λ _. true) (tree_of s n fs ls).entries)
start_all s n fs ls =
    ap (start_of (tree_of s n fs ls)) (ap (λ k. replicate k true) (sym (count_entries_lem s n fs ls)) ∙ alive-all (tree_of s n fs ls).entries)

-- with the counters that the merges give
pub merges-counted : (s : Settings) (n : Counters) (fs gs : List Float) (ls : List ℕ) (bs : List Bool) (r : Merges) (m : Merging)
    → Ended (tree_of s n fs ls) (tree_of s n gs ls) bs r m
    → tree_of s (count_running (merges_on r.count r.widest) n) gs ls ≡ with_merges (tree_of s n fs ls) m
unfolding with_merges
merges-counted s n fs gs ls bs r m e =
    tree_running s n (merges_on r.count r.widest) gs ls ∙ rw (e.count, e.widest) (ap (on_running (merges_on m.count m.widest)) e.tree)

-- what every pair is, each pair in scratch is
pub every-below : (P : Pair → Type 0) (e : ℕ) → ((p : Pair) → P p → (p.one < e) × (p.two < e)) → (cs : List Float) (ns : List ℕ) (n : ℕ)
    → Every P (pairs_in cs ns n) → PairsBelow e ns n
every-below P e below cs ns n h =
    pairs_below e cs ns n (λ k l. below (pair_at cs ns k) (rw (there k l) at (at (pairs_in cs ns n) k h (rw (length_pairs cs ns n) l))))
  where
    at : (ps : List Pair) (k : ℕ) → Every P ps → k < length ps → P (get_or ps k (pair_at cs ns 0))
    at [] k h l = absurd (omega arith)
    at (p ∷ ps) zero h l = h.0
    at (p ∷ ps) (suc k) h l = at ps k h.1 (omega arith)

    there : (k : ℕ) → k < n → get_or (pairs_in cs ns n) k (pair_at cs ns 0) ≡ pair_at cs ns k
    there k l = unfold pairs_in in table_at (pair_at cs ns) n k (pair_at cs ns 0) l

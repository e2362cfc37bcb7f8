-- What the first two conditions give to the code after them, and that the floats of a lent slice are of binary64.
use Prim.Native.Nat.{ℕ, zero, suc, ◌+◌, ◌*◌, ◌≤◌, ◌<◌}
use Rattle.std.specs.Prelude.{◌≡◌, true, ◌&&◌, ltb, Float, length, get_or, take, drop}
use Rattle.std.proofs.Math.Path.{refl}
use Rattle.std.proofs.Common.{sym, subst, get_or-drop}
use mathlib.Core.List.{List, [], ◌∷◌}
use native.Mathlib.Omega.{arith}
use Rattle.std.proofs.Math.Dec.{T, leb, leb→le, ltb→lt}
use Rattle.std.specs.Float.{nan}
use Rattle.std.specs.Float.Ieee.{binary64, fits}
use Rattle.std.specs.Float.Ieee.Fits.{and_l, and_r}
use Rattle.head.specs.declared.Settings.{Settings}
use Rattle.head.specs.declared.Counters.{Counters}
use Rattle.head.specs.Limits.{Sized}
use Rattle.head.specs.Sizes.{node_cap, entry_cap, slot_width, floats_needed, links_needed}
use Rattle.rules.specs.Tree.{node_at}
use Rattle.rules.specs.Check.{sized, orphan, rooted, Binary64}
use Rattle.rules.specs.Slices.{stretch, summary_in, slot_at, tree_of}
use Rattle.arena.specs.Numbered.{summary_at}
use Rattle.arena.specs.Trees.{Floats, Links, summary-at, entry_at_lem, count_nodes_lem, count_entries_lem}
use Rattle.lists.specs.Lent.{holds}

module _ (s : Settings) (n : Counters) (fs : List Float) (ls : List ℕ) where
  -- ---- condition 1: the counts are within their caps

  counts_in : sized s (tree_of s n fs ls) ≡ true → (n.nodes ≤ node_cap s) × (n.entries ≤ s.max_leaves)
  unfolding sized
  counts_in h =
      let t = tree_of s n fs ls in
      let a = holds h in
      let b = and_l (leb 1 (length t.nodes) && leb (length t.nodes) (node_cap s)) (leb (length t.entries) s.max_leaves) a in
      let c = leb→le (length t.nodes) (node_cap s) (and_r (leb 1 (length t.nodes)) (leb (length t.nodes) (node_cap s)) b) in
      let d = leb→le (length t.entries) s.max_leaves
      (and_r (leb 1 (length t.nodes) && leb (length t.nodes) (node_cap s)) (leb (length t.entries) s.max_leaves) a) in
      let e = count_nodes_lem s n fs ls in
      let f = count_entries_lem s n fs ls in
      (omega arith, omega arith)

  pub sized_links : Sized s → links_needed s ≤ length ls → sized s (tree_of s n fs ls) ≡ true → Links s n (length ls)
  sized_links z r h = record { sized = z; nodes_in = (counts_in h).0; room = r }

  pub sized-floats : Sized s → floats_needed s ≤ length fs → sized s (tree_of s n fs ls) ≡ true → Floats s n (length fs)
  unfolding entry_cap
  sized-floats z r h = let c = counts_in h in record { sized = z; nodes_in = c.0; entries_in = omega arith; room = r }

  pub sized-few : Sized s → sized s (tree_of s n fs ls) ≡ true → n.entries ≤ 256
  sized-few z h = let a = (counts_in h).1 in let b = z.most-few in omega arith

  -- ---- condition 2: the root is a node

  pub rooted_in : rooted (tree_of s n fs ls) ≡ true → n.root < n.nodes
  unfolding rooted
  rooted_in h =
      let t = tree_of s n fs ls in
      let a = ltb→lt t.root (length t.nodes) (and_l (ltb t.root (length t.nodes)) (orphan (node_at t t.root).parent) (holds h)) in
      let b : t.root ≡ n.root = unfold tree_of in refl in
      let c = count_nodes_lem s n fs ls in
      omega arith

  -- ---- what a lent slice holds

  first_fits : (w : ℕ) (l : List Float) (d : Float) → T (fits binary64 (get_or l 0 d)) → T (fits binary64 (get_or (take w l) 0 nan))
  unfolding fits
  first_fits zero l d h = tt
  first_fits (suc w) [] d h = tt
  first_fits (suc w) (x ∷ l) d h = h

  module _ (d : Float) (all : (i : ℕ) → T (fits binary64 (get_or fs i d))) where
    slot_fits : (i : ℕ) → T (fits binary64 (summary_at s fs i).weight)
    unfolding summary_at summary_in slot_at stretch
    slot_fits i =
        first_fits (slot_width s) (drop (i * slot_width s) fs) d
        (subst (λ x. T (fits binary64 x)) (sym (get_or-drop (i * slot_width s) fs 0 d)) (all (i * slot_width s + 0)))

    pub lent_binary64 : Binary64 (tree_of s n fs ls)
    lent_binary64 =
        record {
          nodes_fit = λ k h. rw (summary-at s n fs ls k (rw (count_nodes_lem s n fs ls) at h)) (slot_fits k);
          entries_fit = λ k h. rw (entry_at_lem s n fs ls k (rw (count_entries_lem s n fs ls) at h)) (slot_fits (node_cap s + k));
        }

-- A tree that passes the check, with an entry, is one that the invariant holds of.
use Rattle.std.specs.Float.Ieee.Bits.{is_true}
use Rattle.std.specs.Prelude.{ℕ, ◌≤◌, ◌<◌, ◌≡◌, ◌⊎◌, true, false, ◌&&◌, [], ◌∷◌, map, T, eqb, length, Ok}
use Rattle.std.proofs.Math.Path.{sym}
use Rattle.std.proofs.Common.{◌∙◌, subst, inl, inr, arith, ltb→lt, eqb→eq}
use Rattle.std.proofs.Math.Dec.{leb, leb→le}
use Rattle.std.specs.Float.Ieee.{eq}
use Rattle.std.specs.Float.Ieee.Fits.{and_l, and_r}
use Rattle.binary64.specs.Counts.{Counts, is_count}
use Rattle.binary64.specs.CountLaws.{counted as count-laws}
use Rattle.binary64.specs.Whole.{whole, most}
use Rattle.binary64.specs.Order.{eq_is}
use Rattle.feature.specs.Summaries.{blank}
use Rattle.head.specs.declared.Settings.{Settings}
use Rattle.head.specs.Sizes.{node_cap}
use Rattle.rules.specs.Lists.{up_from, every}
use Rattle.rules.specs.Tree.{Tree, node_at, entry_at, row_count}
use Rattle.rules.specs.Reinsert.{collected}
use Rattle.rules.specs.Check.{sized, lone_root, total_of, weighs, weighed, checked, merged_below, Binary64}
use Rattle.laws.specs.Invariant.Weights.{exact_count, exact_is, IsExact}
use Rattle.counting.specs.Sums.{over-same, sum_to}
use Rattle.laws.specs.Invariant.Links.{Links, nil, leaf?}
use Rattle.laws.specs.Invariant.Beneath.{Frame, frame-of, kid_below}
use Rattle.laws.specs.Invariant.Weigh.{own, own-leaf, own-inner}
use Rattle.laws.specs.Invariant.Sound.{entry_weight, node_weight, Settled}
use Rattle.laws.specs.Inserting.Grown.{Counted, Whole}
use Rattle.laws.specs.Check.Passing.{entries_sum}
use Rattle.laws.specs.Check.Beneath.{rows_beneath, rows_leaf, rows_inner, rows_le, rows_root, rows_some, beneath-is}
use Rattle.laws.specs.Check.Accept.{ranks, accepted_links}
use Rattle.counting.specs.Tests.{every-at, up_at}
use Rattle.rules.specs.CheckLaws.{passing_of}
use Rattle.laws.specs.Running.{Below}

module _ {s : Settings} {t : Tree} {R : ℕ → ℕ} (g : Links s (node_at t) (length t.nodes) t.root (length t.entries) R nil nil nil) (lent : Binary64 t)
    (h7 : T (weighed t)) where
  all_count : T (every (λ e. is_count e.weight) t.entries)
  unfolding weighed
  all_count =
      and_l (every (λ e. is_count e.weight) t.entries) (leb (total_of t.entries) most)
      (and_l (every (λ e. is_count e.weight) t.entries && leb (total_of t.entries) most) (every (weighs t) (up_from (length t.nodes) 0)) h7)

  small : total_of t.entries ≤ most
  unfolding weighed
  small =
      leb→le (total_of t.entries) most (and_r (every (λ e. is_count e.weight) t.entries) (leb (total_of t.entries) most)
      (and_l (every (λ e. is_count e.weight) t.entries && leb (total_of t.entries) most) (every (weighs t) (up_from (length t.nodes) 0)) h7))

  all_weigh : T (every (weighs t) (up_from (length t.nodes) 0))
  unfolding weighed
  all_weigh = and_r (every (λ e. is_count e.weight) t.entries && leb (total_of t.entries) most) (every (weighs t) (up_from (length t.nodes) 0)) h7

  entry_counts : (c : ℕ) → c < length t.entries → T (is_count (entry_at t c).weight)
  unfolding entry_at
  entry_counts c l = every-at (λ e. is_count e.weight) blank t.entries all_count c l

  entry_count : (c : ℕ) → c < length t.entries → Counts (entry_at t c).weight (row_count (entry_at t c))
  unfolding row_count
  entry_count c l = count-laws (entry_at t c).weight (lent.entries_fit c l) (is_true (is_count (entry_at t c).weight) (entry_counts c l))

  entry_is : (c : ℕ) → c < length t.entries → IsExact (entry_at t c)
  entry_is c l = let q = entry_count c l in (q.is, q.few)

  entry_some : (c : ℕ) → c < length t.entries → 1 ≤ entry_weight t c
  unfolding entry_weight
  entry_some c l = (entry_count c l).some

  counted : Counted t (total_of t.entries)
  unfolding entry_weight entry_at
  counted = sym (entries_sum blank t.entries)

  total-is : sum_to (entry_weight t) (length t.entries) ≡ total_of t.entries
  total-is = counted

  rows_few : (k : ℕ) → k < length t.nodes → rows_beneath t g k ≤ total_of t.entries
  rows_few k l = let a = rows_le t g k l in let b = total-is in omega arith

  node_weight_lem : (k : ℕ) → k < length t.nodes → (node_at t k).summary.weight ≡ whole (rows_beneath t g k)
  node_weight_lem k l =
      eq_is (rows_beneath t g k) (node_at t k).summary.weight (rows_some t g entry_some (R k) k l (omega arith)) (let a =
      rows_few k l in let b = small in omega arith) (lent.nodes_fit k l)
      (subst (λ z. T (eq (whole z) (node_at t k).summary.weight)) (beneath-is t g k l) test)
    where
      test : T (eq (whole (total_of (map (entry_at t) (collected t (length t.nodes) (k ∷ []))))) (node_at t k).summary.weight)
      test = unfold weighs in up_at (weighs t) (length t.nodes) 0 all_weigh k (omega arith) (omega arith)

  W-is : (k : ℕ) → k < length t.nodes → node_weight t k ≡ rows_beneath t g k
  unfolding node_weight
  W-is k l = exact_count (node_at t k).summary (rows_beneath t g k) (node_weight_lem k l, (let a = rows_few k l in let b = small in omega arith))

  pub node_some : (k : ℕ) → k < length t.nodes → 1 ≤ node_weight t k
  node_some k l = subst (λ z. 1 ≤ z) (sym (W-is k l)) (rows_some t g entry_some (R k) k l (omega arith))

  pub taken : Settled s t R (total_of t.entries)
  taken = record {
    links = g;
    exact = record {
      at_node = (λ k l. exact_is (node_at t k).summary (rows_beneath t g k) (node_weight_lem k l, (let a = rows_few k l in let b = small in omega arith)));
      at_entry = entry_is;
      some_entry = entry_some;
      small = small;
    };
    weighs = record {
      sums = (λ k l. sums k l (leaf? (node_at t k)));
      bound = (λ k l. subst (λ z. z ≤ total_of t.entries) (sym (W-is k l)) (rows_few k l));
      whole-tree = W-is t.root g.root_in ∙ rows_root t g ∙ total-is;
    };
  }
    where
      fr : Frame (node_at t) (length t.nodes) t.root (length t.entries) R
      fr = frame-of s (node_at t) (length t.nodes) t.root (length t.entries) R nil nil g

      sums : (k : ℕ) → k < length t.nodes → ((node_at t k).leaf ≡ true) ⊎ ((node_at t k).leaf ≡ false) → node_weight t k ≡ own (node_at t k) (entry_weight t)
          (node_weight t)
      sums k l (inl f) = W-is k l ∙ rows_leaf t g k l f ∙ sym (own-leaf (node_at t k) (entry_weight t) (node_weight t) f)
      sums k l (inr f) =
          W-is k l ∙ rows_inner t g k l f
          ∙ sym (own-inner (node_at t k) (entry_weight t) (node_weight t) f ∙ over-same (node_weight t) (rows_beneath t g) (node_at t k).list
          (λ c o. W-is c (kid_below fr k c l f o)))

-- ---- all eight

not-lone : (t : Tree) → 0 < length t.entries → T (lone_root t) → ⊥
unfolding lone_root
not-lone t h q = let e = eqb→eq (length t.entries) 0 (and_r (eqb (length t.nodes) 1) (eqb (length t.entries) 0) q) in omega arith

-- a tree with entries that passes satisfies the invariant, with the sum of its entries' weights as total
pub checked-whole : (s : Settings) (t : Tree) → Binary64 t → 0 < length t.entries → checked s t ≡ Ok tt → Whole s t (total_of t.entries) ×
    (length t.entries ≤ s.max_leaves) × Below s t.running
unfolding sized merged_below
checked-whole s t lent here h =
    let p = passing_of s t h in
    let there : T (lone_root t) → ⊥ = not-lone t here in
    let links = accepted_links s t p.root p.lists p.links p.full there p.even in (
      (
        ranks s t p.root p.lists p.links p.full there,
        taken links lent p.weights,
        counted links lent p.weights,
      ),
      leb→le (length t.entries) s.max_leaves
          (and_r (leb 1 (length t.nodes) && leb (length t.nodes) (node_cap s)) (leb (length t.entries) s.max_leaves) p.counts),
      ltb→lt t.running.merged s.max_leaves p.merged,
    )

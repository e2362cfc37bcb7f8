-- The account's words: owners, entries' weights, nodes' weights and the count of rows.
use Rattle.std.specs.Prelude.{ℕ, suc, ◌+◌, ◌≤◌, ◌<◌, ◌≡◌, Bool, true, false, not, cond, T, ltb, get_or}
use Rattle.std.proofs.Math.Path.{refl, sym, subst}
use Rattle.std.proofs.Common.{ap, ◌∙◌, inl, inr, ltb→lt, nltb→le, eq-eqb}
use mathlib.Core.List.{List, [], ◌∷◌}
use native.Mathlib.Omega.{arith}
use Rattle.std.proofs.Math.ListN.{length}
use Rattle.std.specs.Float.Ieee.{eq}
use Rattle.binary64.specs.Whole.{whole, most}
use Rattle.head.specs.declared.Settings.{Settings}
use Rattle.rules.specs.Tree.{Tree, node_at, entry_at, row_count}
use Rattle.rules.specs.Lists.{occurs}
use Rattle.rules.specs.Reinsert.{collected}
use Rattle.counting.specs.Count.{is}
use Rattle.counting.specs.Sums.{is_sym, over, over-same, occurs-over, occurs-cons, sum_to, over_plus, over_zero}
use Rattle.laws.specs.Invariant.Sound.{entry_weight, node_weight}
use Rattle.laws.specs.Inserting.Grown.{Whole}
use Rattle.laws.specs.Rebuilding.Reinsert.{entries_total}
use Rattle.laws.specs.Check.Beneath.{beneath-weighs, beneath_once}
use Rattle.promises.specs.Demand.{rows_among, Account, NodesExact}
use Rattle.laws.specs.Invariant.Owned.{Owned, owner_in, owned_sum}
use Rattle.counting.specs.Places.{get_occurs}
use Rattle.laws.specs.Inserting.First.{Holding, Zero, empty_tree, zero-eq}
use Rattle.binary64.specs.Order.{eq-whole}
use Rattle.feature.specs.declared.Summary.{Summary}
use Rattle.head.specs.declared.Running.{Running}

pub rows_over : (l a : List ℕ) → ((c : ℕ) → occurs c l ≤ 1) → rows_among l a ≡ over (λ c. occurs c l) a
unfolding rows_among over
rows_over l [] h = refl
rows_over l (c ∷ a) h = go (ltb 0 (occurs c l)) (ltb→lt 0 (occurs c l)) (nltb→le 0 (occurs c l)) (rows_over l a h) (h c)
  where
    go : (b : Bool) → (T b → 0 < occurs c l) → (T (not b) → occurs c l ≤ 0) → rows_among l a ≡ over (λ c. occurs c l) a → occurs c l ≤ 1
        → cond b (suc (rows_among l a)) (rows_among l a) ≡ occurs c l + over (λ c. occurs c l) a
    go true f g r q = let z = f tt in omega arith
    go false f g r q = let z = g tt in omega arith

pub over_swap : (l a : List ℕ) → over (λ c. occurs c a) l ≡ over (λ c. occurs c l) a
over_swap [] a =
    let z : over (λ c. occurs c a) [] ≡ 0 = unfold over in refl in
    z ∙ sym (over-same (λ c. occurs c []) (λ _. 0) a (λ c o. unfold occurs in refl) ∙ over_zero a)
over_swap (x ∷ l) a =
    let z : over (λ c. occurs c a) (x ∷ l) ≡ occurs x a + over (λ c. occurs c a) l = unfold over in refl in
    let h = over_swap l a in
    let p : over (λ c. occurs c (x ∷ l)) a ≡ over (λ c. is c x + occurs c l) a =
    over-same (λ c. occurs c (x ∷ l)) (λ c. is c x + occurs c l) a (λ c o. occurs-cons c x l) in
    let q = over_plus (λ c. is c x) (λ c. occurs c l) a in
    let r : over (λ c. is c x) a ≡ over (is x) a = over-same (λ c. is c x) (is x) a (λ c o. is_sym c x) in
    let e = occurs-over x a in
    omega arith

module _ (s : Settings) (t : Tree) (total : ℕ) (a : List ℕ) (w : Whole s t total) (o : Owned t a) where
  -- the rows beneath each node are what it weighs
  pub rows_beneath_lem : (k : ℕ) → k < length t.nodes → node_weight t k ≡ rows_among (collected t (length t.nodes) (k ∷ [])) a
  rows_beneath_lem k h =
      beneath-weighs w.1 k h ∙ entries_total t (collected t (length t.nodes) (k ∷ []))
      ∙ over-same (entry_weight t) (λ c. occurs c a) (collected t (length t.nodes) (k ∷ [])) (λ c q. o c)
      ∙ over_swap (collected t (length t.nodes) (k ∷ [])) a
      ∙ sym (rows_over (collected t (length t.nodes) (k ∷ [])) a (λ c. beneath_once t w.1.links k c h))

  -- its weight is their count, to the bit
  pub nodes_exact : NodesExact t a
  nodes_exact k h = (w.1.exact.at_node k h).0 ∙ ap (λ n. whole n) (sym read ∙ rows_beneath_lem k h)
    where
      read : node_weight t k ≡ row_count (node_at t k).summary
      read = unfold node_weight in refl

  pub owned_account : Account t a
  owned_account = record {
    owners = (λ i h. owner_in t a o (get_or a i 0) (get_occurs a i 0 h));
    entries = (λ c h. (w.1.exact.at_entry c h).0 ∙ ap (λ n. whole n) (sym (read c) ∙ o c));
    nodes = (λ k h. let few : rows_among (collected t (length t.nodes) (k ∷ [])) a ≤ most = subst (λ n. n ≤ most) (rows_beneath_lem k h) (small k h) in
        ap (λ x. eq (whole (rows_among (collected t (length t.nodes) (k ∷ [])) a)) x) (nodes_exact k h)
        ∙ eq-whole (rows_among (collected t (length t.nodes) (k ∷ [])) a) (rows_among (collected t (length t.nodes) (k ∷ [])) a) few few
        ∙ eq-eqb (rows_among (collected t (length t.nodes) (k ∷ [])) a) (rows_among (collected t (length t.nodes) (k ∷ [])) a) refl);
  }
    where
      read : (c : ℕ) → entry_weight t c ≡ row_count (entry_at t c)
      read c = unfold entry_weight in refl

      small : (k : ℕ) → k < length t.nodes → node_weight t k ≤ most
      small k h = unfold node_weight in (w.1.exact.at_node k h).1

-- of any tree at rest; an empty one may be lent with the root's weight −0.0
pub holding_account : (s : Settings) (t : Tree) (total : ℕ) (a : List ℕ) → Holding s t total → Owned t a → Account t a
holding_account s t total a (inr w) o = owned_account s t total a w o
holding_account s t total a (inl b) o =
    subst (λ c. Account t c) (none a (owned_sum t a o ∙ ap (λ u. sum_to (entry_weight t) (length u.entries)) b.0.is ∙ (unfold sum_to in refl)))
    (subst (λ u. Account u []) (sym b.0.is) (bare b.0.summary t.running b.0.zero))
  where
    none : (c : List ℕ) → length c ≡ 0 → [] ≡ c
    none [] e = refl
    none (x ∷ c) e = absurd (omega arith)

    bare : (z : Summary) (r : Running) → Zero z.weight → Account (empty_tree z r) []
    bare z r e = unfold node_at rows_among in record {
      owners = (λ i q. absurd (omega arith));
      entries = (λ c q. absurd (omega arith));
      nodes = (λ k q. subst (λ j. eq (whole 0) (node_at (empty_tree z r) j).summary.weight ≡ true) (let y : 0 ≡ k = omega arith in y) (zero-eq z.weight e));
    }

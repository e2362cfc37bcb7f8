-- A weight pushed along the parents keeps each node the sum of its list.
use Rattle.std.specs.Prelude.{ℕ, zero, suc, ◌+◌, ◌≤◌, ◌<◌, ◌≡◌, ◌⊎◌, ◌≢◌, true, false, List, Option, None, Some}
use Rattle.std.proofs.lemmas.Option.{none-some, same_Some}
use Rattle.std.proofs.Math.Path.{refl, ap, subst}
use Rattle.std.proofs.Common.{sym, ◌∙◌, inl, inr, arith}
use Rattle.std.proofs.Math.ListN.{length}
use Rattle.binary64.specs.Whole.{most}
use Rattle.feature.specs.declared.Summary.{Summary}
use Rattle.head.specs.declared.Settings.{Settings}
use Rattle.rules.specs.Lists.{change_at, occurs}
use Rattle.rules.specs.Tree.{Node, Tree, node_at, entry_at, blank_node, with_nodes, summed, row_count}
use Rattle.rules.specs.Descent.{climbed, along_path}
use Rattle.laws.specs.Invariant.Weights.{IsExact, Exactly, exact_count, exact_is}
use Rattle.counting.specs.Count.{same?}
use Rattle.counting.specs.Sums.{over, over-same, over_once}
use Rattle.laws.specs.Invariant.Links.{Links, leaf?, nil, parent_lists, no_parent_lem}
use Rattle.counting.specs.Lists.{change-at, change_off, change_keeps, length-change}
use Rattle.laws.specs.Invariant.Weigh.{own, own-leaf, own-inner}
use Rattle.laws.specs.Invariant.Sound.{entry_weight, node_weight, Exact, Settled}
use Rattle.laws.specs.Invariant.Height.{height}
use Rattle.laws.specs.Invariant.Same.{links_same}
use Rattle.counting.specs.Only.{only, only_at, only_off}

-- ---- one climb step, and all

-- F adds d to a summary's weight
abbrev pub Adds : (Summary → Summary) → ℕ → Type 0
Adds F d = (a : Summary) (v : ℕ) → Exactly a v → v + d ≤ most → Exactly (F a) (v + d)

-- m and all above it wait for d; leaf l has d more than its list. total counts d already
pub record Waiting (s : Settings) (t : Tree) (R : ℕ → ℕ) (d m l total : ℕ) : Type 0 where
  pub links : Links s (node_at t) (length t.nodes) t.root (length t.entries) R nil nil nil
  pub exact : Exact t total
  pub here : m < length t.nodes
  pub sums : (k : ℕ) → k < length t.nodes → node_weight t k + only d m k ≡ own (node_at t k) (entry_weight t) (node_weight t) + only d l k
  pub low : (k : ℕ) → k < length t.nodes → R m ≤ R k → node_weight t k + d ≤ total
  pub bound : (k : ℕ) → k < length t.nodes → node_weight t k ≤ total
  pub at_top : node_weight t t.root + d ≡ total

pub record Pushed (s : Settings) (t : Tree) (R : ℕ → ℕ) (d l total : ℕ) : Type 0 where
  pub links : Links s (node_at t) (length t.nodes) t.root (length t.entries) R nil nil nil
  pub exact : Exact t total
  pub sums : (k : ℕ) → k < length t.nodes → node_weight t k ≡ own (node_at t k) (entry_weight t) (node_weight t) + only d l k
  pub bound : (k : ℕ) → k < length t.nodes → node_weight t k ≤ total
  pub at_top : node_weight t t.root ≡ total

module _ {s : Settings} (F : Summary → Summary) {t : Tree} {R : ℕ → ℕ} {d m l total : ℕ} (adds : Adds F d) (w : Waiting s t R d m l total) where
  abbrev pub raised : Tree
  raised = with_nodes (change_at (summed F) m t.nodes) t

  len : length raised.nodes ≡ length t.nodes
  unfolding with_nodes
  len = length-change (summed F) m t.nodes

  kids-same : (k : ℕ) → (node_at raised k).list ≡ (node_at t k).list
  unfolding with_nodes node_at summed
  kids-same k = change_keeps (λ n. n.list) (summed F) m k blank_node t.nodes (λ n. refl)

  leaf-same : (k : ℕ) → (node_at raised k).leaf ≡ (node_at t k).leaf
  unfolding with_nodes node_at summed
  leaf-same k = change_keeps (λ n. n.leaf) (summed F) m k blank_node t.nodes (λ n. refl)

  parent_same : (k : ℕ) → (node_at raised k).parent ≡ (node_at t k).parent
  unfolding with_nodes node_at summed
  parent_same k = change_keeps (λ n. n.parent) (summed F) m k blank_node t.nodes (λ n. refl)

  pub raised_links : Links s (node_at raised) (length raised.nodes) raised.root (length raised.entries) R nil nil nil
  unfolding with_nodes
  raised_links =
      subst (λ n. Links s (node_at raised) n t.root (length t.entries) R nil nil nil) (sym len)
      (links_same s (node_at t) (node_at raised) (length t.nodes) t.root (length t.entries) R nil nil nil kids-same leaf-same parent_same w.links)

  sum-m : (node_at raised m).summary ≡ F (node_at t m).summary
  unfolding with_nodes node_at summed
  sum-m = ap (λ n. n.summary) (change-at (summed F) m blank_node t.nodes w.here)

  sum_o : (k : ℕ) → k ≢ m → (node_at raised k).summary ≡ (node_at t k).summary
  unfolding with_nodes node_at summed
  sum_o k e = ap (λ n. n.summary) (change_off (summed F) m k blank_node t.nodes e)

  exact_m : Exactly (F (node_at t m).summary) (node_weight t m + d)
  unfolding node_weight
  exact_m =
      adds (node_at t m).summary (node_weight t m) (w.exact.at_node m w.here) (let a = w.low m w.here (omega arith) in let b = w.exact.small in
      omega arith)

  wt_m : node_weight raised m ≡ node_weight t m + d
  unfolding node_weight
  wt_m = ap (λ e. row_count e) sum-m ∙ exact_count (F (node_at t m).summary) (node_weight t m + d) exact_m

  wt_o : (k : ℕ) → k ≢ m → node_weight raised k ≡ node_weight t k
  unfolding node_weight
  wt_o k e = ap (λ e. row_count e) (sum_o k e)

  raised_exact : Exact raised total
  unfolding with_nodes entry_weight entry_at
  raised_exact =
      record {
        at_node = (λ k h. go k (subst (λ n. k < n) len h) (same? k m));
        at_entry = w.exact.at_entry;
        some_entry = w.exact.some_entry;
        small = w.exact.small;
      }
    where
      go : (k : ℕ) → k < length t.nodes → (k ≡ m) ⊎ (k ≢ m) → IsExact (node_at raised k).summary
      go k h (inl e) =
          subst (λ z. IsExact (node_at raised z).summary) (sym e)
          (subst (λ q. IsExact q) (sym sum-m) (exact_is (F (node_at t m).summary) (node_weight t m + d) exact_m))
      go k h (inr e) = subst (λ q. IsExact q) (sym (sum_o k e)) (w.exact.at_node k h)

  -- lists with m once weigh d more, lists without it the same
  own-with : (k : ℕ) → k < length t.nodes → (node_at t k).leaf ≡ false → occurs m (node_at t k).list ≡ 1
      → own (node_at raised k) (entry_weight t) (node_weight raised) ≡ own (node_at t k) (entry_weight t) (node_weight t) + d
  own-with k h f o =
      let a : own (node_at raised k) (entry_weight t) (node_weight raised) ≡ over (node_weight raised) (node_at t k).list =
      own-inner (node_at raised k) (entry_weight t) (node_weight raised) (leaf-same k ∙ f) ∙ ap (λ z. over (node_weight raised) z) (kids-same k) in
      let b : own (node_at t k) (entry_weight t) (node_weight t) ≡ over (node_weight t) (node_at t k).list =
      own-inner (node_at t k) (entry_weight t) (node_weight t) f in
      let c = over_once (node_weight raised) (node_weight t) m (node_at t k).list o (λ x q e. wt_o x e) in
      let e = wt_m in
      omega arith

  own_without : (k : ℕ) → ((node_at t k).leaf ≡ true) ⊎ (occurs m (node_at t k).list ≡ 0) → own (node_at raised k) (entry_weight t) (node_weight raised)
      ≡ own (node_at t k) (entry_weight t) (node_weight t)
  own_without k (inl f) =
      own-leaf (node_at raised k) (entry_weight t) (node_weight raised) (leaf-same k ∙ f) ∙ ap (λ z. over (entry_weight t) z) (kids-same k)
      ∙ sym (own-leaf (node_at t k) (entry_weight t) (node_weight t) f)
  own_without k (inr o) = go (leaf? (node_at t k))
    where
      go : ((node_at t k).leaf ≡ true) ⊎ ((node_at t k).leaf ≡ false) → own (node_at raised k) (entry_weight t) (node_weight raised)
          ≡ own (node_at t k) (entry_weight t) (node_weight t)
      go (inl f) =
          own-leaf (node_at raised k) (entry_weight t) (node_weight raised) (leaf-same k ∙ f) ∙ ap (λ z. over (entry_weight t) z) (kids-same k)
          ∙ sym (own-leaf (node_at t k) (entry_weight t) (node_weight t) f)
      go (inr f) =
          own-inner (node_at raised k) (entry_weight t) (node_weight raised) (leaf-same k ∙ f) ∙ ap (λ z. over (node_weight raised) z) (kids-same k)
          ∙ over-same (node_weight raised) (node_weight t) (node_at t k).list (λ x q. wt_o x (λ e. off (subst (λ z. 0 < occurs z (node_at t k).list) e q)))
          ∙ sym (own-inner (node_at t k) (entry_weight t) (node_weight t) f)
        where
          off : 0 < occurs m (node_at t k).list → ⊥
          off q = omega arith

  -- who does not name m: a leaf, a node whose list lacks it
  apart : (k : ℕ) → k < length t.nodes → ((node_at t m).parent ≡ Some k → ⊥) → ((node_at t k).leaf ≡ true) ⊎ (occurs m (node_at t k).list ≡ 0)
  apart k h e = go (leaf? (node_at t k)) (same? (occurs m (node_at t k).list) 0)
    where
      go : ((node_at t k).leaf ≡ true) ⊎ ((node_at t k).leaf ≡ false) → (occurs m (node_at t k).list ≡ 0) ⊎ (occurs m (node_at t k).list ≢ 0)
          → ((node_at t k).leaf ≡ true) ⊎ (occurs m (node_at t k).list ≡ 0)
      go (inl f) q = inl f
      go (inr f) (inl q) = inr q
      go (inr f) (inr q) = absurd (e (w.links.kid k m h f (omega arith)).0)

  sums_apart : (k : ℕ) → k < length t.nodes → ((node_at t m).parent ≡ Some k → ⊥)
      → node_weight raised k ≡ own (node_at raised k) (entry_weight t) (node_weight raised) + only d l k
  sums_apart k h e = go (same? k m)
    where
      go : (k ≡ m) ⊎ (k ≢ m) → node_weight raised k ≡ own (node_at raised k) (entry_weight t) (node_weight raised) + only d l k
      go (inl q) =
          let a : node_weight raised k ≡ node_weight t k + d = ap (λ z. node_weight raised z) q ∙ wt_m ∙ ap (λ z. node_weight t z + d) (sym q) in
          let b = own_without k (apart k h e) in
          let c = w.sums k h in
          let f = only_at d m k q in
          omega arith
      go (inr q) =
          let a : node_weight raised k ≡ node_weight t k = wt_o k q in
          let b = own_without k (apart k h e) in
          let c = w.sums k h in
          let f = only_off d m k q in
          omega arith

  bound' : (k : ℕ) → k < length t.nodes → node_weight raised k ≤ total
  bound' k h = go (same? k m)
    where
      go : (k ≡ m) ⊎ (k ≢ m) → node_weight raised k ≤ total
      go (inl q) =
          let a : node_weight raised k ≡ node_weight t m + d = ap (λ z. node_weight raised z) q ∙ wt_m in
          let b = w.low m w.here (omega arith) in
          omega arith
      go (inr q) = let a = wt_o k q in let b = w.bound k h in omega arith

  -- no parent: done
  pub last_step : (node_at t m).parent ≡ None → Pushed s raised R d l total
  unfolding with_nodes entry_weight entry_at
  last_step e = record {
    links = raised_links;
    exact = raised_exact;
    sums = (λ k h. sums_apart k (subst (λ n. k < n) len h) (λ q. none-some k (sym e ∙ q)));
    bound = (λ k h. bound' k (subst (λ n. k < n) len h));
    at_top = subst (λ z. node_weight raised z ≡ total) (no_parent_lem w.links m w.here refl e)
        (wt_m ∙ ap (λ z. node_weight t z + d) (no_parent_lem w.links m w.here refl e) ∙ w.at_top);
  }

  -- a parent: it waits next
  module _ (p : ℕ) (e : (node_at t m).parent ≡ Some p) where
    up : (p < length t.nodes) × ((node_at t p).leaf ≡ false) × (occurs m (node_at t p).list ≡ 1) × (R p ≡ suc (R m))
    up = parent_lists w.links m p w.here refl e

    pub up_rank : R p ≡ suc (R m)
    up_rank = up.3

    p≢m : p ≢ m
    p≢m q = clash (ap R q) up.3
      where
        clash : R p ≡ R m → R p ≡ suc (R m) → ⊥
        clash x y = omega arith

    root≢m : t.root ≢ m
    root≢m q = none-some p (sym w.links.root_top ∙ ap (λ z. (node_at t z).parent) q ∙ e)

    sums'' : (k : ℕ) → k < length t.nodes → node_weight raised k + only d p k ≡ own (node_at raised k) (entry_weight t) (node_weight raised) + only d l k
    sums'' k h = go (same? k p)
      where
        go : (k ≡ p) ⊎ (k ≢ p) → node_weight raised k + only d p k ≡ own (node_at raised k) (entry_weight t) (node_weight raised) + only d l k
        go (inr q) =
            let a = only_off d p k q in
            let b = sums_apart k h (λ z. q (sym (same_Some p k (sym e ∙ z)))) in
            omega arith
        go (inl q) =
            let a = only_at d p k q in
            let b : node_weight raised k ≡ node_weight t k = wt_o k (λ z. p≢m (sym q ∙ z)) in
            let c = own-with k h (ap (λ z. (node_at t z).leaf) q ∙ up.1) (ap (λ z. occurs m (node_at t z).list) q ∙ up.2) in
            let f = w.sums k h in
            let g = only_off d m k (λ z. p≢m (sym q ∙ z)) in
            omega arith

    low'' : (k : ℕ) → k < length t.nodes → R p ≤ R k → node_weight raised k + d ≤ total
    low'' k h q =
        let r = up.3 in
        let a : node_weight raised k ≡ node_weight t k = wt_o k (λ z. clash (ap R z) up.3 q) in
        let b = w.low k h (omega arith) in
        omega arith
      where
        clash : R k ≡ R m → R p ≡ suc (R m) → R p ≤ R k → ⊥
        clash x y z = omega arith

    pub next-step : Waiting s raised R d p l total
    unfolding with_nodes entry_weight entry_at
    next-step = record {
      links = raised_links;
      exact = raised_exact;
      here = subst (λ n. p < n) (sym len) up.0;
      sums = (λ k h. sums'' k (subst (λ n. k < n) len h));
      low = (λ k h q. low'' k (subst (λ n. k < n) len h) q);
      bound = (λ k h. bound' k (subst (λ n. k < n) len h));
      at_top = ap (λ z. z + d) (wt_o t.root root≢m) ∙ w.at_top;
    }

climb_none : (F : Summary → Summary) (k : ℕ) (ns : List Node) → climbed F k None ns ≡ ns
unfolding climbed
climb_none F zero ns = refl
climb_none F (suc k) ns = refl

pub climb_up : (s : Settings) (F : Summary → Summary) (k : ℕ) (t : Tree) (R : ℕ → ℕ) (d m l total : ℕ) → Adds F d → Waiting s t R d m l total
    → R t.root < R m + k → Pushed s (with_nodes (climbed F k (Some m) t.nodes) t) R d l total
unfolding climbed with_nodes node_at
climb_up s F zero t R d m l total a w h = let q = w.links.top m w.here in absurd (omega arith)
climb_up s F (suc k) t R d m l total a w h = go (node_at t m).parent refl (λ p v q. climb_up s F k (raised F a w) R d p l total a v q)
  where
    go : (o : Option ℕ) → (node_at t m).parent ≡ o
        → ((p : ℕ) → Waiting s (raised F a w) R d p l total → R t.root < R p + k → Pushed s
        (with_nodes (climbed F k (Some p) (change_at (summed F) m t.nodes)) t) R d l total)
        → Pushed s (with_nodes (climbed F k o (change_at (summed F) m t.nodes)) t) R d l total
    go None e ih = subst (λ ns. Pushed s (with_nodes ns t) R d l total) (sym (climb_none F k (change_at (summed F) m t.nodes))) (last_step F a w e)
    go (Some p) e ih = ih p (next-step F a w p e) (let q = up_rank F a w p e in omega arith)

-- the path of a leaf, all of it
pub path_pushed : (s : Settings) (F : Summary → Summary) (t : Tree) (R : ℕ → ℕ) (d l total : ℕ) → Adds F d → Settled s t R total → l < length t.nodes
    → (node_at t l).leaf ≡ true → total + d ≤ most
    → Pushed s (along_path F l t) R d l (total + d)
unfolding along_path
path_pushed s F t R d l total a g h f b =
    climb_up s F (length t.nodes) t R d l l (total + d) a
    (record {
      links = g.links;
      exact = record { at_node = g.exact.at_node; at_entry = g.exact.at_entry; some_entry = g.exact.some_entry; small = b };
      here = h;
      sums = (λ k q. ap (λ z. z + only d l k) (g.weighs.sums k q));
      low = (λ k q r. let z = g.weighs.bound k q in omega arith);
      bound = (λ k q. let z = g.weighs.bound k q in omega arith);
      at_top = ap (λ z. z + d) g.weighs.whole-tree;
    })
    (let q = height g.links in omega arith)

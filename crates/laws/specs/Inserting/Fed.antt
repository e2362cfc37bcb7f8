-- An entry of a leaf that takes weight in: the invariant, looked at in that leaf.
use Rattle.std.specs.Prelude.{ℕ, ◌+◌, ◌≤◌, ◌<◌, ◌≡◌, refl, ◌⊎◌, ◌≢◌, true, false, length}
use Rattle.std.proofs.Math.Path.{sym, ap, subst}
use Rattle.std.proofs.Common.{◌∙◌, inl, inr, arith}
use Rattle.binary64.specs.Whole.{most}
use Rattle.feature.specs.declared.Summary.{Summary}
use Rattle.feature.specs.Summaries.{blank}
use Rattle.head.specs.declared.Settings.{Settings}
use Rattle.rules.specs.Lists.{change_at, occurs}
use Rattle.rules.specs.Tree.{Tree, node_at, entry_at, with_entries, row_count}
use Rattle.laws.specs.Invariant.Weights.{IsExact, Exactly, exact_count, exact_is}
use Rattle.counting.specs.Count.{same?}
use Rattle.counting.specs.Sums.{over_in, over-same, over_once}
use Rattle.laws.specs.Invariant.Links.{Links, leaf?, nil, not_both}
use Rattle.counting.specs.Lists.{change-at, change_off, length-change}
use Rattle.laws.specs.Invariant.Weigh.{own, own-leaf, own-inner}
use Rattle.laws.specs.Invariant.Sound.{entry_weight, node_weight, Settled, Looking}
use Rattle.laws.specs.Inserting.Climb.{Adds, Pushed}
use Rattle.counting.specs.Only.{only, only_at, only_off}
use Rattle.laws.specs.Inserting.Begun.{looking_of}
use Rattle.laws.specs.Inserting.Listed.{held_in_lem, held_one}

-- ---- an entry of l's list takes d in

abbrev pub fed : (Summary → Summary) → ℕ → Tree → Tree
fed F e t = with_entries (change_at F e t.entries) t

module _ {s : Settings} (F : Summary → Summary) {t : Tree} {R : ℕ → ℕ} {d l total : ℕ} (e : ℕ) (adds : Adds F d) (g : Pushed s t R d l total)
    (h : l < length t.nodes) (f : (node_at t l).leaf ≡ true) (o : 0 < occurs e (node_at t l).list) where
  pub inside : e < length t.entries
  inside = (held_in_lem s (node_at t) (length t.nodes) t.root (length t.entries) R nil nil nil g.links l e h f o).0

  fed-at : entry_at (fed F e t) e ≡ F (entry_at t e)
  unfolding with_entries entry_at
  fed-at = change-at F e blank t.entries inside

  fed_off : (c : ℕ) → c ≢ e → entry_at (fed F e t) c ≡ entry_at t c
  unfolding with_entries entry_at
  fed_off c q = change_off F e c blank t.entries q

  -- the leaf's weight, which counts d already, is within the total
  room : entry_weight t e + d ≤ most
  room =
      let b = over_in (entry_weight t) e (node_at t l).list o in
      let c = g.sums l h in
      let m = own-leaf (node_at t l) (entry_weight t) (node_weight t) f in
      let u = only_at d l l refl in
      let v = g.bound l h in
      let w = g.exact.small in
      omega arith

  exact_e : Exactly (F (entry_at t e)) (entry_weight t e + d)
  unfolding entry_weight
  exact_e = adds (entry_at t e) (entry_weight t e) (g.exact.at_entry e inside) room

  pub few-at : entry_weight (fed F e t) e ≡ entry_weight t e + d
  unfolding entry_weight
  few-at = ap (λ m. row_count m) fed-at ∙ exact_count (F (entry_at t e)) (entry_weight t e + d) exact_e

  pub few_off : (c : ℕ) → c ≢ e → entry_weight (fed F e t) c ≡ entry_weight t c
  unfolding entry_weight
  few_off c q = ap (λ m. row_count m) (fed_off c q)

  pub fed-length : length (fed F e t).entries ≡ length t.entries
  unfolding with_entries
  fed-length = length-change F e t.entries

  fed-own : (k : ℕ) → k < length t.nodes → own (node_at t k) (entry_weight (fed F e t)) (node_weight t)
      ≡ own (node_at t k) (entry_weight t) (node_weight t) + only d l k
  fed-own k q = go (same? k l) (leaf? (node_at t k))
    where
      go : (k ≡ l) ⊎ (k ≢ l) → ((node_at t k).leaf ≡ true) ⊎ ((node_at t k).leaf ≡ false) → own (node_at t k) (entry_weight (fed F e t)) (node_weight t)
          ≡ own (node_at t k) (entry_weight t) (node_weight t) + only d l k
      go (inl z) (inr fk) = absurd (not_both (node_at t l).leaf f (ap (λ y. (node_at t y).leaf) (sym z) ∙ fk))
      go (inl z) (inl fk) =
          let ok : 0 < occurs e (node_at t k).list = subst (λ y. 0 < occurs e (node_at t y).list) (sym z) o in
          let a = own-leaf (node_at t k) (entry_weight (fed F e t)) (node_weight t) fk in
          let b = own-leaf (node_at t k) (entry_weight t) (node_weight t) fk in
          let c = over_once (entry_weight (fed F e t)) (entry_weight t) e (node_at t k).list (held_in_lem s (node_at t) (length t.nodes) t.root
          (length t.entries) R nil nil nil g.links k e q fk ok).1 (λ c p r. few_off c r) in
          let m = few-at in
          let w = only_at d l k z in
          omega arith
      go (inr z) (inl fk) =
          let a = own-leaf (node_at t k) (entry_weight (fed F e t)) (node_weight t) fk in
          let b = own-leaf (node_at t k) (entry_weight t) (node_weight t) fk in
          let c = over-same (entry_weight (fed F e t)) (entry_weight t) (node_at t k).list
          (λ c p. few_off c (λ r. z (held_one s (node_at t) (length t.nodes) t.root (length t.entries) R nil nil nil g.links k l e q h fk f
          (subst (λ y. 0 < occurs y (node_at t k).list) r p) o))) in
          let w = only_off d l k z in
          omega arith
      go (inr z) (inr fk) =
          let a = own-inner (node_at t k) (entry_weight (fed F e t)) (node_weight t) fk in
          let b = own-inner (node_at t k) (entry_weight t) (node_weight t) fk in
          let w = only_off d l k z in
          omega arith

  fed_exact : (c : ℕ) → c < length t.entries → IsExact (entry_at (fed F e t) c) × (1 ≤ entry_weight (fed F e t) c)
  fed_exact c q = go (same? c e)
    where
      go : (c ≡ e) ⊎ (c ≢ e) → IsExact (entry_at (fed F e t) c) × (1 ≤ entry_weight (fed F e t) c)
      go (inl z) = (
        subst (λ y. IsExact (entry_at (fed F e t) y)) (sym z) (subst (λ m. IsExact m) (sym fed-at) (exact_is (F (entry_at t e)) (entry_weight t e + d) exact_e)),
        (let a : entry_weight (fed F e t) c ≡ entry_weight t e + d = ap (λ y. entry_weight (fed F e t) y) z ∙ few-at in let b = g.exact.some_entry e inside in
            omega arith),
      )
      go (inr z) = (
        subst (λ m. IsExact m) (sym (fed_off c z)) (g.exact.at_entry c q),
        (let a = few_off c z in let b = g.exact.some_entry c q in omega arith),
      )

  fed-settled : Settled s (fed F e t) R total
  unfolding with_entries node_at node_weight
  fed-settled = record {
    links = subst (λ m. Links s (node_at t) (length t.nodes) t.root m R nil nil nil) (sym fed-length) g.links;
    exact = record {
      at_node = g.exact.at_node;
      at_entry = (λ c q. (fed_exact c (subst (λ n. c < n) fed-length q)).0);
      some_entry = (λ c q. (fed_exact c (subst (λ n. c < n) fed-length q)).1);
      small = g.exact.small;
    };
    weighs = record { sums = (λ k q. g.sums k q ∙ sym (fed-own k q)); bound = g.bound; whole-tree = g.at_top };
  }

  pub fed_looking : Looking s (fed F e t) R l total
  unfolding with_entries node_at
  fed_looking = looking_of s (fed F e t) R l total fed-settled h f

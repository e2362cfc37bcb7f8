-- The empty tree: what comes in first makes a tree of one leaf. The invariant of any tree, empty or not.
use Rattle.std.specs.Prelude.{ℕ, suc, ◌+◌, ◌≤◌, ◌<◌, ◌≡◌, ◌⊎◌, length, Float, None}
use Rattle.std.proofs.Math.Path.{refl, ap, subst}
use Rattle.std.proofs.Common.{sym, ◌∙◌, inl, inr, true≢false, arith}
use Rattle.std.proofs.Math.Bool.{true}
use mathlib.Core.List.{List, [], ◌∷◌}
use Rattle.std.specs.Float.Ieee.{neg, eq, of_int}
use Rattle.binary64.specs.Operators.{f1, ◌⊕◌}
use Rattle.binary64.specs.Whole.{whole, whole_1, most}
use Rattle.binary64.specs.Zero.{minus_zero-add}
use Rattle.feature.specs.declared.Summary.{Summary}
use Rattle.feature.specs.Steps.{pushed}
use Rattle.feature.specs.Summaries.{blank}
use Rattle.head.specs.declared.Settings.{Settings}
use Rattle.rules.specs.Lists.{occurs}
use Rattle.rules.specs.Tree.{push, Tree, node_at, entry_at, blank_node, fresh, cap, row_count}
use Rattle.rules.specs.Descent.{descended, leaf_for}
use Rattle.counting.specs.Count.{is, is_same, is_other, below, below_out, below_suc}
use Rattle.counting.specs.Sums.{over, occurs-cons, sum_to}
use Rattle.laws.specs.Invariant.Links.{Links, inner, held, nil, rank_count}
use Rattle.laws.specs.Invariant.Weights.{Exactly, exact_count, exact_is, push_weigh, blank_exact}
use Rattle.laws.specs.Invariant.Weigh.{own, pick}
use Rattle.laws.specs.Invariant.Sound.{entry_weight, node_weight}
use Rattle.laws.specs.Inserting.Grown.{Placed, Whole}
use Rattle.head.specs.declared.Running.{Running}
use Rattle.laws.specs.Inserting.Descent.{leaf-found}

-- one leaf of list ks and summary z, and entries es
abbrev pub lone : Summary → List ℕ → List Summary → Running → Tree
lone z ks es r = record { nodes = record { summary = z; list = ks; leaf = true; parent = None } ∷ []; entries = es; root = 0; running = r }

abbrev pub empty_tree : Summary → Running → Tree
empty_tree z r = lone z [] [] r

only_zero : (k : ℕ) → k < 1 → k ≡ 0
only_zero k h = omega arith

below_one : (c : ℕ) → below c 1 ≡ is c 0
below_one c = let a = below_suc c 0 in let b = below_out c 0 (omega arith) in omega arith

module _ (s : Settings) (z e : Summary) (r : Running) (d : ℕ) (hz : Exactly z d) (he : Exactly e d) (some-d : 1 ≤ d) where
  abbrev t : Tree
  t = lone z (0 ∷ []) (e ∷ []) r

  one_links : Links s (node_at t) 1 0 1 nil (is 0) (is 0) nil
  unfolding node_at sum_to inner held occurs rank_count
  one_links = record {
    root_in = omega arith;
    root_top = refl;
    kid = (λ i c l f o. absurd (true≢false (sym (leafy i (only_zero i l)) ∙ f)));
    grounded = (λ i l f. refl);
    nodes_once = (λ c. let a = below_one c in omega arith);
    entries_once = (λ c. let a = below_one c in let b : occurs c (0 ∷ []) ≡ is c 0 + 0 = occurs-cons c 0 [] in omega arith);
    caps = (λ i l. fits i (only_zero i l));
    filled = (λ i l. some_kid i (only_zero i l));
    top = (λ i l. omega arith);
    grows = (λ q. let a = is_other (suc q) 0 (λ w. clash q w) in let b = is_other 0 (suc q) (λ w. clash q (sym w)) in omega arith);
  }
    where
      leafy : (i : ℕ) → i ≡ 0 → (node_at t i).leaf ≡ true
      leafy i w = ap (λ y. (node_at t y).leaf) w

      some_kid : (i : ℕ) → i ≡ 0 → 0 < length (node_at t i).list
      some_kid i w = let a : length (node_at t i).list ≡ 1 = ap (λ y. length (node_at t y).list) w in omega arith

      fits : (i : ℕ) → i ≡ 0 → length (node_at t i).list ≤ cap s (node_at t i).leaf + is 0 i
      fits i w = let a : length (node_at t i).list ≡ 1 = ap (λ y. length (node_at t y).list) w in let b = is_same 0 i (sym w) in omega arith

      clash : (q : ℕ) → suc q ≡ 0 → ⊥
      clash q w = omega arith

  wz : node_weight t 0 ≡ d
  unfolding node_weight node_at
  wz = exact_count z d hz

  we : entry_weight t 0 ≡ d
  unfolding entry_weight entry_at
  we = exact_count e d he

  own_0 : own (node_at t 0) (entry_weight t) (node_weight t) ≡ entry_weight t 0 + 0
  unfolding own over pick node_at
  own_0 = refl

  pub one_placed : Placed s t nil 0 d
  unfolding node_at entry_at sum_to
  one_placed = record {
    looking = record {
      links = one_links;
      exact = record {
        at_node = (λ k l. subst (λ y. ((node_at t y).summary.weight ≡ whole (row_count (node_at t y).summary)) × (row_count (node_at t y).summary ≤ most))
            (sym (only_zero k l)) (exact_is z d hz));
        at_entry = (λ k l. subst (λ y. ((entry_at t y).weight ≡ whole (row_count (entry_at t y))) × (row_count (entry_at t y) ≤ most)) (sym (only_zero k l))
            (exact_is e d he));
        some_entry = (λ k l. subst (λ y. 1 ≤ entry_weight t y) (sym (only_zero k l)) (let a = we in omega arith));
        small = hz.1;
      };
      weighs = record {
        sums = (λ k l. subst (λ y. node_weight t y ≡ own (node_at t y) (entry_weight t) (node_weight t)) (sym (only_zero k l))
            (let a = wz in let b = we in let c = own_0 in omega arith));
        bound = (λ k l. subst (λ y. node_weight t y ≤ d) (sym (only_zero k l)) (let a = wz in omega arith));
        whole-tree = wz;
      };
    };
    counted = (let a = we in omega arith);
    here = omega arith;
  }

-- a weight of zero, of either sign
abbrev pub Zero : Float → Type 0
Zero w = (w ≡ whole 0) ⊎ (w ≡ neg (whole 0))

pub zero-eq : (w : Float) → Zero w → eq (whole 0) w ≡ true
zero-eq w (inl q) = ap (λ w. eq (whole 0) w) q ∙ (unfold of_int eq in refl)
zero-eq w (inr q) = ap (λ w. eq (whole 0) w) q ∙ (unfold of_int neg eq in refl)

pub push-zero : (f : Settings) (x : List Float) (z : Summary) → Zero z.weight → Exactly (push f x z) 1
push-zero f x z (inl q) = push_weigh f x z 0 (q, omega arith) (omega arith)
push-zero f x z (inr q) = (go q, omega arith)
  where
    go : z.weight ≡ neg (whole 0) → (push f x z).weight ≡ whole 1
    go w = unfold pushed in (ap (λ y. y ⊕ f1) w ∙ ap (λ y. neg (whole 0) ⊕ y) (sym whole_1) ∙ minus_zero-add 1 (omega arith))

-- ---- the invariant

-- an empty tree: one leaf that weighs nothing
pub record Bare (t : Tree) : Type 0 where
  pub summary : Summary
  pub zero : Zero summary.weight
  pub is : t ≡ empty_tree summary t.running

-- a tree that holds total rows
abbrev pub Holding : Settings → Tree → ℕ → Type 0
Holding s t total = (Bare t × (total ≡ 0)) ⊎ Whole s t total

pub fresh_holds : (s : Settings) (h : Float) → Holding s (fresh h) 0
unfolding fresh blank_node
fresh_holds s h = inl (record { summary = blank; zero = inl blank_exact.0; is = refl }, refl)

-- the leaf that a descent finds is one
abbrev AtLeaf : Settings → (Summary → Float) → Tree → Type 0
AtLeaf s f t = (leaf_for t f < length t.nodes) × ((node_at t (leaf_for t f)).leaf ≡ true)

empty_leaf : (s : Settings) (f : Summary → Float) (z : Summary) (r : Running) → AtLeaf s f (empty_tree z r)
unfolding leaf_for descended node_at
empty_leaf s f z r = (omega arith, refl)

pub leaf-of : (s : Settings) (t : Tree) (total : ℕ) (f : Summary → Float) → Holding s t total
    → (leaf_for t f < length t.nodes) × ((node_at t (leaf_for t f)).leaf ≡ true)
leaf-of s t total f (inl b) = let q = b.0 in subst (AtLeaf s f) (sym q.is) (empty_leaf s f q.summary t.running)
leaf-of s t total f (inr w) = leaf-found s t f w.0 nil nil nil w.1.links

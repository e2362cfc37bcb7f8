-- There are no more pairs than entries: each is listed in one leaf, once.
use Rattle.std.specs.Prelude.{ℕ, zero, suc, ◌+◌, ◌≤◌, ◌<◌, ◌≡◌, refl, Bool, true, cond, List, [], ◌∷◌, eqb, Float}
use Rattle.std.proofs.Common.{sym, ap, ap₂, ◌∙◌, add-one, length-append}
use Rattle.std.proofs.Math.Bool.{false}
use native.Mathlib.Omega.{arith}
use borrow.Author.Tests.{eqb-true, eqb-false}
use Rattle.std.proofs.Math.ListN.{length}
use Rattle.head.specs.declared.Settings.{Settings}
use Rattle.head.specs.declared.Counters.{Counters}
use Rattle.head.specs.Limits.{both}
use Rattle.head.specs.Sizes.{entry_cap}
use Rattle.rules.specs.Tree.{Tree, node_at}
use Rattle.rules.specs.Slices.{tree_of}
use Rattle.rules.specs.Pairs.{all_leaves, beneath}
use Rattle.counting.specs.Sums.{over, length_over, sum_to, sum_same, sum_ones}
use Rattle.laws.specs.ForCode.{Framed}
use Rattle.arena.specs.Trees.{Floats, caps_small, count_nodes_lem, count_entries_lem}
use Rattle.scratch.specs.Stored.{Room}
use Rattle.laws.specs.Invariant.Beneath.{leaves_sum, inners_sum}

-- an entry's number fits a word
pub entries_few : (s : Settings) (c : Counters) (n : ℕ) → Floats s c n → c.entries ≤ 4294967296
entries_few s c n f = let k = caps_small s c n f in omega (arith, f.entries_in)

-- how many entries node k lists
unfoldable pub listed : Tree → ℕ → ℕ
listed t k = cond (node_at t k).leaf (length (node_at t k).list) 0

-- how many the first n nodes list
unfoldable pub listed_to : Tree → ℕ → ℕ
listed_to t n = sum_to (listed t) n

pub listed-leaf : (t : Tree) (k : ℕ) → (node_at t k).leaf ≡ true → listed t k ≡ length (node_at t k).list
unfolding listed
listed-leaf t k e = rw e

-- a prefix of a sum
pub sum_front : (f : ℕ → ℕ) (k n : ℕ) → k ≤ n → sum_to f k ≤ sum_to f n
unfolding sum_to
sum_front f k zero h = let z : k ≡ 0 = omega arith in rw z (omega arith)
sum_front f k (suc n) h = go (eqb k (suc n)) refl (λ g. sum_front f k n g)
  where
    go : (b : Bool) → eqb k (suc n) ≡ b → (k ≤ n → sum_to f k ≤ sum_to f n) → sum_to f k ≤ sum_to f n + f n
    go true e ih = let q = eqb-true k (suc n) e in rw q (unfold sum_to in omega arith)
    go false e ih = let q = eqb-false k (suc n) e in let r = ih (omega arith) in omega arith

pub listed_more : (t : Tree) (k : ℕ) → listed_to t (k + 1) ≡ listed_to t k + listed t k
unfolding listed_to sum_to
listed_more t k = rw (add-one k)

pub listed-all : (t : Tree) → Framed t → listed_to t (length t.nodes) ≡ length t.entries
unfolding listed_to listed
listed-all t g =
    sum_same (λ k. cond (node_at t k).leaf (over (λ _. 1) (node_at t k).list) 0) (λ k. cond (node_at t k).leaf (length (node_at t k).list) 0) (length t.nodes)
    (λ k _. ap (λ n. cond (node_at t k).leaf n 0) (length_over (node_at t k).list))
    ∙ leaves_sum g.frame (λ _. 1) ∙ sum_ones (length t.entries)

-- ---- how many entries stand in the leaves that inner node k lists

unfoldable pub listed_under : Tree → ℕ → ℕ
listed_under t k = cond (node_at t k).leaf 0 (over (listed t) (node_at t k).list)

unfoldable pub listed_under_to : Tree → ℕ → ℕ
listed_under_to t n = sum_to (listed_under t) n

pub under_more : (t : Tree) (k : ℕ) → listed_under_to t (k + 1) ≡ listed_under_to t k + listed_under t k
unfolding listed_under_to sum_to
under_more t k = rw (add-one k)

under_all : (t : Tree) → Framed t → listed_under_to t (length t.nodes) ≤ length t.entries
unfolding listed_under_to listed_under
under_all t g =
    let a : listed t t.root + sum_to (λ k. cond (node_at t k).leaf 0 (over (listed t) (node_at t k).list)) (length t.nodes)
    ≡ listed_to t (length t.nodes) = (unfold listed_to in inners_sum g.frame (listed t)) in
    let b = listed-all t g in
    omega arith

-- of leaves alone, all that they list
pub under_leaves : (t : Tree) (l : List ℕ) → all_leaves t l ≡ true → length (beneath t l) ≡ over (listed t) l
unfolding all_leaves beneath over
under_leaves t [] e = refl
under_leaves t (k ∷ l) e =
    let (p, q) = both (node_at t k).leaf (all_leaves t l) e in
    length-append (node_at t k).list (beneath t l) ∙ ap₂ (λ a b. a + b) (sym (listed-leaf t k p)) (under_leaves t l q)

pub under-inner : (t : Tree) (k : ℕ) → (node_at t k).leaf ≡ false → all_leaves t (node_at t k).list ≡ true
    → length (beneath t (node_at t k).list) ≡ listed_under t k
unfolding listed_under
under-inner t k e a = under_leaves t (node_at t k).list a ∙ ap (λ b. cond b 0 (over (listed t) (node_at t k).list)) (sym e)

-- ---- with so many pairs as the first i nodes list, or fewer, there is room for those of node i

module _ (s : Settings) (c : Counters) (fs : List Float) (ls : List ℕ) {n : ℕ} (f : Floats s c n) (g : Framed (tree_of s c fs ls)) where
  listed_in : (i : ℕ) → i ≤ c.nodes → listed_to (tree_of s c fs ls) i ≤ entry_cap s
  unfolding listed_to
  listed_in i h =
      let t = tree_of s c fs ls in
      let a = sum_front (listed t) i (length t.nodes) (rw (count_nodes_lem s c fs ls) h) in
      let b : sum_to (listed t) (length t.nodes) ≡ length t.entries = listed-all t g in
      let d = count_entries_lem s c fs ls in
      omega (arith, f.entries_in)

  pub room_left : (i count : ℕ) {a b d e : ℕ} → i < c.nodes → count ≤ listed_to (tree_of s c fs ls) i → Room (entry_cap s) a b → d ≡ a → e ≡ b
      → Room (count + listed (tree_of s c fs ls) i) d e
  room_left i count h k r p q =
      let m = listed_more (tree_of s c fs ls) i in
      let l = listed_in (i + 1) (omega arith) in
      record { floats_in_lem = omega (arith, r.floats_in_lem); numbers_in = omega (arith, r.numbers_in) }

  pub all_room : (i count : ℕ) → i ≤ c.nodes → count ≤ listed_to (tree_of s c fs ls) i → count ≤ entry_cap s
  all_room i count h k = omega (arith, listed_in i h)

  under_in : (i : ℕ) → i ≤ c.nodes → listed_under_to (tree_of s c fs ls) i ≤ entry_cap s
  unfolding listed_under_to
  under_in i h =
      let t = tree_of s c fs ls in
      let a = sum_front (listed_under t) i (length t.nodes) (rw (count_nodes_lem s c fs ls) h) in
      let b : sum_to (listed_under t) (length t.nodes) ≤ length t.entries = under_all t g in
      let d = count_entries_lem s c fs ls in
      omega (arith, f.entries_in)

  pub room_under : (i count : ℕ) {a b d e : ℕ} → i < c.nodes → count ≤ listed_under_to (tree_of s c fs ls) i → Room (entry_cap s) a b → d ≡ a → e ≡ b
      → Room (count + listed_under (tree_of s c fs ls) i) d e
  room_under i count h k r p q =
      let m = under_more (tree_of s c fs ls) i in
      let l = under_in (i + 1) (omega arith) in
      record { floats_in_lem = omega (arith, r.floats_in_lem); numbers_in = omega (arith, r.numbers_in) }

  pub all_under : (i count : ℕ) → i ≤ c.nodes → count ≤ listed_under_to (tree_of s c fs ls) i → count ≤ entry_cap s
  all_under i count h k = omega (arith, under_in i h)

-- Any item into any tree that holds: in its leaf before any split, and then, with its rows more.
use Prim.Native.Nat.{ℕ, zero, suc, ◌+◌, ◌≤◌, ◌<◌}
use Rattle.std.specs.Prelude.{◌≡◌, Bool, cond, List, Float, Option, None, Some}
use Rattle.std.proofs.Math.Path.{refl}
use Rattle.std.proofs.Common.{sym, ap, ◌∙◌, subst, inl, inr}
use Rattle.std.proofs.Math.Bool.{true, false}
use native.Mathlib.Omega.{arith}
use Rattle.std.proofs.Math.ListN.{length}
use Rattle.std.specs.Float.Ieee.{neg, le}
use Rattle.binary64.specs.Operators.{f0}
use Rattle.binary64.specs.Whole.{whole, most, whole_0}
use Rattle.binary64.specs.Zero.{minus_zero-le}
use Rattle.feature.specs.declared.Summary.{Summary}
use Rattle.feature.specs.Weights.{merged_copy}
use Rattle.feature.specs.Summaries.{blank}
use Rattle.head.specs.declared.Settings.{Settings}
use Rattle.head.specs.declared.Running.{Running}
use Rattle.rules.specs.Lists.{change_at, snoc, occurs}
use Rattle.rules.specs.Tree.{Tree, push, merge, node_at, entry_at, with_nodes, with_entries, adding, with_list, summed, row_count}
use Rattle.rules.specs.Descent.{searched, searching, leaf_for, climbed, along_path}
use Rattle.rules.specs.Insert.{Item, row_item, summary_item, begun, absorbed, absorbs, absorbed_or_begun, placed, grown_at, grown}
use Rattle.rules.specs.Split.{split_from}
use Rattle.rules.specs.Reinsert.{replaced}
use Rattle.counting.specs.Lists.{length-change, snoc-length}
use Rattle.laws.specs.Running.{split_up_entries}
use Rattle.laws.specs.Invariant.Weights.{Exactly, IsExact, push_weigh, merge_weight_lem, blank_exact}
use Rattle.laws.specs.Invariant.Links.{nil}
use Rattle.laws.specs.Invariant.Sound.{Settled, Caps, entry_weight}
use Rattle.laws.specs.Inserting.Climb.{Adds, Pushed, path_pushed}
use Rattle.laws.specs.Inserting.Grown.{Hit, Counted, Placed, Whole, put-new, put-fed, path_leaf, path_length, search_among, settled-whole}
use Rattle.laws.specs.Inserting.First.{empty_tree, Zero, Holding, one_placed, push-zero, leaf-of}

-- ---- what the laws ask of an item

-- taken in, it adds its rows, to an empty summary of either zero too; alone it weighs them; there is one at least
pub record Weighty (i : Item) : Type 0 where
  pub adds : Adds i.taken i.rows
  pub first : (z : Summary) → Zero z.weight → Exactly (i.taken z) i.rows
  pub exact : Exactly i.alone i.rows
  pub some : 1 ≤ i.rows

pub row_weighty : (s : Settings) (x : List Float) → Weighty (row_item s x)
row_weighty s x = record { adds = adds'; first = push-zero s x; exact = push_weigh s x blank 0 blank_exact (omega arith); some = omega arith }
  where
    adds' : Adds (push s x) 1
    adds' a v h b = let e : suc v ≡ v + 1 = omega arith in subst (λ z. Exactly (push s x a) z) e (push_weigh s x a v h (omega arith))

pub summary_weighty : (s : Settings) (e : Summary) → IsExact e → 1 ≤ row_count e → Weighty (summary_item s e)
summary_weighty s e x pos = record { adds = (λ a v h b. merge_weight_lem s a e v (row_count e) h x b); first = first'; exact = x; some = pos }
  where
    first' : (z : Summary) → Zero z.weight → Exactly (merge s z e) (row_count e)
    first' z (inl q) = let k : 0 + row_count e ≡ row_count e = omega arith in
        subst (λ n. Exactly (merge s z e) n) k (merge_weight_lem s z e 0 (row_count e) (q, omega arith) x (let b = x.1 in omega arith))
    first' z (inr q) = copy (row_count e) x pos
      where
        copy : (n : ℕ) → Exactly e n → 1 ≤ n → Exactly (merge s z e) n
        copy zero x pos = absurd (omega arith)
        copy (suc n) x pos =
            let low : le z.weight f0 ≡ true = ap (λ w. le w f0) q ∙ ap (λ w. le (neg (whole 0)) w) (sym whole_0) ∙ minus_zero-le in
            subst (λ m. Exactly m (suc n)) (sym (merged_copy s.feature s.dim z e n x.1 low x.0)) x

-- ---- in its leaf, before any split

-- searched for, or begun whatever is near
unfoldable pub found : Item → Bool → ℕ → Tree → Option ℕ
found i true l t = searched (λ e. i.near (entry_at t e)) (node_at t l).list
found i false l t = None

abbrev pub item_placed : Item → Bool → ℕ → Tree → Tree
item_placed i b l t = absorbed_or_begun i l (found i b l (along_path i.taken l t)) (along_path i.taken l t)

abbrev pub InLeaf : Settings → Item → Bool → ℕ → ℕ → Tree → Type 0
InLeaf s i b l total t = (R : ℕ → ℕ) × Placed s (item_placed i b l t) R l total

found-hit : (i : Item) (b : Bool) (l : ℕ) (u : Tree) → Hit (λ e. 0 < occurs e (node_at u l).list) (found i b l u)
unfolding found
found-hit i true l u = search_among (λ e. i.near (entry_at u e)) (node_at u l).list
found-hit i false l u = tt

module _ {s : Settings} (i : Item) (ok : Weighty i) where
  -- into a settled tree, whatever the search finds
  module _ {t : Tree} {R : ℕ → ℕ} {old : ℕ} (g : Settled s t R old) (n : Counted t old) (b : old + i.rows ≤ most) where
    pub join : (l : ℕ) → l < length t.nodes → (node_at t l).leaf ≡ true → (r : Option ℕ)
        → Hit (λ e. 0 < occurs e (node_at (along_path i.taken l t) l).list) r
        → Placed s (absorbed_or_begun i l r (along_path i.taken l t)) R l (old + i.rows)
    unfolding absorbed_or_begun absorbed
    join l h f r a = go r a
      where
        p : Pushed s (along_path i.taken l t) R i.rows l (old + i.rows)
        p = path_pushed s i.taken t R i.rows l old ok.adds g h f b

        hu : l < length (along_path i.taken l t).nodes
        hu = subst (λ m. l < m) (sym (path_length i.taken l t)) h

        fu : (node_at (along_path i.taken l t) l).leaf ≡ true
        fu = path_leaf i.taken l t l ∙ f

        nu : Counted (along_path i.taken l t) old
        nu = unfold along_path with_nodes entry_weight entry_at in n

        new : Placed s (begun l i.alone (along_path i.taken l t)) R l (old + i.rows)
        new = put-new old p hu fu nu i.alone ok.exact ok.some

        go : (r : Option ℕ) → Hit (λ e. 0 < occurs e (node_at (along_path i.taken l t) l).list) r
            → Placed s (absorbed_or_begun i l r (along_path i.taken l t)) R l (old + i.rows)
        go None a = new
        go (Some e) a = pick (absorbs i e (along_path i.taken l t))
          where
            pick : (q : Bool) → Placed s (cond q (absorbed i e (along_path i.taken l t)) (begun l i.alone (along_path i.taken l t))) R l (old + i.rows)
            pick true = put-fed old p hu fu nu i.taken e ok.adds a
            pick false = new

  first_in : (b : Bool) (z : Summary) (r : Running) → Zero z.weight → InLeaf s i b 0 i.rows (empty_tree z r)
  unfolding found absorbed_or_begun searched searching along_path climbed change_at summed begun adding with_list snoc with_nodes with_entries node_at
  first_in true z r e = (nil, one_placed s (i.taken z) i.alone r i.rows (ok.first z e) ok.exact ok.some)
  first_in false z r e = (nil, one_placed s (i.taken z) i.alone r i.rows (ok.first z e) ok.exact ok.some)

  module _ (b : Bool) (l : ℕ) (t : Tree) (total : ℕ) (k : Holding s t total) (here : l < length t.nodes) (leaf : (node_at t l).leaf ≡ true)
      (h : total + i.rows ≤ most) where
    pub item_placed_lem : InLeaf s i b l (total + i.rows) t
    item_placed_lem = go k
      where
        go : Holding s t total → InLeaf s i b l (total + i.rows) t
        go (inl k) =
            let q = k.0 in
            let e : i.rows ≡ total + i.rows = let w = k.1 in omega arith in
            let n : length t.nodes ≡ 1 = ap (λ u. length u.nodes) q.is in
            let z : 0 ≡ l = omega arith in
            subst (λ j. InLeaf s i b j (total + i.rows) t) z (subst (λ u. InLeaf s i b 0 (total + i.rows) u) (sym q.is)
            (subst (λ n. InLeaf s i b 0 n (empty_tree q.summary t.running)) e (first_in b q.summary t.running q.zero)))
        go (inr w) =
            (w.0, join w.1 w.2 h l here leaf (found i b l (along_path i.taken l t)) (found-hit i b l (along_path i.taken l t)))

    -- splits done: the invariant, and its rows more
    pub item_whole : Caps s → Whole s (split_from s l (item_placed i b l t)) (total + i.rows)
    item_whole c = settled-whole s (item_placed i b l t) item_placed_lem.0 l (total + i.rows) c item_placed_lem.1

-- a row
pub grown_holds : (s : Settings) (x : List Float) (t : Tree) (total : ℕ) → Caps s → Holding s t total → total < most
    → Whole s (grown s (row_item s x) t) (suc total)
unfolding grown grown_at placed
grown_holds s x t total c k h =
    let i = row_item s x in
    let l = leaf_for t i.near in
    let (here, leaf) = leaf-of s t total i.near k in
    let e : total + 1 ≡ suc total = omega arith in
    subst (λ n. Whole s (grown s i t) n) e (unfold found in item_whole i (row_weighty s x) true l t total k here leaf (omega arith) c)

-- an entry placed again
pub replaced_holds : (s : Settings) (e : Summary) (t : Tree) (total : ℕ) → Caps s → Holding s t total → IsExact e → 1 ≤ row_count e → total + row_count e ≤ most
    → Whole s (replaced s e t) (total + row_count e)
unfolding replaced found absorbed_or_begun
replaced_holds s e t total c k x pos b =
    let i = summary_item s e in
    let (here, leaf) = leaf-of s t total i.near k in
    item_whole i (summary_weighty s e x pos) false (leaf_for t i.near) t total k here leaf b c

-- ---- one entry more at most

module _ (i : Item) where
  placed_more : (l : ℕ) (r : Option ℕ) (u : Tree) → length (absorbed_or_begun i l r u).entries ≤ suc (length u.entries)
  unfolding absorbed_or_begun absorbed begun with_entries with_nodes
  placed_more l None u = let a = snoc-length u.entries i.alone in omega arith
  placed_more l (Some e) u = go (absorbs i e u)
    where
      go : (b : Bool) → length (cond b (absorbed i e u) (begun l i.alone u)).entries ≤ suc (length u.entries)
      go true = let a = length-change i.taken e u.entries in omega arith
      go false = let a = snoc-length u.entries i.alone in omega arith

  pub in_leaf_more : (b : Bool) (l : ℕ) (t : Tree) → length (item_placed i b l t).entries ≤ suc (length t.entries)
  in_leaf_more b l t =
      let c : length (along_path i.taken l t).entries ≡ length t.entries = unfold along_path with_nodes in refl in
      let m = placed_more l (found i b l (along_path i.taken l t)) (along_path i.taken l t) in
      omega arith

-- splits leave the entries as the placing has them
pub grown_entries : (s : Settings) (i : Item) (l : ℕ) (t : Tree) → (grown_at s i l t).entries ≡ (item_placed i true l t).entries
unfolding grown_at placed split_from found
grown_entries s i l t =
    let v = item_placed i true l t in
    split_up_entries s (length v.nodes) l v

pub one_more_lem : (s : Settings) (i : Item) (t : Tree) → length (grown s i t).entries ≤ suc (length t.entries)
unfolding grown
one_more_lem s i t =
    let l = leaf_for t i.near in
    let e = ap length (grown_entries s i l t) in
    let m = in_leaf_more i true l t in
    omega arith

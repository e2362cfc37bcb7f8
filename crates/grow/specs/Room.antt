-- What a tree has to be for a row more, or for a summary more, and what that gives for each step.
use Rattle.std.specs.Prelude.{ℕ, ◌+◌, ◌≤◌, ◌<◌, ◌≡◌, Bool, List, length, Float}
use Rattle.std.proofs.Common.{◌∙◌, arith}
use Rattle.std.proofs.Math.Bool.{true, false}
use Rattle.binary64.specs.Whole.{most}
use Rattle.feature.specs.declared.Summary.{Summary}
use Rattle.head.specs.declared.Settings.{Settings}
use Rattle.head.specs.declared.Counters.{Counters}
use Rattle.head.specs.Sizes.{entry_cap, block_width}
use Rattle.rules.specs.Tree.{Tree, push, merge, dist_to, dist_between, node_at, cap, row_count}
use Rattle.rules.specs.Slices.{tree_of}
use Rattle.rules.specs.Descent.{leaf_for, along_path}
use Rattle.rules.specs.Split.{split_from}
use Rattle.rules.specs.Insert.{begun, absorbed_or_begun, placed, grown_at, grown, row_item, summary_item}
use Rattle.rules.specs.Reinsert.{replaced}
use Rattle.laws.specs.Invariant.Weights.{IsExact}
use Rattle.laws.specs.Inserting.Grown.{path_leaf}
use Rattle.laws.specs.Inserting.First.{Holding, leaf-of}
use Rattle.laws.specs.Inserting.Items.{row_weighty, summary_weighty, item_placed_lem, found}
use Rattle.laws.specs.Check.Both.{AtRest}
use Rattle.laws.specs.ForCode.{Sure, sure_of}
use Rattle.arena.specs.Trees.{Floats, count_nodes_lem, count_entries_lem}
use Rattle.bounds.specs.Sure.{children_in, path_sure}
use Rattle.split.specs.Rising.{Rising, rising_placed}
use Rattle.grow.specs.Places.{Place}

-- a tree that holds so many rows, with room for a row more and for an entry more
pub record Growable (s : Settings) (t : Tree) : Type 0 where
  pub rows : ℕ
  pub holds : Holding s t rows
  pub few : rows < most
  pub room : length t.entries ≤ s.max_leaves

-- a tree that holds so many rows, with room for those of the summary e, one at least, and for an entry more
pub record Placeable (s : Settings) (t : Tree) (e : Summary) : Type 0 where
  pub total : ℕ
  pub holds : Holding s t total
  pub exact : IsExact e
  pub some : 1 ≤ row_count e
  pub few : total + row_count e ≤ most
  pub room : length t.entries < entry_cap s

-- a tree between calls takes a row more
pub rest_growable : (s : Settings) (t : Tree) (rows : ℕ) → AtRest s t rows → rows < most → Growable s t
rest_growable s t rows r h = record { rows = rows; holds = r.holds; few = h; room = r.few }

pub growable_sure : (s : Settings) (t : Tree) → Growable s t → Sure s t
growable_sure s t g = sure_of s t g.rows g.holds

pub placeable_sure : (s : Settings) (t : Tree) (e : Summary) → Placeable s t e → Sure s t
placeable_sure s t e g = sure_of s t g.total g.holds

-- ---- the leaf that a descent by f finds, once the way up from it is changed by F

cap_wide : (s : Settings) (b : Bool) → cap s b + 3 ≤ block_width s
unfolding block_width cap
cap_wide s true = omega arith
cap_wide s false = omega arith

module _ (s : Settings) (n : Counters) (fs gs : List Float) (ls : List ℕ) (total leaf : ℕ) (f : Summary → Float) (F : Summary → Summary)
    (k : Holding s (tree_of s n fs ls) total) (l : leaf ≡ leaf_for (tree_of s n fs ls) f) (h : leaf < n.nodes)
    (e : tree_of s n gs ls ≡ along_path F leaf (tree_of s n fs ls)) where
  sure : Sure s (tree_of s n gs ls)
  sure = rw e (path_sure F leaf (tree_of s n fs ls) s (sure_of s (tree_of s n fs ls) total k))

  kind : (node_at (tree_of s n gs ls) leaf).leaf ≡ true
  kind = rw e (path_leaf F leaf (tree_of s n fs ls) leaf ∙ rw l (leaf-of s (tree_of s n fs ls) total f k).1)

  spare : length (node_at (tree_of s n gs ls) leaf).list + 2 < block_width s
  spare =
      let a = sure.fits leaf (rw (count_nodes_lem s n gs ls) h) in
      let b = cap_wide s (node_at (tree_of s n gs ls) leaf).leaf in
      omega arith

  place : length (tree_of s n fs ls).entries < entry_cap s → Place s n leaf (tree_of s n gs ls)
  place r = record {
    here = h;
    inside = children_in s n gs ls sure leaf h true kind;
    spare = spare;
    room = rw (count_entries_lem s n fs ls) at r;
  }

-- ---- a row

module _ (s : Settings) (n : Counters) (fs gs : List Float) (ls : List ℕ) (x : List Float) (leaf : ℕ) (g : Growable s (tree_of s n fs ls))
    (l : leaf ≡ leaf_for (tree_of s n fs ls) (λ c. dist_to s c x)) where
  pub row_place : leaf < n.nodes → tree_of s n gs ls ≡ along_path (push s x) leaf (tree_of s n fs ls) → Place s n leaf (tree_of s n gs ls)
  unfolding entry_cap
  row_place h e = place s n fs gs ls g.rows leaf (λ c. dist_to s c x) (push s x) g.holds l h e (omega (arith, g.room))

  module _ (m : Counters) (hs : List Float) (ks : List ℕ) (e : tree_of s n gs ls ≡ along_path (push s x) leaf (tree_of s n fs ls))
      (p : tree_of s m hs ks ≡ placed (row_item s x) leaf (tree_of s n gs ls)) where
    pub row_rising : Floats s m (length hs) → Rising s m.nodes m leaf (tree_of s m hs ks)
    unfolding placed found
    row_rising f =
        let t = tree_of s n fs ls in
        let (here, kind) = leaf-of s t g.rows (λ c. dist_to s c x) g.holds in
        let q = item_placed_lem (row_item s x) (row_weighty s x) true (leaf_for t (λ c. dist_to s c x)) t g.rows g.holds here kind (omega (arith, g.few)) in
        rw l (rising_placed s m hs ks f q.1 (p ∙ rw (e, l)))

    pub grown-is : {u : Tree} → u ≡ split_from s leaf (tree_of s m hs ks) → u ≡ grown s (row_item s x) (tree_of s n fs ls)
    unfolding grown grown_at
    grown-is q = q ∙ rw (p, e, l)

-- ---- a summary

module _ (s : Settings) (n : Counters) (fs gs : List Float) (ls : List ℕ) (c : Summary) (leaf : ℕ) (g : Placeable s (tree_of s n fs ls) c)
    (l : leaf ≡ leaf_for (tree_of s n fs ls) (λ d. dist_between s d c)) where
  pub entry_place : leaf < n.nodes → tree_of s n gs ls ≡ along_path (λ d. merge s d c) leaf (tree_of s n fs ls) → Place s n leaf (tree_of s n gs ls)
  entry_place h e =
      place s n fs gs ls g.total leaf (λ d. dist_between s d c) (λ d. merge s d c) g.holds l h e g.room

  module _ (m : Counters) (hs : List Float) (ks : List ℕ) (e : tree_of s n gs ls ≡ along_path (λ d. merge s d c) leaf (tree_of s n fs ls))
      (p : tree_of s m hs ks ≡ begun leaf c (tree_of s n gs ls)) where
    pub entry_rising : Floats s m (length hs) → Rising s m.nodes m leaf (tree_of s m hs ks)
    unfolding found absorbed_or_begun
    entry_rising f =
        let t = tree_of s n fs ls in
        let i = summary_item s c in
        let (here, kind) = leaf-of s t g.total i.near g.holds in
        let q = item_placed_lem i (summary_weighty s c g.exact g.some) false (leaf_for t i.near) t g.total g.holds here kind g.few in
        rw l (rising_placed s m hs ks f q.1 (p ∙ rw (e, l)))

    pub replaced-is : {u : Tree} → u ≡ split_from s leaf (tree_of s m hs ks) → u ≡ replaced s c (tree_of s n fs ls)
    unfolding replaced
    replaced-is q = q ∙ rw (p, e, l)

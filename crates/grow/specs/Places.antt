-- A row, or a summary, in its leaf, before any split.
use Rattle.std.specs.Prelude.{ℕ, ◌+◌, ◌<◌, ◌≡◌, refl, true, false, List, length, Float, Option, None, Some}
use Rattle.std.proofs.Math.Path.{sym}
use Rattle.std.proofs.Common.{◌∙◌, arith}
use Rattle.std.specs.Float.Ieee.{le}
use Rattle.feature.specs.Summaries.{blank}
use Rattle.feature.specs.Shape.{Shaped, blank_shaped, pushed_shaped}
use Rattle.feature.specs.declared.Summary.{Summary}
use Rattle.head.specs.declared.Settings.{Settings}
use Rattle.head.specs.declared.Counters.{Counters}
use Rattle.head.specs.Sizes.{entry_cap, block_width}
use Rattle.head.specs.Counting.{count_entries}
use Rattle.rules.specs.Tree.{Tree, push, dist_to, abs_to, node_at, entry_at, adding, with_nodes, with_entries}
use Rattle.rules.specs.Slices.{tree_of}
use Rattle.rules.specs.Descent.{searched}
use Rattle.rules.specs.Insert.{begun, absorbed, absorbs, absorbed_or_begun, placed, row_item}
use Rattle.arena.specs.Trees.{AnyFloats, Floats, Links, ChildrenIn, on_node, on_entry, with_entry, floats_entries, links_entries, count_entries_lem}
use Rattle.split.specs.Up.{spare_any}

-- a leaf that takes an entry more: it is there, what it lists is there, its block has a spare place, and the entries' slots have one
pub record Place (s : Settings) (n : Counters) (leaf : ℕ) (t : Tree) : Type 0 where
  pub here : leaf < n.nodes
  pub inside : ChildrenIn n true (node_at t leaf).list
  pub spare : length (node_at t leaf).list + 2 < block_width s
  pub room : n.entries < entry_cap s

pub place_spare : (s : Settings) (n : Counters) (fs : List Float) (ls : List ℕ) (leaf : ℕ) → Place s n leaf (tree_of s n fs ls)
    → AnyFloats s n ls (λ t. length (node_at t leaf).list + 2 < block_width s)
place_spare s n fs ls leaf p = spare_any s n fs ls leaf p.here refl p.spare

-- the summary of a row alone has its shape
pub alone_shaped : (s : Settings) (x : List Float) → Shaped s.feature s.dim (push s x blank)
alone_shaped s x = pushed_shaped s.feature s.dim blank x (blank_shaped s.feature s.dim)

-- ---- an entry more: the counters r

module _ (s : Settings) (n r : Counters) (e : r ≡ count_entries (n.entries + 1) n) where
  pub floats-begun : {k l : ℕ} → l ≡ k → Floats s n k → n.entries < entry_cap s → Floats s r l
  floats-begun {k} q f h = rw (e, q) (floats_entries s n k (n.entries + 1) f (omega arith))

  pub links_begun : {k l : ℕ} → l ≡ k → Links s n k → Links s r l
  links_begun {k} q f = rw (e, q) (links_entries s n k (n.entries + 1) f)

  pub below-begun : {i : ℕ} → i < n.nodes → i < r.nodes
  unfolding count_entries
  below-begun h = rw e h

  pub spare_begun : (ls : List ℕ) (i : ℕ) → AnyFloats s n ls (λ t. length (node_at t i).list + 2 < block_width s)
      → AnyFloats s r ls (λ t. length (node_at t i).list + 2 < block_width s)
  unfolding tree_of count_entries node_at
  spare_begun ls i h = λ fs. rw e (h fs)

  -- its slot written, then its number listed by the leaf
  pub begun-is : (fs gs : List Float) (ls ks : List ℕ) (leaf : ℕ) (c : Summary) → tree_of s r gs ls ≡ with_entry c (tree_of s n fs ls)
      → tree_of s r gs ks ≡ on_node (adding n.entries) leaf (tree_of s r gs ls) → tree_of s r gs ks ≡ begun leaf c (tree_of s n fs ls)
  unfolding begun on_node with_entry
  begun-is fs gs ls ks leaf c p q = q ∙ rw (p, count_entries_lem s n fs ls) (unfold with_nodes with_entries in refl)

-- ---- whether an entry absorbs a row, by the distance d that was worked out

pub absorbs-is : (s : Settings) (n : Counters) (fs : List Float) (ls : List ℕ) (x : List Float) (e : ℕ) {d : Float}
    → d ≡ abs_to s (entry_at (tree_of s n fs ls) e) x → le d n.running.threshold ≡ absorbs (row_item s x) e (tree_of s n fs ls)
unfolding absorbs tree_of
absorbs-is s n fs ls x e q = rw q

-- ---- the three ways of a row, by what the search in its leaf gave

module _ (s : Settings) (x : List Float) (leaf : ℕ) (t : Tree) {u : Tree} {near : Option ℕ}
    (q : near ≡ searched (λ e. dist_to s (entry_at t e) x) (node_at t leaf).list) where
  pub placed_nothing : near ≡ None → u ≡ begun leaf (push s x blank) t → u ≡ placed (row_item s x) leaf t
  unfolding placed absorbed_or_begun
  placed_nothing o h = h ∙ rw (sym q, o)

  module _ {e : ℕ} {b : _} (o : near ≡ Some e) (a : b ≡ absorbs (row_item s x) e t) where
    pub placed-absorbed : b ≡ true → u ≡ on_entry (push s x) e t → u ≡ placed (row_item s x) leaf t
    unfolding placed absorbed_or_begun absorbed on_entry
    placed-absorbed y h = h ∙ rw (sym q, o, sym a, y)

    pub placed-begun : b ≡ false → u ≡ begun leaf (push s x blank) t → u ≡ placed (row_item s x) leaf t
    unfolding placed absorbed_or_begun
    placed-begun y h = h ∙ rw (sym q, o, sym a, y)

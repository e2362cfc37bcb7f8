-- Locality: what one row's insert alters when no rebuild follows it.
use Rattle.std.specs.Prelude.{ℕ, ◌≤◌, ◌<◌, ◌+◌, ◌≡◌, refl, ◌⊎◌, Bool, true, false, cond, List, T, ltb, length, Float, Some}
use Rattle.std.proofs.Common.{ap, subst, inl, inr, arith, ltb→lt}
use Rattle.binary64.specs.Whole.{most}
use Rattle.head.specs.declared.Settings.{Settings}
use Rattle.head.specs.Limits.{Sized}
use Rattle.rules.specs.Tree.{Tree, node_at}
use Rattle.rules.specs.Descent.{leaf_for}
use Rattle.rules.specs.Insert.{grown, row_item, Item, grown_at}
use Rattle.rules.specs.Rebuild.{rebuilt}
use Rattle.laws.specs.Invariant.Links.{parent_lists}
use Rattle.laws.specs.Invariant.Sound.{Settled, caps_of}
use Rattle.laws.specs.Inserting.First.{Holding, leaf-of}
use Rattle.laws.specs.Check.Both.{AtRest}
use Rattle.promises.specs.Demand.{Moved, Same, OnPath, Local, RowLocal, path_up}
use Rattle.promises.specs.Locality.Path.{path_leaf-on, path_parent_on, way_first}
use Rattle.promises.specs.Locality.Entry.{grown-one}
use Rattle.promises.specs.Locality.Nodes.{grown-kept}
use Rattle.laws.specs.Inserting.Items.{Weighty, row_weighty}
use Rattle.rules.specs.Rows.{inserted}

-- without a rebuild a row's insert is its growing
pub no_rebuild : (s : Settings) (x : List Float) (t : Tree) → length (grown s (row_item s x) t).entries ≤ s.max_leaves → inserted s x t ≡ grown s (row_item s x) t
unfolding inserted
no_rebuild s x t h = go (ltb s.max_leaves (length (grown s (row_item s x) t).entries)) (ltb→lt s.max_leaves (length (grown s (row_item s x) t).entries))
  where
    go : (b : Bool) → (T b → s.max_leaves < length (grown s (row_item s x) t).entries) → cond b (rebuilt s (grown s (row_item s x) t)) (grown s (row_item s x) t) ≡ grown s (row_item s x) t
    go true f = let z = f tt in absurd (omega arith)
    go false f = refl

-- an item in at leaf l
module _ (s : Settings) (i : Item) (l : ℕ) (t : Tree) where
  -- the path, and every number past the tree's nodes
  abbrev Near : ℕ → Type 0
  Near q = OnPath t l q ⊎ (length t.nodes ≤ q)

  settled_node : {R : ℕ → ℕ} {rows : ℕ} → Settled s t R rows → (u : Tree) (q : ℕ) → q < length t.nodes → Same Near (length t.nodes) t u q
      → Same (OnPath t l) (length t.nodes) t u q
  settled_node {R} g u q h e = record { summary = e.summary; list = e.list; leaf = e.leaf; parent = go e.parent }
    where
      old : (p : ℕ) → (node_at t q).parent ≡ Some p → Near p → OnPath t l p
      old p f (inl o) = o
      old p f (inr n) = let r = (parent_lists g.links q p h refl f).0 in absurd (omega arith)

      go : ((node_at u q).parent ≡ (node_at t q).parent) ⊎ Moved Near (length t.nodes) t u q
          → ((node_at u q).parent ≡ (node_at t q).parent) ⊎ Moved (OnPath t l) (length t.nodes) t u q
      go (inl f) = inl f
      go (inr m) = inr (record { from = m.from; was = m.was; on = old m.from m.was m.on; to = m.to; new = m.new; is = m.is })

  pub item_local : {rows : ℕ} → Weighty i → Sized s → Holding s t rows → rows + i.rows ≤ most → l < length t.nodes → (node_at t l).leaf ≡ true
      → Local i l t (grown_at s i l t)
  item_local {rows} ok z k small here leaf = record { entry = grown-one s i l t rows k here leaf; node = go k }
    where
      go : Holding s t rows → (q : ℕ) → q < length t.nodes → (OnPath t l q → ⊥) → Same (OnPath t l) (length t.nodes) t (grown_at s i l t) q
      go (inl b) q h off = absurd (off (on_path q h))
        where
          at_leaf : length t.nodes ≡ 1 → OnPath t l l
          at_leaf n = unfold path_up in way_first t (length t.nodes) l (omega arith)

          on_path : (q : ℕ) → q < length t.nodes → OnPath t l q
          on_path q h =
              let n : length t.nodes ≡ 1 = ap (λ u. length u.nodes) b.0.is in
              let e : l ≡ q = omega arith in
              subst (λ j. OnPath t l j) e (at_leaf n)
      go (inr w) q h off =
          settled_node w.1 (grown_at s i l t) q h
          (grown-kept s i l t w.0 rows ok (caps_of z) w.1 w.2 small here leaf Near (λ k n. inr n) (inl (path_leaf-on t w.1.links l)) up q h
          (λ n. by n))
        where
          by : Near q → ⊥
          by (inl o) = off o
          by (inr n) = omega arith

          up : (m p : ℕ) → m < length t.nodes → Near m → (node_at t m).parent ≡ Some p → Near p
          up m p k (inl o) f = inl (path_parent_on t w.1.links l m p here o f)
          up m p k (inr n) f = absurd (omega arith)

-- a row at the leaf that its descent finds
pub row_local : (s : Settings) (x : List Float) (t : Tree) {rows : ℕ} → Sized s → AtRest s t rows → rows < most → RowLocal s x t (grown s (row_item s x) t)
unfolding grown
row_local s x t {rows} z r h =
    let i = row_item s x in
    let (here, leaf) = leaf-of s t rows i.near r.holds in
    item_local s i (leaf_for t i.near) t (row_weighty s x) z r.holds (omega arith) here leaf

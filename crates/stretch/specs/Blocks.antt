-- A node's links in its block: what is read of it, and what a word or a list written to it makes of the node.
use Rattle.std.specs.Prelude.{ℕ, suc, ◌+◌, ◌-◌, ◌/◌, ◌%◌, ◌≤◌, ◌<◌, min, ◌≡◌, refl, Bool, List, [], ◌∷◌, ◌++◌, length, get_or, set, drop, Float, Option, None, Some}
use Rattle.std.proofs.Common.{sym, ap₂, ◌∙◌, arith, eq-eqb, ne_eqb, length-take, length-drop, take_at, take-suc-set}
use Rattle.std.proofs.Math.Path.{ap}
use Rattle.std.proofs.lemmas.Option.{none-some}
use Rattle.std.proofs.Math.ListN.{take}
use Rattle.std.proofs.Math.Seq.{get_or-take, get_or-drop}
use Rattle.feature.specs.declared.Summary.{Summary}
use Rattle.head.specs.declared.Settings.{Settings}
use Rattle.head.specs.Limits.{Sized}
use Rattle.head.specs.Sizes.{block_width}
use Rattle.rules.specs.Lists.{snoc}
use Rattle.rules.specs.Tree.{Node, adding, with_list, under}
use Rattle.rules.specs.Slices.{summary_in, no_parent, parent_in, parent_out, leaf_in, kind_out, length_in, node_in}
use Rattle.rules.specs.Stored.{parent_back, leaf_back, length_back}
use Rattle.stretch.specs.Stretches.{put_stretch}

-- as many links as a node takes
pub record Block (s : Settings) (b : List ℕ) : Type 0 where
  pub sized : Sized s
  pub long : length b ≡ block_width s
  pub some : 3 ≤ length b
  pub few : length b ≤ 19

pub block : (s : Settings) (b : List ℕ) → Sized s → length b ≡ block_width s → Block s b
unfolding block_width
block s b z e = let n = z.branching_few in let l = z.leaf-few in record { sized = z; long = e; some = omega arith; few = omega arith }

-- a parent's number is not the reserved one, and fits its word
abbrev pub ParentFits : Option ℕ → Type 0
ParentFits (Some i) = i < no_parent
ParentFits None = Unit

-- a node of its parts
unfoldable pub node_of : Summary → Option ℕ → Bool → List ℕ → Node
node_of c parent leaf list = record { summary = c; list = list; leaf = leaf; parent = parent }

-- other links for a node
unfoldable pub relinked : Option ℕ → Bool → List ℕ → Node → Node
relinked parent leaf list n = node_of n.summary parent leaf list

-- the node of a slot, and of a parent, a kind and a list
unfoldable pub linked : Settings → List Float → Option ℕ → Bool → List ℕ → Node
linked s p parent leaf list = node_of (summary_in s p) parent leaf list

pub linked-is : (s : Settings) (p : List Float) (b : List ℕ) (parent : Option ℕ) (leaf : Bool) (list : List ℕ)
    → linked s p parent leaf list ≡ relinked parent leaf list (node_in s p b)
unfolding linked relinked node_in
linked-is s p b parent leaf list = refl

pub parent_fits : (q : Option ℕ) → ParentFits q → q ≡ Some no_parent → ⊥
parent_fits (Some i) h e = let z : i ≡ no_parent = cc in omega arith
parent_fits None h e = none-some no_parent e

pub parent_none : (w : ℕ) → w ≡ no_parent → None ≡ parent_in w
unfolding parent_in
parent_none w e = rw (eq-eqb w no_parent e)

pub parent_some : (w : ℕ) → (w ≡ no_parent → ⊥) → Some w ≡ parent_in w
unfolding parent_in
parent_some w d = rw (ne_eqb w no_parent d)

module _ (s : Settings) (b : List ℕ) (k : Block s b) (p : List Float) where
  -- ---- reading

  pub list_length : length (node_in s p b).list ≡ length_in s (get_or b 1 0)
  unfolding node_in length_in
  list_length = simp (length-take, length-drop) (omega (arith, k.long))

  pub list_in : length (node_in s p b).list + 2 ≤ length b
  unfolding length_in
  list_in = rw list_length (omega (arith, k.long, k.some))

  pub length_said : get_or b 1 0 / 2 < length b - 2 → get_or b 1 0 / 2 ≡ length (node_in s p b).list
  unfolding length_in
  length_said h = rw list_length (omega (arith, k.long))

  pub length-all : length b - 2 ≤ get_or b 1 0 / 2 → length b - 2 ≡ length (node_in s p b).list
  unfolding length_in
  length-all h = rw list_length (omega (arith, k.long))

  -- a list that leaves its spare place has its length in its word
  pub spare_said : length (node_in s p b).list + 2 < block_width s → get_or b 1 0 / 2 + 2 < block_width s
  unfolding length_in
  spare_said h = let e = list_length in omega (arith, k.long)

  pub list_place : (i : ℕ) → i < length (node_in s p b).list → get_or (node_in s p b).list i 0 ≡ get_or b (2 + i) 0
  unfolding node_in
  list_place i h =
      let l : i < length_in s (get_or b 1 0) = rw list_length at h in
      get_or-take (length_in s (get_or b 1 0)) (drop 2 b) i 0 l ∙ get_or-drop 2 b i 0

  -- the list, cut out by a length that the code has worked out
  pub list_part : (n : ℕ) → n ≡ length (node_in s p b).list → take (2 + n - 2) (drop 2 b) ≡ (node_in s p b).list
  unfolding node_in
  list_part n e = let m : 2 + n - 2 ≡ length_in s (get_or b 1 0) = omega (arith, e, list_length) in ap (λ k. take k (drop 2 b)) m

-- ---- writing

-- a block whose kind word says the length of the list that stands in it
kind_made : (s : Settings) (z : Sized s) (p : List Float) (x : ℕ) (leaf : Bool) (l rest : List ℕ) → length l ≤ block_width s - 2
    → node_in s p (x ∷ kind_out leaf (length l) ∷ (l ++ rest)) ≡ linked s p (parent_in x) leaf l
unfolding node_in linked node_of
kind_made s z p x leaf l rest h =
    rw (length_back s z leaf (length l) h, leaf_back s z leaf (length l), take_at l rest (length l) refl)

-- a list behind the two words of a block, and behind it what stood there
listed-is : (s : Settings) (z : Sized s) (p : List Float) (x n : ℕ) (leaf : Bool) (r list : List ℕ) → length list + 2 ≤ block_width s
    → node_in s p (put_stretch (x ∷ kind_out leaf (length list) ∷ r) 2 n list) ≡ linked s p (parent_in x) leaf list
unfolding put_stretch
listed-is s z p x n leaf r list h = kind_made s z p x leaf list (drop n r) (omega arith)

pub link_is : (s : Settings) (p : List Float) (par : Option ℕ) (leaf : Bool) (n w k : ℕ) (b l list : List ℕ) → Block s b → ParentFits par
    → length list + 2 ≤ block_width s → w ≡ parent_out par → k ≡ kind_out leaf (length list) → l ≡ list
    → node_in s p (put_stretch (set (set b 0 w) 1 k) 2 n l) ≡ linked s p par leaf list
link_is s p par leaf n w k (x ∷ y ∷ r) l list b f h ew ek el =
    ap₂ (λ m q. node_in s p (put_stretch (w ∷ m ∷ r) 2 n q)) ek el
    ∙ listed-is s b.sized p w n leaf r list h
    ∙ ap (λ q. linked s p q leaf list) (ap parent_in ew ∙ parent_back s b.sized par (parent_fits par f))
link_is s p par leaf n w k [] l list b f h ew ek el = absurd (omega (arith, b.some))
link_is s p par leaf n w k (x ∷ []) l list b f h ew ek el = absurd (omega (arith, b.some))

pub list_is : (s : Settings) (p : List Float) (leaf : Bool) (n k : ℕ) (b l list : List ℕ) → Block s b → length list + 2 ≤ block_width s
    → leaf ≡ (node_in s p b).leaf → k ≡ kind_out leaf (length list) → l ≡ list
    → node_in s p (put_stretch (set b 1 k) 2 n l) ≡ with_list list (node_in s p b)
unfolding linked node_of with_list node_in
list_is s p leaf n k (x ∷ y ∷ r) l list b h ef ek el =
    ap₂ (λ m q. node_in s p (put_stretch (x ∷ m ∷ r) 2 n q)) ek el
    ∙ listed-is s b.sized p x n leaf r list h
    ∙ ap (λ q. linked s p (parent_in x) q list) ef
list_is s p leaf n k [] l list b h ef ek el = absurd (omega (arith, b.some))
list_is s p leaf n k (x ∷ []) l list b h ef ek el = absurd (omega (arith, b.some))

pub under-is : (s : Settings) (p : List Float) (i : ℕ) (b : List ℕ) → Block s b → i < no_parent → node_in s p (set b 0 i) ≡ under i (node_in s p b)
unfolding node_in under
under-is s p i (x ∷ y ∷ r) b h = rw (sym (parent_some i (λ e. omega arith)))
under-is s p i [] b h = absurd (omega (arith, b.some))
under-is s p i (x ∷ []) b h = absurd (omega (arith, b.some))

-- one number more, at the place that the length names
pub added_is : (s : Settings) (p : List Float) (i len : ℕ) (b : List ℕ) → Block s b → length (node_in s p b).list + 2 < block_width s → len
    ≡ length (node_in s p b).list
    → node_in s p (set (set b (2 + len) i) 1 (get_or b 1 0 + 2)) ≡ adding i (node_in s p b)
unfolding node_in adding with_list snoc leaf_in length_in
added_is s p i len (x ∷ y ∷ r) b h e =
    let said : len ≡ y / 2 = e ∙ list_length s (x ∷ y ∷ r) b p ∙ omega (arith, list_length s (x ∷ y ∷ r) b p) in
    let place : 2 + len ≡ suc (suc len) = omega arith in
    let fits : len + 2 < block_width s = rw e h in
    let counted : min ((y + 2) / 2) (block_width s - 2) ≡ suc len = omega arith in
    let before : min (y / 2) (block_width s - 2) ≡ len = omega arith in
    let kind : (y + 2) % 2 ≡ y % 2 = omega arith in
    let room : len < length r = omega (arith, b.long) in
    rw (place, counted, kind, before, take-suc-set r len i room)
added_is s p i len [] b h e = absurd (omega (arith, b.some))
added_is s p i len (x ∷ []) b h e = absurd (omega (arith, b.some))

-- The whole of each slice tidied is what the rules say that a tree's needed slots hold.
use Prim.Native.Nat.{ℕ, ◌+◌, ◌-◌, ◌*◌, ◌≤◌}
use Rattle.std.specs.Prelude.{◌≡◌, refl, List, [], ◌++◌, map, Float}
use Rattle.std.proofs.Math.Path.{sym, ap, ap₂}
use Rattle.std.proofs.Common.{◌∙◌, drop-drop}
use Rattle.std.proofs.Math.Nat.{add-mul}
use native.Mathlib.Omega.{arith}
use Rattle.std.proofs.Math.ListN.{length, take, drop, length-append, length-drop}
use Rattle.std.proofs.Math.Seq.{take_all, drop_at, length-take-le}
use Rattle.binary64.specs.Operators.{f0}
use Rattle.feature.specs.declared.Summary.{Summary}
use Rattle.head.specs.declared.Settings.{Settings}
use Rattle.head.specs.declared.Counters.{Counters}
use Rattle.head.specs.Limits.{Sized}
use Rattle.head.specs.Sizes.{node_cap, entry_cap, slot_width, block_width, floats_needed, links_needed}
use Rattle.rules.specs.Lists.{concat}
use Rattle.rules.specs.Tree.{Node}
use Rattle.rules.specs.Slices.{stretch, filled_to, summary_in, summary_out, node_in, block_out, slot_at, block_at, tree_of, floats_of, links_of}
use Rattle.rules.specs.Stored.{out_long, block_long}
use Rattle.rules.specs.Held.{in_shaped}
use Rattle.stretch.specs.Blocks.{block, list_in}
use Rattle.stretch.specs.Tidy.{tidy_slot, tidy_block}
use Rattle.stretch.specs.Stretches.{put_stretch, put_rest, room, take-stretch}
use Rattle.arena.specs.Tables.{table_same, map-table}
use Rattle.arena.specs.Pieces.{pieces_of, Keeps}
use Rattle.arena.specs.Trees.{Floats}

-- ---- a slot and a block stay as long as they are

pub slot_keeps : (s : Settings) → Sized s → Keeps (tidy_slot s) (slot_width s)
unfolding tidy_slot
slot_keeps s z p e = out_long s z (summary_in s p) (in_shaped s z p)

pub block_keeps : (s : Settings) → Sized s → Keeps (tidy_block s) (block_width s)
unfolding tidy_block
block_keeps s z b e = let k = block s b z e in block_long s z (node_in s [] b) (omega (arith, list_in s b k [], k.some))

-- ---- links

pub links_tidied : (s : Settings) (c : Counters) (fs : List Float) (ls : List ℕ) → length ls ≡ links_needed s
    → filled_to (length ls) 0 (pieces_of (tidy_block s) (block_width s) ls c.nodes) ≡ links_of s (tree_of s c fs ls)
unfolding pieces_of links_of tree_of tidy_block block_at
links_tidied s c fs ls e =
    let w = block_width s in
    let node : ℕ → Node = λ i. node_in s (slot_at s fs i) (stretch ls (i * w) w) in
    ap₂ (λ n l. filled_to n 0 (concat l)) e
    (table_same (λ i. block_out s (node_in s [] (stretch ls (i * w) w))) (λ i. block_out s (node i)) c.nodes (λ i h. unfold block_out node_in in refl)
    ∙ sym (map-table (block_out s) node c.nodes))

-- ---- floats

module _ (s : Settings) (c : Counters) (fs : List Float) (ls : List ℕ) (n : ℕ) (F : Floats s c n) (e : length fs ≡ floats_needed s) where
  w : ℕ
  w = slot_width s

  -- the nodes' slots, cut off at their cap
  nodes_part : pieces_of (tidy_slot s) w (take (node_cap s * w) fs) c.nodes ≡ concat (map (λ n. summary_out s n.summary) (tree_of s c fs ls).nodes)
  unfolding pieces_of tree_of tidy_slot slot_at w
  nodes_part =
      let node : ℕ → Node = λ i. node_in s (stretch fs (i * w) w) (block_at s ls i) in
      ap concat
      (table_same (λ i. summary_out s (summary_in s (stretch (take (node_cap s * w) fs) (i * w) w))) (λ i. summary_out s (node i).summary) c.nodes
      (λ i h. unfold node_in in ap (λ p. summary_out s (summary_in s p))
      (take-stretch fs (node_cap s * w) (i * w) w (room i (node_cap s) w (node_cap s * w) (let k = F.nodes_in in omega arith) (omega arith))))
      ∙ sym (map-table (λ (n : Node). summary_out s n.summary) node c.nodes))

  -- the entries' slots, behind them
  entries_part : pieces_of (tidy_slot s) w (drop (node_cap s * w) fs) c.entries ≡ concat (map (summary_out s) (tree_of s c fs ls).entries)
  unfolding pieces_of tree_of tidy_slot slot_at w
  entries_part =
      let entry : ℕ → Summary = λ i. summary_in s (stretch fs ((node_cap s + i) * w) w) in
      ap concat
      (table_same (λ i. summary_out s (summary_in s (stretch (drop (node_cap s * w) fs) (i * w) w))) (λ i. summary_out s (entry i)) c.entries
      (λ i h. ap (λ p. summary_out s (summary_in s p)) (unfold stretch in ap (take w)
      (drop-drop (i * w) (node_cap s * w) fs ∙ ap (λ j. drop j fs) (sym (add-mul (node_cap s) i w)))))
      ∙ sym (map-table (summary_out s) entry c.entries))

  -- the front a and the rest b, each written by a loop over its slots
  pub floats_tidied : (k j : ℕ) (a b : List Float) → k ≡ node_cap s * slot_width s → j ≡ k
      → length a ≡ length (take j fs)
      → a ≡ filled_to (length (take j fs)) f0 (pieces_of (tidy_slot s) (slot_width s) (take j fs) c.nodes)
      → b ≡ filled_to (length (take (length (put_stretch fs 0 j a) - k) (drop k (put_stretch fs 0 j a)))) f0
      (pieces_of (tidy_slot s) (slot_width s) (take (length (put_stretch fs 0 j a) - k) (drop k (put_stretch fs 0 j a))) c.entries)
      → put_stretch (put_stretch fs 0 j a) k (length (put_stretch fs 0 j a) - k) b ≡ floats_of s (tree_of s c fs ls)
  unfolding put_stretch floats_of floats_needed w
  floats_tidied k j a b ek ej la ea eb =
      let cap = node_cap s * w in
      let whole : (node_cap s + entry_cap s) * w ≡ cap + entry_cap s * w = add-mul (node_cap s) (entry_cap s) w in
      let fits : cap ≤ length fs = omega arith in
      let front : length (take j fs) ≡ cap = length-take-le j fs (omega arith) ∙ ej ∙ ek in
      let long : length (a ++ drop j fs) ≡ length fs = length-append a (drop j fs) ∙ ap₂ (λ x y. x + y) (la ∙ front) (length-drop j fs) ∙ omega arith in
      let behind : drop k (a ++ drop j fs) ≡ drop cap fs = drop_at a (drop j fs) k (la ∙ front ∙ sym ek) ∙ ap (λ x. drop x fs) (ej ∙ ek) in
      let count : length (drop cap fs) ≡ entry_cap s * w = length-drop cap fs ∙ omega arith in
      let lent : take (length (a ++ drop j fs) - k) (drop k (a ++ drop j fs)) ≡ drop cap fs =
      ap (take (length (a ++ drop j fs) - k)) behind ∙ take_all (length (a ++ drop j fs) - k) (drop cap fs) (omega arith) in
      let one : a ≡ filled_to cap f0 (concat (map (λ n. summary_out s n.summary) (tree_of s c fs ls).nodes)) =
      ea ∙ ap₂ (λ x l. filled_to x f0 l) front (ap (λ x. pieces_of (tidy_slot s) w (take x fs) c.nodes) (ej ∙ ek) ∙ nodes_part) in
      let two : b ≡ filled_to (entry_cap s * w) f0 (concat (map (summary_out s) (tree_of s c fs ls).entries)) =
      eb ∙ ap (λ l. filled_to (length l) f0 (pieces_of (tidy_slot s) w l c.entries)) lent ∙ ap₂ (λ x l. filled_to x f0 l) count entries_part in
      put_rest a (drop j fs) b k (length (a ++ drop j fs) - k) (la ∙ front ∙ sym ek) (length-drop j fs ∙ omega arith) ∙ ap₂ (λ x y. x ++ y) one two

-- Reading back what was stored: a tree that fits its slots is the one that its floats and links hold, whatever lies behind them.
use Prim.Native.Nat.{ℕ, suc, ◌+◌, ◌-◌, ◌*◌, ◌%◌, ◌≤◌, ◌<◌}
use Rattle.std.specs.Prelude.{◌≡◌, Bool, get_or, Option, None, Some}
use Rattle.std.proofs.Math.Path.{refl, ap, ap₂}
use Rattle.std.proofs.Common.{sym, ◌∙◌, ⊎_elim, mul-le-mul_right, length-append, length-take-le, get_or-take, ext_get_or}
use Rattle.std.proofs.Math.Bool.{true, false}
use mathlib.Core.List.{List, [], ◌∷◌, ◌++◌, map, append_assoc}
use Rattle.std.proofs.Math.Nat.{add-mul}
use native.Mathlib.Omega.{arith}
use borrow.Author.Tests.{eq-eqb, ne_eqb}
use Rattle.std.proofs.Math.ListN.{length, take, drop, replicate, length-map, get_or-append}
use Rattle.std.proofs.lemmas.List.{get_or-replicate}
use Rattle.std.proofs.Math.Seq.{take_at, drop_at}
use Rattle.std.specs.Float.Ieee.{Float}
use Rattle.std.specs.Float.{nan}
use Rattle.binary64.specs.Operators.{f0}
use Rattle.kernels.specs.Channels.{at, up_to}
use Rattle.kernels.specs.Laws.{length-up_to, up_to-below, up_to_past}
use Rattle.feature.specs.Summaries.{slots_of, blank}
use Rattle.feature.specs.Shape.{Eight, Shaped}
use Rattle.feature.specs.declared.Summary.{Summary}
use Rattle.feature.specs.declared.Feature.{Feature}
use Rattle.feature.specs.declared.Feature.TheVariants.{Spherical, Diagonal}
use Rattle.head.specs.declared.Settings.{Settings}
use Rattle.head.specs.Limits.{Sized}
use Rattle.head.specs.Sizes.{node_cap, entry_cap, slot_width, block_width}
use Rattle.rules.specs.Lists.{concat}
use Rattle.rules.specs.Tree.{Node, Tree, node_at, entry_at, blank_node}
use Rattle.rules.specs.Slices.{stretch, filled_to, eight, summary_in, summary_out, no_parent, parent_in, parent_out, leaf_in, length_in, kind_out, node_in, block_out, slot_at, block_at, tree_of, counters_of, floats_of, links_of}
use Rattle.rules.specs.ListLaws.{below?, table_is, EachLong, length-concat, piece_at, stretch_past, length-filled, map_at}

-- what fits its slots: no more nodes and entries than there are, no list longer than its block, no parent that is the reserved number
pub record Fits (s : Settings) (t : Tree) : Type 0 where
  pub nodes_few : length t.nodes ≤ node_cap s
  pub entries_few : length t.entries ≤ entry_cap s
  pub lists_few : (i : ℕ) → i < length t.nodes → length (node_at t i).list ≤ block_width s - 2
  pub parents : (i : ℕ) → i < length t.nodes → (node_at t i).parent ≡ Some no_parent → ⊥
  pub nodes_shaped : (i : ℕ) → i < length t.nodes → Shaped s.feature s.dim (node_at t i).summary
  pub entries_shaped : (i : ℕ) → i < length t.entries → Shaped s.feature s.dim (entry_at t i)

-- ---- a summary

-- the first n of a list, with anything behind them
eight_is : (n : ℕ) (l rest : List Float) → n ≤ 8 → Eight l n → eight n (take n l ++ rest) ≡ l
unfolding eight
eight_is n l rest h e =
    ext_get_or nan (up_to (at (take n l ++ rest)) n (replicate 8 f0)) l (length-up_to _ n (replicate 8 f0) ∙ sym e.long)
    (λ i p. let q : i < 8 = rw (length-up_to (at (take n l ++ rest)) n (replicate 8 f0)) at p in ⊎_elim (front i) (λ k. back i k q) (below? i n))
  where
    front : (i : ℕ) → i < n → at (up_to (at (take n l ++ rest)) n (replicate 8 f0)) i ≡ at l i
    front i k =
        up_to-below _ n (replicate 8 f0) i h k
        ∙ get_or-append (take n l) rest nan i (rw (length-take-le n l (rw e.long h)) k)
        ∙ get_or-take n l i nan k

    back : (i : ℕ) → n ≤ i → i < 8 → at (up_to (at (take n l ++ rest)) n (replicate 8 f0)) i ≡ at l i
    back i k q = up_to_past _ n (replicate 8 f0) i k ∙ get_or-replicate 8 i f0 nan q ∙ sym (e.zeros i k q)

module _ (s : Settings) (z : Sized s) where
  pub slots_in_lem : slots_of s.feature s.dim ≤ s.dim
  unfolding slots_of
  slots_in_lem = go s.feature
    where
      go : (f : Feature) → slots_of f s.dim ≤ s.dim
      go Spherical = z.dim_some
      go Diagonal = omega arith

  pub means_long : (c : Summary) → Shaped s.feature s.dim c → length (take s.dim c.mean) ≡ s.dim
  means_long c h = length-take-le s.dim c.mean (rw h.means.long z.dim_few)

  pub deviations_long : (c : Summary) → Shaped s.feature s.dim c → length (take (slots_of s.feature s.dim) c.deviation) ≡ slots_of s.feature s.dim
  deviations_long c h = let p = slots_in_lem in length-take-le (slots_of s.feature s.dim) c.deviation (let q = z.dim_few in rw h.deviations.long (omega arith))

  pub out_long : (c : Summary) → Shaped s.feature s.dim c → length (summary_out s c) ≡ slot_width s
  unfolding summary_out slot_width
  out_long c h =
      let p = slots_in_lem in
      let d = length-filled s.dim f0 (take (slots_of s.feature s.dim) c.deviation) (rw (deviations_long c h) p) in
      ap suc (length-append (take s.dim c.mean) (filled_to s.dim f0 (take (slots_of s.feature s.dim) c.deviation))) ∙ rw (means_long c h, d) (omega arith)

  pub summary_back : (c : Summary) → Shaped s.feature s.dim c → summary_in s (summary_out s c) ≡ c
  unfolding summary_in summary_out filled_to
  summary_back c h =
      let n = s.dim in
      let k = slots_of s.feature s.dim in
      let tail = take k c.deviation ++ replicate (n - length (take k c.deviation)) f0 in
      let few = z.dim_few in
      let p = slots_in_lem in
      let one_more_lem : 1 + n ≡ suc n = omega arith in
      let means : eight n (take n c.mean ++ tail) ≡ c.mean = eight_is n c.mean tail few h.means in
      let gone : drop n (take n c.mean ++ tail) ≡ tail = drop_at (take n c.mean) tail n (means_long c h) in
      let rest : eight k tail ≡ c.deviation = eight_is k c.deviation (replicate (n - length (take k c.deviation)) f0) (omega arith) h.deviations in
      ap₂ (λ (m v : List Float). summary_of c.weight m v) means (ap (eight k) (ap (λ j. drop j (summary_out s c)) one_more_lem ∙ gone) ∙ rest)
    where
      summary_of : Float → List Float → List Float → Summary
      summary_of w m v = record { weight = w; mean = m; deviation = v }

  -- ---- a node's links

  pub parent_back : (p : Option ℕ) → (p ≡ Some no_parent → ⊥) → parent_in (parent_out p) ≡ p
  unfolding parent_in parent_out
  parent_back None h = refl
  parent_back (Some p) h = rw (ne_eqb p no_parent (λ e. h (ap Some e)))

  pub leaf_back : (b : Bool) (n : ℕ) → leaf_in (kind_out b n) ≡ b
  unfolding leaf_in kind_out
  leaf_back true n = eq-eqb ((2 * n + 1) % 2) 1 (omega arith)
  leaf_back false n = ne_eqb ((2 * n) % 2) 1 (λ e. omega arith)

  pub length_back : (b : Bool) (n : ℕ) → n ≤ block_width s - 2 → length_in s (kind_out b n) ≡ n
  unfolding length_in kind_out
  length_back true n h = omega arith
  length_back false n h = omega arith

  pub block_long : (n : Node) → length n.list ≤ block_width s - 2 → length (block_out s n) ≡ block_width s
  unfolding block_out block_width
  block_long n h = length-filled (block_width s) 0 (parent_out n.parent ∷ kind_out n.leaf (length n.list) ∷ n.list) (omega arith)

  pub node_back : (n : Node) → length n.list ≤ block_width s - 2 → (n.parent ≡ Some no_parent → ⊥) → Shaped s.feature s.dim n.summary
      → node_in s (summary_out s n.summary) (block_out s n) ≡ n
  unfolding node_in block_out filled_to
  node_back n h p c =
      rw (summary_back n.summary c, length_back n.leaf (length n.list) h, leaf_back n.leaf (length n.list), parent_back n.parent p, take_at n.list (replicate (block_width s - suc (suc (length n.list))) 0) (length n.list) refl)

  -- ---- the tree

  module _ (t : Tree) (fits : Fits s t) where
    pub slots_long : (ns : List Node) → ((i : ℕ) → i < length ns → Shaped s.feature s.dim (get_or ns i blank_node).summary) → EachLong (slot_width s) (map (λ n. summary_out s n.summary) ns)
    slots_long [] h = tt
    slots_long (n ∷ ns) h = (out_long n.summary (h 0 (omega arith)), slots_long ns (λ i p. h (suc i) (omega arith)))

    pub entries_long : (es : List Summary) → ((i : ℕ) → i < length es → Shaped s.feature s.dim (get_or es i blank)) → EachLong (slot_width s) (map (summary_out s) es)
    entries_long [] h = tt
    entries_long (e ∷ es) h = (out_long e (h 0 (omega arith)), entries_long es (λ i p. h (suc i) (omega arith)))

    pub blocks_long : (ns : List Node) → ((i : ℕ) → i < length ns → length (get_or ns i blank_node).list ≤ block_width s - 2) → EachLong (block_width s) (map (block_out s) ns)
    blocks_long [] h = tt
    blocks_long (n ∷ ns) h = (block_long n (h 0 (omega arith)), blocks_long ns (λ i p. h (suc i) (omega arith)))

    pub node_slot : (fs : List Float) (i : ℕ) → i < length t.nodes → slot_at s (floats_of s t ++ fs) i ≡ summary_out s (node_at t i).summary
    unfolding slot_at floats_of filled_to node_at
    node_slot fs i l =
        let slots = map (λ (n : Node). summary_out s n.summary) t.nodes in
        let long = slots_long t.nodes fits.nodes_shaped in
        simp append_assoc
        (piece_at (slot_width s) slots _ i long (rw (length-map t.nodes (λ (n : Node). summary_out s n.summary)) l)
        ∙ map_at (λ (n : Node). summary_out s n.summary) t.nodes i blank_node [] l)

    pub node_block : (ls : List ℕ) (i : ℕ) → i < length t.nodes → block_at s (links_of s t ++ ls) i ≡ block_out s (node_at t i)
    unfolding block_at links_of filled_to node_at
    node_block ls i l =
        simp append_assoc
        (piece_at (block_width s) (map (block_out s) t.nodes) _ i (blocks_long t.nodes fits.lists_few) (rw (length-map t.nodes (block_out s)) l)
        ∙ map_at (block_out s) t.nodes i blank_node [] l)

    unfoldable pub nodes_part : List Float
    nodes_part = filled_to (node_cap s * slot_width s) f0 (concat (map (λ n. summary_out s n.summary) t.nodes))

    pub nodes_part_long : length nodes_part ≡ node_cap s * slot_width s
    unfolding nodes_part node_at
    nodes_part_long =
        let out : Node → List Float = λ n. summary_out s n.summary in
        let long = length-concat (slot_width s) (map out t.nodes) (slots_long t.nodes fits.nodes_shaped) in
        length-filled (node_cap s * slot_width s) f0 (concat (map out t.nodes)) (rw (long, length-map t.nodes out) (mul-le-mul_right (slot_width s) fits.nodes_few))

    entry_piece : (fs : List Float) (i : ℕ) → i < length t.entries
        → stretch (filled_to (entry_cap s * slot_width s) f0 (concat (map (summary_out s) t.entries)) ++ fs) (i * slot_width s) (slot_width s) ≡ summary_out s (entry_at t i)
    unfolding filled_to entry_at
    entry_piece fs i l =
        simp append_assoc
        (piece_at (slot_width s) (map (summary_out s) t.entries) _ i (entries_long t.entries fits.entries_shaped) (rw (length-map t.entries (summary_out s)) l)
        ∙ map_at (summary_out s) t.entries i blank [] l)

    pub entry_slot : (fs : List Float) (i : ℕ) → i < length t.entries → slot_at s (floats_of s t ++ fs) (node_cap s + i) ≡ summary_out s (entry_at t i)
    unfolding slot_at floats_of nodes_part
    entry_slot fs i l =
        let rest = filled_to (entry_cap s * slot_width s) f0 (concat (map (summary_out s) t.entries)) in
        rw (append_assoc nodes_part rest fs, add-mul (node_cap s) i (slot_width s))
        (stretch_past nodes_part (rest ++ fs) (node_cap s * slot_width s) (i * slot_width s) (slot_width s) nodes_part_long ∙ entry_piece fs i l)

    node_stored : (fs : List Float) (ls : List ℕ) (i : ℕ) → i < length t.nodes
        → node_in s (slot_at s (floats_of s t ++ fs) i) (block_at s (links_of s t ++ ls) i) ≡ node_at t i
    node_stored fs ls i l =
        ap₂ (node_in s) (node_slot fs i l) (node_block ls i l) ∙ node_back (node_at t i) (fits.lists_few i l) (fits.parents i l) (fits.nodes_shaped i l)

    entry_stored : (fs : List Float) (i : ℕ) → i < length t.entries → summary_in s (slot_at s (floats_of s t ++ fs) (node_cap s + i)) ≡ entry_at t i
    entry_stored fs i l = ap (summary_in s) (entry_slot fs i l) ∙ summary_back (entry_at t i) (fits.entries_shaped i l)

    -- the tree is the one that its floats and links hold, whatever lies behind them
    pub stored : (fs : List Float) (ls : List ℕ) → tree_of s (counters_of t) (floats_of s t ++ fs) (links_of s t ++ ls) ≡ t
    unfolding tree_of counters_of node_at entry_at
    stored fs ls =
        ap₂ (λ (ns : List Node) (es : List Summary). with_both ns es)
        (table_is (λ i. node_in s (slot_at s (floats_of s t ++ fs) i) (block_at s (links_of s t ++ ls) i)) t.nodes blank_node (node_stored fs ls))
        (table_is (λ i. summary_in s (slot_at s (floats_of s t ++ fs) (node_cap s + i))) t.entries blank (entry_stored fs))
      where
        with_both : List Node → List Summary → Tree
        with_both ns es = record { nodes = ns; entries = es; root = t.root; running = t.running }

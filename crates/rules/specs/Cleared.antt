-- What an accepted changing call leaves of the lent slices, word by word: zeros past the counts and in scratch, and each buffer's surplus as lent.
use Rattle.std.specs.Prelude.{ℕ, suc, ◌+◌, ◌-◌, ◌*◌, ◌≤◌, ◌<◌, ◌≡◌, List, ◌++◌, map, length, replicate, Float}
use Rattle.std.proofs.Math.Path.{sym, ap}
use Rattle.std.proofs.Common.{◌∙◌}
use Rattle.std.proofs.Math.Nat.{add-mul, mul-le-mul_right}
use native.Mathlib.Omega.{arith}
use Rattle.std.proofs.Math.ListN.{get_or, take, drop, length-append, get_or-append}
use Rattle.std.proofs.lemmas.List.{length-map, length-replicate, get_or-replicate}
use Rattle.std.proofs.Math.Seq.{get_or-append-add}
use Rattle.std.specs.Float.Ieee.{nan}
use Rattle.binary64.specs.Operators.{f0}
use Rattle.kernels.specs.Channels.{at}
use Rattle.feature.specs.Summaries.{slots_of}
use Rattle.feature.specs.Shape.{Shaped}
use Rattle.feature.specs.declared.Summary.{Summary}
use Rattle.head.specs.declared.Head.{Head}
use Rattle.head.specs.declared.Settings.{Settings}
use Rattle.head.specs.Heads.{settings_of, with_counters}
use Rattle.head.specs.Limits.{Sized}
use Rattle.head.specs.Sizes.{node_cap, entry_cap, slot_width, block_width, floats_needed, links_needed, scratch_floats_needed, scratch_links_needed}
use Rattle.rules.specs.Lists.{concat}
use Rattle.rules.specs.Tree.{Node, Tree, node_at, entry_at}
use Rattle.rules.specs.Slices.{filled_to, summary_out, block_out, slot_at, block_at, floats_of, links_of}
use Rattle.rules.specs.ListLaws.{length-concat, length-filled}
use Rattle.rules.specs.Stored.{Fits, means_long, deviations_long, slots_long, entries_long, blocks_long, node_slot, node_block, entry_slot, nodes_part, nodes_part_long, stored}
use Rattle.rules.specs.Calls.{Lent, Left, lent_tree, fronted, changed}
use Rattle.rules.specs.Fronted.{past_at, filled_past, front_new, behind_old, stretch-at}

-- ---- what is left of the two slices that hold the tree t, fs and ls as they were, gs and ks as they are

pub record Cleared (s : Settings) (t : Tree) (fs gs : List Float) (ls ks : List ℕ) : Type 0 where
  -- needed slots past the node and entry counts are zero
  pub nodes : (i : ℕ) → length t.nodes * slot_width s ≤ i → i < node_cap s * slot_width s → at gs i ≡ f0
  pub entries : (i : ℕ) → (node_cap s + length t.entries) * slot_width s ≤ i → i < floats_needed s → at gs i ≡ f0
  pub blocks : (i d : ℕ) → length t.nodes * block_width s ≤ i → i < links_needed s → get_or ks i d ≡ 0
  -- and so past the count of a list
  pub lists : (k j d : ℕ) → k < length t.nodes → 2 + length (node_at t k).list ≤ j → j < block_width s → get_or ks (k * block_width s + j) d ≡ 0
  -- of Spherical's deviation slots one is used, and the rest are zero
  pub node_deviations : (k j : ℕ) → k < length t.nodes → slots_of s.feature s.dim ≤ j → j < s.dim → at gs (k * slot_width s + suc (s.dim + j)) ≡ f0
  pub entry_deviations : (k j : ℕ) → k < length t.entries → slots_of s.feature s.dim ≤ j → j < s.dim
      → at gs ((node_cap s + k) * slot_width s + suc (s.dim + j)) ≡ f0
  -- a buffer's surplus is untouched
  pub floats-surplus : (i : ℕ) (d : Float) → floats_needed s ≤ i → get_or gs i d ≡ get_or fs i d
  pub links_surplus : (i d : ℕ) → links_needed s ≤ i → get_or ks i d ≡ get_or ls i d

-- ---- and of scratch: zero as far as it is needed, and as lent behind

pub record Wiped (s : Settings) (fs gs : List Float) (ls ks : List ℕ) : Type 0 where
  pub floats : (i : ℕ) → i < scratch_floats_needed s → at gs i ≡ f0
  pub links : (i d : ℕ) → i < scratch_links_needed s → get_or ks i d ≡ 0
  pub floats-surplus : (i : ℕ) (d : Float) → scratch_floats_needed s ≤ i → get_or gs i d ≡ get_or fs i d
  pub links_surplus : (i d : ℕ) → scratch_links_needed s ≤ i → get_or ks i d ≡ get_or ls i d

module _ (s : Settings) (z : Sized s) (t : Tree) (f : Fits s t) where
  abbrev node_words : List Float
  node_words = concat (map (λ (n : Node). summary_out s n.summary) t.nodes)

  abbrev entry_words : List Float
  entry_words = concat (map (summary_out s) t.entries)

  abbrev block_words : List ℕ
  block_words = concat (map (block_out s) t.nodes)

  node_words_long : length node_words ≡ length t.nodes * slot_width s
  unfolding node_at
  node_words_long =
      length-concat (slot_width s) (map (λ (n : Node). summary_out s n.summary) t.nodes) (slots_long s z t f t.nodes f.nodes_shaped)
      ∙ ap (λ k. k * slot_width s) (length-map t.nodes (λ (n : Node). summary_out s n.summary))

  entry_words_long : length entry_words ≡ length t.entries * slot_width s
  unfolding entry_at
  entry_words_long =
      length-concat (slot_width s) (map (summary_out s) t.entries) (entries_long s z t f t.entries f.entries_shaped)
      ∙ ap (λ k. k * slot_width s) (length-map t.entries (summary_out s))

  block_words_long : length block_words ≡ length t.nodes * block_width s
  unfolding node_at
  block_words_long =
      length-concat (block_width s) (map (block_out s) t.nodes) (blocks_long s z t f t.nodes f.lists_few)
      ∙ ap (λ k. k * block_width s) (length-map t.nodes (block_out s))

  entries_part_long : length (filled_to (entry_cap s * slot_width s) f0 entry_words) ≡ entry_cap s * slot_width s
  entries_part_long =
      let e = entry_words_long in
      let p = mul-le-mul_right (slot_width s) f.entries_few in
      length-filled (entry_cap s * slot_width s) f0 entry_words (omega arith)

  floats-whole : node_cap s * slot_width s + entry_cap s * slot_width s ≡ floats_needed s
  unfolding floats_needed
  floats-whole = sym (add-mul (node_cap s) (entry_cap s) (slot_width s))

  pub floats_long : length (floats_of s t) ≡ floats_needed s
  unfolding floats_of nodes_part
  floats_long =
      length-append (nodes_part s z t f) (filled_to (entry_cap s * slot_width s) f0 entry_words)
      ∙ (let a = nodes_part_long s z t f in let b = entries_part_long in let c = floats-whole in omega arith)

  pub links_long : length (links_of s t) ≡ links_needed s
  unfolding links_of links_needed
  links_long =
      let e = block_words_long in
      let p = mul-le-mul_right (block_width s) f.nodes_few in
      length-filled (node_cap s * block_width s) 0 block_words (omega arith)

  nodes_zero : (i : ℕ) → length t.nodes * slot_width s ≤ i → i < node_cap s * slot_width s → at (floats_of s t) i ≡ f0
  unfolding floats_of nodes_part
  nodes_zero i a b =
      let e = node_words_long in
      let long = nodes_part_long s z t f in
      get_or-append (nodes_part s z t f) (filled_to (entry_cap s * slot_width s) f0 entry_words) nan i (omega arith)
      ∙ filled_past (node_cap s * slot_width s) f0 nan node_words i (omega arith) b

  entries_zero : (i : ℕ) → (node_cap s + length t.entries) * slot_width s ≤ i → i < floats_needed s → at (floats_of s t) i ≡ f0
  unfolding floats_of nodes_part
  entries_zero i a b =
      let long = nodes_part_long s z t f in
      let p = add-mul (node_cap s) (length t.entries) (slot_width s) in
      let w = floats-whole in
      let e = entry_words_long in
      let rest = filled_to (entry_cap s * slot_width s) f0 entry_words in
      past_at (nodes_part s z t f) rest (node_cap s * slot_width s) i nan long (omega arith)
      ∙ filled_past (entry_cap s * slot_width s) f0 nan entry_words (i - node_cap s * slot_width s) (omega arith) (omega arith)

  blocks_zero : (i d : ℕ) → length t.nodes * block_width s ≤ i → i < links_needed s → get_or (links_of s t) i d ≡ 0
  unfolding links_of
  blocks_zero i d a b = let e = block_words_long in filled_past (links_needed s) 0 d block_words i (omega arith) b

  spare_deviations : (c : Summary) → Shaped s.feature s.dim c → (j : ℕ) → slots_of s.feature s.dim ≤ j → j < s.dim
      → at (summary_out s c) (suc (s.dim + j)) ≡ f0
  unfolding summary_out
  spare_deviations c h j a b =
      let front = take s.dim c.mean in
      let back = take (slots_of s.feature s.dim) c.deviation in
      let e = means_long s z c h in
      let g = deviations_long s z c h in
      ap (λ k. at (front ++ filled_to s.dim f0 back) (k + j)) (sym e)
      ∙ get_or-append-add front (filled_to s.dim f0 back) j nan
      ∙ filled_past s.dim f0 nan back j (omega arith) b

  spare_places : (n : Node) (j d : ℕ) → 2 + length n.list ≤ j → j < block_width s → get_or (block_out s n) j d ≡ 0
  unfolding block_out
  spare_places n j d a b = filled_past (block_width s) 0 d _ j (omega arith) b

  -- ---- the words of a node, an entry and a block, in front of anything

  pub node_word : (k j : ℕ) (fs : List Float) → k < length t.nodes → j < slot_width s
      → at (fronted (floats_of s t) fs) (k * slot_width s + j) ≡ at (summary_out s (node_at t k).summary) j
  unfolding fronted slot_at
  node_word k j fs n b =
      let rest = drop (length (floats_of s t)) fs in
      sym (stretch-at (floats_of s t ++ rest) (k * slot_width s) (slot_width s) j nan b) ∙ ap (λ p. at p j) (node_slot s z t f rest k n)

  pub entry_word : (k j : ℕ) (fs : List Float) → k < length t.entries → j < slot_width s
      → at (fronted (floats_of s t) fs) ((node_cap s + k) * slot_width s + j) ≡ at (summary_out s (entry_at t k)) j
  unfolding fronted slot_at
  entry_word k j fs n b =
      let rest = drop (length (floats_of s t)) fs in
      sym (stretch-at (floats_of s t ++ rest) ((node_cap s + k) * slot_width s) (slot_width s) j nan b) ∙ ap (λ p. at p j) (entry_slot s z t f rest k n)

  pub block_word : (k j d : ℕ) (ls : List ℕ) → k < length t.nodes → j < block_width s
      → get_or (fronted (links_of s t) ls) (k * block_width s + j) d ≡ get_or (block_out s (node_at t k)) j d
  unfolding fronted block_at
  block_word k j d ls n b =
      let rest = drop (length (links_of s t)) ls in
      sym (stretch-at (links_of s t ++ rest) (k * block_width s) (block_width s) j d b) ∙ ap (λ p. get_or p j d) (node_block s z t f rest k n)

  slot_end : (j : ℕ) → j < s.dim → suc (s.dim + j) < slot_width s
  unfolding slot_width
  slot_end j b = omega arith

  node_in_lem : (i : ℕ) → i < node_cap s * slot_width s → i < length (floats_of s t)
  node_in_lem i b = let e = floats_long in let w = floats-whole in omega arith

-- the tree that a changing call leaves in the slices is the one that its rule gives
pub changed-tree : (h : Head) (l : Lent) (t : Tree) → Sized (settings_of h) → Fits (settings_of h) t
    → lent_tree (changed h l t).head (changed h l t).lent.floats (changed h l t).lent.links ≡ t
unfolding changed lent_tree fronted settings_of with_counters
changed-tree h l t z f =
    stored (settings_of h) z t f (drop (length (floats_of (settings_of h) t)) l.floats) (drop (length (links_of (settings_of h) t)) l.links)

-- and beside it all is zero or as lent
pub changed_wiped : (h : Head) (l : Lent) (t : Tree)
    → Wiped (settings_of h) l.scratch_floats (changed h l t).lent.scratch_floats l.scratch_links (changed h l t).lent.scratch_links
unfolding changed
changed_wiped h l t =
    let n = scratch_floats_needed (settings_of h) in
    let m = scratch_links_needed (settings_of h) in
    let e = length-replicate n f0 in
    let g = length-replicate {A = ℕ} m 0 in
    record {
      floats = (λ i a. front_new (replicate n f0) l.scratch_floats i nan (omega arith) ∙ get_or-replicate n i f0 nan a);
      links = (λ i d a. front_new (replicate m 0) l.scratch_links i d (omega arith) ∙ get_or-replicate m i 0 d a);
      floats-surplus = (λ i d a. behind_old (replicate n f0) l.scratch_floats i d (omega arith));
      links_surplus = (λ i d a. behind_old (replicate m 0) l.scratch_links i d (omega arith));
    }

-- a tree in front of two slices
module _ (s : Settings) (z : Sized s) (t : Tree) (f : Fits s t) (fs : List Float) (ls : List ℕ) where
  pub stored-cleared : Cleared s t fs (fronted (floats_of s t) fs) ls (fronted (links_of s t) ls)
  stored-cleared =
      let fl = floats_long s z t f in
      let ll = links_long s z t f in
      record {
        nodes = (λ i a b. front_new (floats_of s t) fs i nan (node_in_lem s z t f i b) ∙ nodes_zero s z t f i a b);
        entries = (λ i a b. front_new (floats_of s t) fs i nan (omega arith) ∙ entries_zero s z t f i a b);
        blocks = (λ i d a b. front_new (links_of s t) ls i d (omega arith) ∙ blocks_zero s z t f i d a b);
        lists = (λ k j d n a b. block_word s z t f k j d ls n b ∙ spare_places s z t f (node_at t k) j d a b);
        node_deviations = (λ k j n a b. node_word s z t f k _ fs n (slot_end s z t f j b) ∙ spare_deviations s z t f _ (f.nodes_shaped k n) j a b);
        entry_deviations = (λ k j n a b. entry_word s z t f k _ fs n (slot_end s z t f j b) ∙ spare_deviations s z t f _ (f.entries_shaped k n) j a b);
        floats-surplus = (λ i d a. behind_old (floats_of s t) fs i d (omega arith));
        links_surplus = (λ i d a. behind_old (links_of s t) ls i d (omega arith));
      }

-- what an outcome leaves of the four slices, by the tree that it leaves in them
abbrev pub Clears : Head → Lent → Left → Type 0
Clears h l o =
    Cleared (settings_of h) (lent_tree o.head o.lent.floats o.lent.links) l.floats o.lent.floats l.links o.lent.links
    × Wiped (settings_of h) l.scratch_floats o.lent.scratch_floats l.scratch_links o.lent.scratch_links

pub changed_clears : (h : Head) (l : Lent) (t : Tree) → Sized (settings_of h) → Fits (settings_of h) t → Clears h l (changed h l t)
changed_clears h l t z f =
    let cleared : Cleared (settings_of h) t l.floats (changed h l t).lent.floats l.links (changed h l t).lent.links =
    unfold changed in stored-cleared (settings_of h) z t f l.floats l.links in
    (rw (changed-tree h l t z f) cleared, changed_wiped h l t)

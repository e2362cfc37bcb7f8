-- Room at every moment of a row's growing, and of a reinsertion, which rebuild and refit share.
use Rattle.std.specs.Prelude.{ℕ, suc, ◌+◌, ◌≤◌, ◌<◌, ◌≡◌, List, [], ◌∷◌, map, reverse, Float, Bool, true, false}
use Rattle.std.proofs.Math.Path.{ap}
use Rattle.std.proofs.Common.{◌∙◌, inr, arith}
use Rattle.std.proofs.Math.ListN.{length}
use Rattle.binary64.specs.Whole.{most}
use Rattle.feature.specs.declared.Summary.{Summary}
use Rattle.head.specs.declared.Settings.{Settings}
use Rattle.head.specs.Limits.{Sized}
use Rattle.head.specs.Sizes.{entry_cap}
use Rattle.rules.specs.Tree.{Tree, node_at, entry_at, blank_node, dist_to, dist_between, with_nodes, row_count}
use Rattle.rules.specs.Descent.{leaf_for, along_path}
use Rattle.rules.specs.Split.{split_from}
use Rattle.rules.specs.Insert.{grown_at, grown, row_item, Item, summary_item, placed}
use Rattle.rules.specs.Reinsert.{collected, cleared, replaced, replaced_all, reinserted}
use Rattle.rules.specs.Check.{total_of}
use Rattle.counting.specs.Lists.{snoc-length}
use Rattle.laws.specs.Invariant.Weights.{IsExact}
use Rattle.laws.specs.Invariant.Beneath.{Frame}
use Rattle.laws.specs.Invariant.Sound.{Caps, caps_of, entry_weight}
use Rattle.laws.specs.Inserting.Grown.{Counted, path_length, path_leaf}
use Rattle.laws.specs.Inserting.First.{Holding, leaf-of}
use Rattle.laws.specs.Rebuilding.Reinsert.{Rows, place_entries, list_rows, list_total, list_length, cleared_holds}
use Rattle.laws.specs.Room.Nodes.{Roomy, Within, within-roomy, Splitting, splitting_end, splitting-roomy}
use Rattle.laws.specs.Room.Kept.{holding_room}
use Rattle.laws.specs.ForCode.{sure_of, path_kids}
use Rattle.laws.specs.Check.Both.{AtRest}
use Rattle.laws.specs.Inserting.Items.{Weighty, row_weighty, summary_weighty, item_placed, item_placed_lem, in_leaf_more, found, replaced_holds}

-- ---- an item in at leaf l, searched for or begun

-- the trees that it goes through
pub data Entering (s : Settings) (i : Item) (b : Bool) (l : ℕ) (t : Tree) : Tree → Type 0 where
  start : Entering s i b l t t
  pushed : Entering s i b l t (along_path i.taken l t)
  splits : {u : Tree} → Splitting s l (item_placed i b l t) u → Entering s i b l t u

entering_end : (s : Settings) (i : Item) (b : Bool) (l : ℕ) (t : Tree) → Entering s i b l t (split_from s l (item_placed i b l t))
unfolding split_from
entering_end s i b l t = splits (splitting_end s (length (item_placed i b l t).nodes) l (item_placed i b l t))

pub holding_roomy : (s : Settings) (t : Tree) (rows : ℕ) → Holding s t rows → length t.entries ≤ s.max_leaves + 1 → Roomy s t
unfolding entry_cap
holding_roomy s t rows k h =
    let u = sure_of s t rows k in
    record { nodes = holding_room s t rows k h; entries = h; lists = (λ i l. let q = u.fits i l in omega arith) }

path_within : (F : Summary → Summary) (l : ℕ) (t : Tree) → Within t (along_path F l t)
path_within F l t = record {
  nodes = path_length F l t;
  entries = (unfold along_path with_nodes in omega arith);
  leaf = path_leaf F l t;
  lists = (λ i. let c : length (node_at (along_path F l t) i).list ≡ length (node_at t i).list = ap (λ k. length k) (path_kids F l t i) in omega arith);
}

-- every one of them
pub entering_roomy : {s : Settings} → Caps s → (i : Item) → Weighty i → (b : Bool) (l : ℕ) (t : Tree) {u : Tree} (total : ℕ) → Holding s t total
    → l < length t.nodes → (node_at t l).leaf ≡ true → total + i.rows ≤ most → length t.entries ≤ s.max_leaves → Entering s i b l t u → Roomy s u
entering_roomy {s} c i ok b l t total k here leaf h few start = holding_roomy s t total k (omega arith)
entering_roomy {s} c i ok b l t total k here leaf h few pushed = within-roomy (path_within i.taken l t) (holding_roomy s t total k (omega arith))
entering_roomy {s} c i ok b l t total k here leaf h few (splits w) =
    let p = item_placed_lem i ok b l t total k here leaf h in
    let m = in_leaf_more i b l t in
    splitting-roomy c p.1.looking p.1.here (omega arith) w

-- ---- a row's growing

abbrev pub Growing : Settings → List Float → Tree → Tree → Type 0
Growing s x t u = Entering s (row_item s x) true (leaf_for t (λ c. dist_to s c x)) t u

-- the last of its trees is the rule's
pub growing_end : (s : Settings) (x : List Float) (t : Tree) → Growing s x t (grown s (row_item s x) t)
unfolding grown grown_at placed found
growing_end s x t = entering_end s (row_item s x) true (leaf_for t (λ c. dist_to s c x)) t

pub growing-roomy : {s : Settings} → Sized s → (x : List Float) (t : Tree) {u : Tree} {rows : ℕ} → AtRest s t rows → rows < most → Growing s x t u → Roomy s u
growing-roomy {s} z x t {u} {rows} r h w =
    let (here, leaf) = leaf-of s t rows (λ c. dist_to s c x) r.holds in
    entering_roomy (caps_of z) (row_item s x) (row_weighty s x) true (leaf_for t (λ c. dist_to s c x)) t rows r.holds here leaf (omega arith) r.few w

-- ---- a reinsertion: the entries es placed one after the other from t on

pub data Replacing (s : Settings) : List Summary → Tree → Tree → Type 0 where
  start : {es : List Summary} {t : Tree} → Replacing s es t t
  entry : {e : Summary} {es : List Summary} {t u : Tree} → Entering s (summary_item s e) false (leaf_for t (λ c. dist_between s c e)) t u → Replacing s (e ∷ es) t u
  next : {e : Summary} {es : List Summary} {t u : Tree} → Replacing s es (replaced s e t) u → Replacing s (e ∷ es) t u

-- every tree of a list of entries placed again
pub replacing_roomy : {s : Settings} → Caps s → (es : List Summary) (t : Tree) {u : Tree} (total : ℕ) → Holding s t total → Rows es → total + total_of es ≤ most
    → length t.entries + length es ≤ s.max_leaves + 1 → Replacing s es t u → Roomy s u
unfolding total_of
replacing_roomy {s} c es t total k r b h start = holding_roomy s t total k (omega arith)
replacing_roomy {s} c (e ∷ es) t total k r b h (entry w) =
    let (here, leaf) = leaf-of s t total (λ d. dist_between s d e) k in
    entering_roomy c (summary_item s e) (summary_weighty s e r.0 r.1) false (leaf_for t (λ d. dist_between s d e)) t total k here leaf (omega arith)
    (omega arith) w
replacing_roomy {s} c (e ∷ es) t total k r b h (next w) =
    let n : length (replaced s e t).entries ≡ suc (length t.entries) = ap (λ l. length l) (place_entries s e t) ∙ snoc-length t.entries e in
    replacing_roomy c es (replaced s e t) (total + row_count e) (inr (replaced_holds s e t total c k r.0 r.1 (omega arith))) r.2 (omega arith)
    (omega arith) w

-- ---- the whole of it, of the tree t

abbrev pub Reinserting : Settings → Tree → Tree → Type 0
Reinserting s t u = Replacing s (reverse (map (entry_at t) (collected t (length t.nodes) (t.root ∷ [])))) (cleared t) u

replacing_end : (s : Settings) (es : List Summary) (t : Tree) → Replacing s es t (replaced_all s es t)
unfolding replaced_all
replacing_end s [] t = start
replacing_end s (e ∷ es) t = next (replacing_end s es (replaced s e t))

pub reinserting_end : (s : Settings) (t : Tree) → Reinserting s t (reinserted s t)
unfolding reinserted
reinserting_end s t = replacing_end s (reverse (map (entry_at t) (collected t (length t.nodes) (t.root ∷ [])))) (cleared t)

-- every tree of a reinsertion
pub reinserting-roomy : {s : Settings} (t : Tree) {R : ℕ → ℕ} {u : Tree} (total : ℕ) → Caps s
    → Frame (node_at t) (length t.nodes) t.root (length t.entries) R
    → ((c : ℕ) → c < length t.entries → IsExact (entry_at t c) × (1 ≤ entry_weight t c)) → Counted t total → total ≤ most → 0 < length t.entries
    → length t.entries ≤ s.max_leaves + 1 → Reinserting s t u → Roomy s u
unfolding cleared blank_node
reinserting-roomy {s} t {u = u} total c g rows sums small pos few =
    let n = list_length t total c g rows sums small pos in
    let m = list_total t total c g rows sums small pos in
    replacing_roomy c (reverse (map (entry_at t) (collected t (length t.nodes) (t.root ∷ [])))) (cleared t) 0
    (cleared_holds s t) (list_rows t total c g rows sums small pos) (omega arith) (omega arith)

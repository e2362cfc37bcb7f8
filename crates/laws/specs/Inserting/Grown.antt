-- What a placing in a leaf gives, and the splits that follow it.
use Rattle.std.specs.Prelude.{ℕ, zero, suc, ◌+◌, ◌≤◌, ◌<◌, ◌≡◌, refl, true, List, [], ◌∷◌, length, get_or, Float, Option, None, Some}
use Rattle.std.proofs.Common.{sym, ◌∙◌}
use Rattle.std.proofs.Math.Path.{ap, subst}
use native.Mathlib.Omega.{arith}
use Rattle.std.specs.Float.Ieee.{lt}
use Rattle.binary64.specs.Operators.{infinity}
use Rattle.feature.specs.declared.Summary.{Summary}
use Rattle.feature.specs.Summaries.{blank}
use Rattle.head.specs.declared.Settings.{Settings}
use Rattle.rules.specs.Lists.{change_at, occurs}
use Rattle.rules.specs.Tree.{Node, Tree, node_at, entry_at, blank_node, with_nodes, with_entries, summed, row_count}
use Rattle.rules.specs.Descent.{better, Search, searching, searched, climbed, along_path}
use Rattle.rules.specs.Insert.{begun}
use Rattle.rules.specs.Split.{split_from}
use Rattle.laws.specs.Invariant.Weights.{Exactly}
use Rattle.laws.specs.Running.{split_up_entries}
use Rattle.counting.specs.Lists.{change_keeps, length-change}
use Rattle.counting.specs.Sums.{sum_to, sum_same, sum-change, occurs_here, occurs_later}
use Rattle.counting.specs.Count.{either}
use Rattle.laws.specs.Invariant.Sound.{entry_weight, Settled, Looking, Caps}
use Rattle.laws.specs.Splitting.Up.{split_up_lem}
use Rattle.laws.specs.Invariant.Height.{height}
use Rattle.laws.specs.Inserting.Climb.{Adds, Pushed}
use Rattle.laws.specs.Inserting.Begun.{new_looking, begun_nodes, begun_entries, ew_new, ew_old}
use Rattle.laws.specs.Inserting.Fed.{fed, fed_looking, inside, fed-length, few-at, few_off}

-- ---- a climb changes summaries only

pub climb_keeps : {B : Type 0} (F : Summary → Summary) (g : Node → B) → ((m : Node) → g (summed F m) ≡ g m) → (k : ℕ) (o : Option ℕ) (ns : List Node) (i : ℕ)
    → g (get_or (climbed F k o ns) i blank_node) ≡ g (get_or ns i blank_node)
unfolding climbed
climb_keeps F g h zero o ns i = refl
climb_keeps F g h (suc k) None ns i = refl
climb_keeps F g h (suc k) (Some n) ns i =
    climb_keeps F g h k (get_or ns n blank_node).parent (change_at (summed F) n ns) i ∙ change_keeps g (summed F) n i blank_node ns h

climb_length : (F : Summary → Summary) (k : ℕ) (o : Option ℕ) (ns : List Node) → length (climbed F k o ns) ≡ length ns
unfolding climbed
climb_length F zero o ns = refl
climb_length F (suc k) None ns = refl
climb_length F (suc k) (Some n) ns = climb_length F k (get_or ns n blank_node).parent (change_at (summed F) n ns) ∙ length-change (summed F) n ns

pub path_leaf : (F : Summary → Summary) (l : ℕ) (t : Tree) (k : ℕ) → (node_at (along_path F l t) k).leaf ≡ (node_at t k).leaf
unfolding along_path with_nodes node_at summed
path_leaf F l t k = climb_keeps F (λ m. m.leaf) (λ m. refl) (length t.nodes) (Some l) t.nodes k

pub path_length : (F : Summary → Summary) (l : ℕ) (t : Tree) → length (along_path F l t).nodes ≡ length t.nodes
unfolding along_path with_nodes
path_length F l t = climb_length F (length t.nodes) (Some l) t.nodes

-- ---- the leaf search finds an entry of the list

-- what the search gives, if it gives one, is so
abbrev pub Hit : (ℕ → Type 0) → Option ℕ → Type 0
Hit P None = Unit
Hit P (Some e) = P e

searching_among : (P : ℕ → Type 0) (f : ℕ → Float) (b : Search) (ks : List ℕ) → Hit P b.near → ((c : ℕ) → 0 < occurs c ks → P c)
    → Hit P (searching f b ks).near
unfolding searching better
searching_among P f b [] hb h = hb
searching_among P f b (k ∷ ks) hb h =
    searching_among P f (better b k (f k)) ks
    (either (λ u. Hit P u.near) (lt (f k) b.least) (record { near = Some k; least = f k }) b (h k (occurs_here k ks)) hb)
    (λ c o. h c (occurs_later c k ks o))

pub search_among : (f : ℕ → Float) (l : List ℕ) → Hit (λ e. 0 < occurs e l) (searched f l)
unfolding searched
search_among f l = searching_among (λ e. 0 < occurs e l) f (record { near = None; least = infinity }) l tt (λ c o. o)

-- ---- the entries' total

abbrev pub Counted : Tree → ℕ → Type 0
Counted t total = sum_to (entry_weight t) (length t.entries) ≡ total

-- looked at in l, and counted
pub record Placed (s : Settings) (t : Tree) (R : ℕ → ℕ) (l total : ℕ) : Type 0 where
  pub looking : Looking s t R l total
  pub counted : Counted t total
  pub here : l < length t.nodes

module _ {s : Settings} {t : Tree} {R : ℕ → ℕ} {d l : ℕ} (old : ℕ) (g : Pushed s t R d l (old + d)) (h : l < length t.nodes) (f : (node_at t l).leaf ≡ true)
    (n : Counted t old) where
  pub put-new : (e : Summary) → Exactly e d → 1 ≤ d → Placed s (begun l e t) R l (old + d)
  unfolding sum_to
  put-new e x pos = record {
    looking = new_looking e g h f x pos;
    counted =
        ap (λ m. sum_to (entry_weight (begun l e t)) m) (begun_entries e g h f x pos)
        ∙ ap (λ z. z + entry_weight (begun l e t) (length t.entries)) (sum_same (entry_weight t) (entry_weight (begun l e t)) (length t.entries)
        (λ c q. ew_old e g h f x pos c q) ∙ n)
        ∙ ap (λ z. old + z) (ew_new e g h f x pos);
    here = subst (λ m. l < m) (sym (begun_nodes e g h f x pos)) h;
  }

  pub put-fed : (F : Summary → Summary) (e : ℕ) → Adds F d → 0 < occurs e (node_at t l).list → Placed s (fed F e t) R l (old + d)
  unfolding with_entries
  put-fed F e a o = record {
    looking = fed_looking F e a g h f o;
    counted = ap (λ m. sum_to (entry_weight (fed F e t)) m) (fed-length F e a g h f o) ∙ sums;
    here = h;
  }
    where
      sums : sum_to (entry_weight (fed F e t)) (length t.entries) ≡ old + d
      sums =
          let u = sum-change (entry_weight t) (entry_weight (fed F e t)) e (length t.entries) (inside F e a g h f o) (λ k q z. few_off F e a g h f o k z) in
          let v = few-at F e a g h f o in
          omega arith

-- ---- what follows a placing

abbrev pub Whole : Settings → Tree → ℕ → Type 0
Whole s t total = (R : ℕ → ℕ) × Settled s t R total × Counted t total

-- the splits make of a tree that is looked at in one leaf a settled one
pub settled-whole : (s : Settings) (t : Tree) (R : ℕ → ℕ) (l total : ℕ) → Caps s → Placed s t R l total → Whole s (split_from s l t) total
unfolding split_from entry_weight entry_at
settled-whole s t R l total c p =
    let r = split_up_lem s (length t.nodes) l t R total c p.looking p.here (let q = height p.looking.links in omega arith) in
    (r.0, r.1, ap (λ es. sum_to (λ k. row_count (get_or es k blank)) (length es)) (split_up_entries s (length t.nodes) l t) ∙ p.counted)

-- The invariant of a tree: links with ranks, exact weights, each node the sum of its list; with slack, so that it serves every stage of a step.
use Rattle.std.specs.Prelude.{ℕ, ◌≤◌, ◌<◌, ◌≡◌, refl, Bool, true, false, length}
use Rattle.std.proofs.Common.{arith}
use Rattle.binary64.specs.Whole.{most}
use Rattle.head.specs.declared.Settings.{Settings}
use Rattle.head.specs.Limits.{Sized}
use Rattle.rules.specs.Tree.{Tree, node_at, entry_at, child, cap, row_count}
use Rattle.laws.specs.Invariant.Weights.{IsExact, weight_of}
use Rattle.counting.specs.Count.{is}
use Rattle.laws.specs.Invariant.Links.{Links, nil}
use Rattle.laws.specs.Invariant.Weigh.{pick, Weighs}

unfoldable pub entry_weight : Tree → ℕ → ℕ
entry_weight t c = row_count (entry_at t c)

unfoldable pub node_weight : Tree → ℕ → ℕ
node_weight t k = row_count (node_at t k).summary

-- weights that are whole numbers up to 2^53
pub record Exact (t : Tree) (total : ℕ) : Type 0 where
  pub at_node : (k : ℕ) → k < length t.nodes → IsExact (node_at t k).summary
  pub at_entry : (c : ℕ) → c < length t.entries → IsExact (entry_at t c)
  pub some_entry : (c : ℕ) → c < length t.entries → 1 ≤ entry_weight t c
  pub small : total ≤ most

-- the invariant: links with ranks, exact weights, each node the sum of its list. Where x, y and o are nil the tree is settled
pub record Sound (s : Settings) (t : Tree) (R x y o : ℕ → ℕ) (total : ℕ) : Type 0 where
  pub links : Links s (node_at t) (length t.nodes) t.root (length t.entries) R x y o
  pub exact : Exact t total
  pub weighs : Weighs (node_at t) (entry_weight t) (node_weight t) (length t.nodes) t.root total

abbrev pub Settled : Settings → Tree → (ℕ → ℕ) → ℕ → Type 0
Settled s t R total = Sound s t R nil nil nil total

-- node i may be one over its cap, and the level below it has just gained one
abbrev pub Looking : Settings → Tree → (ℕ → ℕ) → ℕ → ℕ → Type 0
Looking s t R i total = Sound s t R (is i) (is (R i)) nil total

pub record Caps (s : Settings) : Type 0 where
  pub leaves : 1 ≤ cap s true
  pub inners : 2 ≤ cap s false

-- as document 01 has them
pub caps_of : {s : Settings} → Sized s → Caps s
unfolding cap
caps_of z = record { leaves = z.leaf-some; inners = z.branching_some }

pub cap-some : (s : Settings) (b : Bool) → Caps s → 1 ≤ cap s b
cap-some s true c = c.leaves
cap-some s false c = let h = c.inners in omega arith

pub weight_pick : (t : Tree) (b : Bool) → weight_of t b ≡ pick b (entry_weight t) (node_weight t)
unfolding weight_of pick entry_weight node_weight child
weight_pick t true = refl
weight_pick t false = refl

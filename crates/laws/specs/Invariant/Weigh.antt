-- Each node weighs the sum of its own list. W: the nodes' weights, E: the entries'.
use Rattle.std.specs.Prelude.{ℕ, ◌+◌, ◌≤◌, ◌<◌, ◌≡◌, ◌≢◌, Bool, true, false}
use Rattle.std.proofs.Common.{ap}
use Rattle.rules.specs.Tree.{Node}
use Rattle.counting.specs.Sums.{over}
use Rattle.laws.specs.Invariant.Links.{inner}

unfoldable pub pick : Bool → (ℕ → ℕ) → (ℕ → ℕ) → ℕ → ℕ
pick true E W = E
pick false E W = W

-- what a node's list weighs
unfoldable pub own : Node → (ℕ → ℕ) → (ℕ → ℕ) → ℕ
own m E W = over (pick m.leaf E W) m.list

pub own-leaf : (m : Node) (E W : ℕ → ℕ) → m.leaf ≡ true → own m E W ≡ over E m.list
unfolding own pick
own-leaf m E W e = ap (λ b. over (pick b E W) m.list) e

pub own-inner : (m : Node) (E W : ℕ → ℕ) → m.leaf ≡ false → own m E W ≡ over W m.list
unfolding own pick
own-inner m E W e = ap (λ b. over (pick b E W) m.list) e

pub record Weighs (A : ℕ → Node) (E W : ℕ → ℕ) (n root total : ℕ) : Type 0 where
  pub sums : (k : ℕ) → k < n → W k ≡ own (A k) E W
  pub bound : (k : ℕ) → k < n → W k ≤ total
  pub whole-tree : W root ≡ total

-- between a split of i and its ending: who lists i is short of the new node's weight
pub record Short (B : ℕ → Node) (E W : ℕ → ℕ) (n root total i j : ℕ) : Type 0 where
  pub sums_0 : (k : ℕ) → k < n → inner (B k) i ≡ 0 → W k ≡ own (B k) E W
  pub sums_1 : (k : ℕ) → k < n → inner (B k) i ≡ 1 → W k ≡ own (B k) E W + W j
  pub bound : (k : ℕ) → k < n → W k ≤ total
  pub rest : i ≢ root → W root ≡ total
  pub at_root : i ≡ root → W i + W j ≡ total

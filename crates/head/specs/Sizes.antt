-- How long each lent buffer has to be. A few numbers for each entry are scratch, and none for a node.
use Rattle.std.specs.Prelude.{ℕ, ◌+◌, ◌*◌, ◌/◌, ◌≤◌, max}
use Rattle.std.proofs.Common.{mul-le-mul}
use native.Mathlib.Omega.{arith}
use Rattle.head.specs.declared.Settings.{Settings}
use Rattle.head.specs.Limits.{Sized}

-- N = (M+1)(M+2)/2 nodes
unfoldable pub node_cap : Settings → ℕ
node_cap s = (s.max_leaves + 1) * (s.max_leaves + 2) / 2

-- M+1 entries
unfoldable pub entry_cap : Settings → ℕ
entry_cap s = s.max_leaves + 1

-- a summary: weight, dim means, dim deviations
unfoldable pub slot_width : Settings → ℕ
slot_width s = 1 + 2 * s.dim

-- a node's links: parent, kind with length, list, one spare place
unfoldable pub block_width : Settings → ℕ
block_width s = 2 + max s.branching s.leaf_cap + 1

unfoldable pub floats_needed : Settings → ℕ
floats_needed s = (node_cap s + entry_cap s) * slot_width s

unfoldable pub links_needed : Settings → ℕ
links_needed s = node_cap s * block_width s

-- a summary for each entry
unfoldable pub scratch_floats_needed : Settings → ℕ
scratch_floats_needed s = entry_cap s * slot_width s

-- three numbers for each entry
unfoldable pub scratch_links_needed : Settings → ℕ
scratch_links_needed s = 3 * entry_cap s

-- ---- bounds, so that the formulas fit a usize

product_le : (a b c d : ℕ) → a ≤ c → b ≤ d → a * b ≤ c * d
product_le a b c d p q = mul-le-mul p q

pub nodes_some : (s : Settings) → 1 ≤ node_cap s
unfolding node_cap
nodes_some s = let p = product_le 1 2 (s.max_leaves + 1) (s.max_leaves + 2) (omega arith) (omega arith) in omega arith

-- ---- scratch is at most twice the floats and links needed

entries_nodes : (s : Settings) → entry_cap s ≤ node_cap s
unfolding node_cap entry_cap
entries_nodes s = let p = product_le (s.max_leaves + 1) 2 (s.max_leaves + 1) (s.max_leaves + 2) (omega arith) (omega arith) in omega arith

pub scratch_floats-few : (s : Settings) → scratch_floats_needed s ≤ 2 * floats_needed s
unfolding scratch_floats_needed floats_needed
scratch_floats-few s = let p = product_le (entry_cap s) (slot_width s) (node_cap s + entry_cap s) (slot_width s) (omega arith) (omega arith) in omega arith

pub scratch_links_few : (s : Settings) → scratch_links_needed s ≤ 2 * links_needed s
unfolding scratch_links_needed links_needed block_width
scratch_links_few s =
    let p = product_le (entry_cap s) 3 (node_cap s) (2 + max s.branching s.leaf_cap + 1) (entries_nodes s) (omega arith) in
    omega arith

module _ (s : Settings) (z : Sized s) where
  pub entries_small : entry_cap s ≤ 257
  unfolding entry_cap
  entries_small = let m = z.most-few in omega arith

  pub product_small : (s.max_leaves + 1) * (s.max_leaves + 2) ≤ 66306
  product_small = let m = z.most-few in product_le (s.max_leaves + 1) (s.max_leaves + 2) 257 258 (omega arith) (omega arith)

  pub nodes_small : node_cap s ≤ 33153
  unfolding node_cap
  nodes_small = let p = product_small in omega arith

  pub slot_small : slot_width s ≤ 17
  unfolding slot_width
  slot_small = let d = z.dim_few in omega arith

  pub block_small : block_width s ≤ 19
  unfolding block_width
  block_small = let b = z.branching_few in let l = z.leaf-few in omega arith

  pub floats_small : (node_cap s + entry_cap s) * slot_width s ≤ 567970
  floats_small = let n = nodes_small in let e = entries_small in product_le (node_cap s + entry_cap s) (slot_width s) 33410 17 (omega arith) slot_small

  pub links_small : node_cap s * block_width s ≤ 629907
  links_small = product_le (node_cap s) (block_width s) 33153 19 nodes_small block_small

  pub scratch_small : entry_cap s * slot_width s ≤ 4369
  scratch_small = product_le (entry_cap s) (slot_width s) 257 17 entries_small slot_small

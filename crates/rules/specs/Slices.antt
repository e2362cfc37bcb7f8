-- Where a tree stands in the lent slices: node i has float slot i and link block i, entry i the float slot i past the nodes' slots.
use Rattle.std.specs.Prelude.{ℕ, ◌+◌, ◌-◌, ◌*◌, ◌/◌, ◌%◌, min, Bool, true, false, cond, List, ◌∷◌, ◌++◌, map, length, get_or, take, drop, replicate, eqb, Float, Option, None, Some}
use Rattle.binary64.specs.Operators.{f0}
use Rattle.kernels.specs.Channels.{at, up_to}
use Rattle.feature.specs.Summaries.{slots_of}
use Rattle.feature.specs.declared.Summary.{Summary}
use Rattle.head.specs.declared.Settings.{Settings}
use Rattle.head.specs.declared.Counters.{Counters}
use Rattle.head.specs.Sizes.{node_cap, entry_cap, slot_width, block_width, links_needed}
use Rattle.rules.specs.Lists.{concat, table}
use Rattle.rules.specs.Tree.{Node, Tree}

module _ {A : Type 0} where
  -- k elements from place a on
  unfoldable pub stretch : List A → ℕ → ℕ → List A
  stretch xs a k = take k (drop a xs)

  -- l, and d from its end to place n
  unfoldable pub filled_to : ℕ → A → List A → List A
  filled_to n d l = l ++ replicate (n - length l) d

-- ---- a summary in a slot: its weight, dim means, dim deviations; of Spherical's only the first is read, and the rest are written 0

-- the first n of l as eight numbers, 0 from n on
unfoldable pub eight : ℕ → List Float → List Float
eight n l = up_to (at l) n (replicate 8 f0)

unfoldable pub summary_in : Settings → List Float → Summary
summary_in s p = record { weight = at p 0; mean = eight s.dim (drop 1 p); deviation = eight (slots_of s.feature s.dim) (drop (1 + s.dim) p) }

unfoldable pub summary_out : Settings → Summary → List Float
summary_out s c = c.weight ∷ (take s.dim c.mean ++ filled_to s.dim f0 (take (slots_of s.feature s.dim) c.deviation))

-- ---- a node's links in a block: its parent, its kind together with its list's length, its list and a spare place

-- the number that no node has
abbrev pub no_parent : ℕ
no_parent = 4294967295

unfoldable pub parent_in : ℕ → Option ℕ
parent_in w = cond (eqb w no_parent) None (Some w)

unfoldable pub parent_out : Option ℕ → ℕ
parent_out None = no_parent
parent_out (Some p) = p

-- twice the length, and one more for a leaf
unfoldable pub leaf_in : ℕ → Bool
leaf_in w = eqb (w % 2) 1

-- a length over the block's places is read as all of them, which is over every cap
unfoldable pub length_in : Settings → ℕ → ℕ
length_in s w = min (w / 2) (block_width s - 2)

unfoldable pub kind_out : Bool → ℕ → ℕ
kind_out true n = 2 * n + 1
kind_out false n = 2 * n

unfoldable pub node_in : Settings → List Float → List ℕ → Node
node_in s p b =
    record { summary = summary_in s p; list = take (length_in s (get_or b 1 0)) (drop 2 b); leaf = leaf_in (get_or b 1 0); parent = parent_in (get_or b 0 0) }

unfoldable pub block_out : Settings → Node → List ℕ
block_out s n = filled_to (block_width s) 0 (parent_out n.parent ∷ kind_out n.leaf (length n.list) ∷ n.list)

-- ---- the tree that head and slices hold

unfoldable pub slot_at : Settings → List Float → ℕ → List Float
slot_at s fs i = stretch fs (i * slot_width s) (slot_width s)

unfoldable pub block_at : Settings → List ℕ → ℕ → List ℕ
block_at s ls i = stretch ls (i * block_width s) (block_width s)

unfoldable pub tree_of : Settings → Counters → List Float → List ℕ → Tree
tree_of s c fs ls =
    record {
      nodes = table (λ i. node_in s (slot_at s fs i) (block_at s ls i)) c.nodes;
      entries = table (λ i. summary_in s (slot_at s fs (node_cap s + i))) c.entries;
      root = c.root;
      running = c.running;
    }

-- ---- and back: what the needed slots hold, 0 past the counts

unfoldable pub counters_of : Tree → Counters
counters_of t = record { nodes = length t.nodes; entries = length t.entries; root = t.root; running = t.running }

unfoldable pub floats_of : Settings → Tree → List Float
floats_of s t =
    filled_to (node_cap s * slot_width s) f0 (concat (map (λ n. summary_out s n.summary) t.nodes))
    ++ filled_to (entry_cap s * slot_width s) f0 (concat (map (summary_out s) t.entries))

unfoldable pub links_of : Settings → Tree → List ℕ
links_of s t = filled_to (links_needed s) 0 (concat (map (block_out s) t.nodes))

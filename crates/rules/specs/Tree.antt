-- The tree as the Rust has it: numbered nodes, numbered entries, a root, and what runs along. A leaf's list names entries, another node's names nodes.
use Rattle.std.specs.Prelude.{ℕ, Bool, true, false, List, [], ◌∷◌, get_or, Float, Option, None, Some}
use Rattle.std.specs.Float.Ieee.{to_unsigned}
use Rattle.feature.specs.Summaries.{blank}
use Rattle.feature.specs.Steps.{pushed, merged}
use Rattle.feature.specs.declared.Summary.{Summary}
use Rattle.distance.specs.Distances.{point_of, between_of}
use Rattle.head.specs.declared.Settings.{Settings}
use Rattle.head.specs.declared.Running.{Running}
use Rattle.head.specs.Counting.{new_running}
use Rattle.rules.specs.Lists.{snoc}

pub record Node : Type 0 where
  pub summary : Summary
  pub list : List ℕ
  pub leaf : Bool
  pub parent : Option ℕ

pub record Tree : Type 0 where
  pub nodes : List Node
  pub entries : List Summary
  pub root : ℕ
  pub running : Running

-- ---- what the settings make of push, merge and the distances

abbrev pub push : Settings → List Float → Summary → Summary
push s x c = pushed s.feature s.dim c x

abbrev pub merge : Settings → Summary → Summary → Summary
merge s a b = merged s.feature s.dim a b

-- `dist` and `abs` to a row, and between two summaries
abbrev pub dist_to : Settings → Summary → List Float → Float
dist_to s c x = point_of s.dist s.feature s.dim c x

abbrev pub abs_to : Settings → Summary → List Float → Float
abs_to s c x = point_of s.abs s.feature s.dim c x

abbrev pub dist_between : Settings → Summary → Summary → Float
dist_between s a b = between_of s.dist s.feature s.dim a b

abbrev pub abs_between : Settings → Summary → Summary → Float
abs_between s a b = between_of s.abs s.feature s.dim a b

-- the rows that a summary's weight stands for
unfoldable pub row_count : Summary → ℕ
row_count e = to_unsigned 64 e.weight

-- ---- reading

-- a leaf with nothing in it
unfoldable pub blank_node : Node
blank_node = record { summary = blank; list = []; leaf = true; parent = None }

unfoldable pub node_at : Tree → ℕ → Node
node_at t i = get_or t.nodes i blank_node

unfoldable pub entry_at : Tree → ℕ → Summary
entry_at t i = get_or t.entries i blank

-- the summary that a number of a list names: an entry's in a leaf, a node's elsewhere
unfoldable pub child : Tree → Bool → ℕ → Summary
child t true c = entry_at t c
child t false c = (node_at t c).summary

-- the most that a list holds
unfoldable pub cap : Settings → Bool → ℕ
cap s true = s.leaf_cap
cap s false = s.branching

-- ---- changing a part

unfoldable pub with_nodes : List Node → Tree → Tree
with_nodes ns t = record { nodes = ns; entries = t.entries; root = t.root; running = t.running }

unfoldable pub with_entries : List Summary → Tree → Tree
with_entries es t = record { nodes = t.nodes; entries = es; root = t.root; running = t.running }

unfoldable pub with_root : ℕ → Tree → Tree
with_root r t = record { nodes = t.nodes; entries = t.entries; root = r; running = t.running }

unfoldable pub on_running : (Running → Running) → Tree → Tree
on_running f t = record { nodes = t.nodes; entries = t.entries; root = t.root; running = f t.running }

unfoldable pub summed : (Summary → Summary) → Node → Node
summed f n = record { summary = f n.summary; list = n.list; leaf = n.leaf; parent = n.parent }

unfoldable pub with_list : List ℕ → Node → Node
with_list ks n = record { summary = n.summary; list = ks; leaf = n.leaf; parent = n.parent }

-- one number more, last in the list
unfoldable pub adding : ℕ → Node → Node
adding k n = with_list (snoc n.list k) n

unfoldable pub under : ℕ → Node → Node
under p n = record { summary = n.summary; list = n.list; leaf = n.leaf; parent = Some p }

-- ---- creation

unfoldable pub fresh : Float → Tree
fresh threshold = record { nodes = blank_node ∷ []; entries = []; root = 0; running = new_running threshold }

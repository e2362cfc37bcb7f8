-- What a reading sees of public calls: a tree is created in slices that are just long enough, and given rows, one call each.
use Rattle.std.specs.Prelude.{ℕ, suc, ◌≡◌, cond, List, [], ◌∷◌, ◌++◌, map, length, take, drop, replicate, Float, Ok, Err}
use Rattle.std.specs.Float.{binary64}
use Rattle.std.specs.Float.Ieee.{to_bits}
use Rattle.binary64.specs.Operators.{f0}
use Rattle.feature.specs.Summaries.{slots_of}
use Rattle.feature.specs.declared.Summary.{Summary}
use Rattle.head.specs.Heads.{settings_of}
use Rattle.head.specs.Sizes.{floats_needed, links_needed, scratch_floats_needed, scratch_links_needed}
use Rattle.head.specs.Refusals.{number_of, values_of, Answer}
use Rattle.head.specs.declared.Head.{Head}
use Rattle.head.specs.declared.Settings.{Settings}
use Rattle.rules.specs.Tree.{Node, Tree, node_at, row_count}
use Rattle.rules.specs.Check.{total_of}
use Rattle.rules.specs.Calls.{Left, lent_tree, created, row_inserted}
use Rattle.rules.specs.Listing.{rowlist}

-- ---- the calls

unfoldable pub new_tree : Head → Left
new_tree h =
    let s = settings_of h in
    let m = created h (replicate (floats_needed s) f0) (replicate (links_needed s) 0) in
    record {
      head = m.head;
      answer = m.answer;
      lent = record {
        floats = m.floats;
        links = m.links;
        scratch_floats = replicate (scratch_floats_needed s) f0;
        scratch_links = replicate (scratch_links_needed s) 0;
      };
    }

unfoldable pub row_by_row : List (List Float) → Left → Left
row_by_row [] o = o
row_by_row (x ∷ xs) o = row_by_row xs (row_inserted o.head o.lent x)

-- ---- what is seen

-- 0 for an accepted call, else document 01's number and values
unfoldable pub answer_seen : Answer → List ℕ
answer_seen (Ok tt) = 0 ∷ []
answer_seen (Err r) = number_of r ∷ values_of r

unfoldable pub tree_left : Left → Tree
tree_left o = lent_tree o.head o.lent.floats o.lent.links

unfoldable pub bits : Float → ℕ
bits x = to_bits binary64 x

-- an entry's line: its number, weight, means, deviations
unfoldable pub line : Settings → ℕ → Summary → List ℕ
line s i e = i ∷ row_count e ∷ (map bits (take s.dim e.mean) ++ map bits (take (slots_of s.feature s.dim) e.deviation))

unfoldable pub lines : Settings → ℕ → List Summary → List (List ℕ)
lines s i [] = []
lines s i (e ∷ es) = line s i e ∷ lines s (suc i) es

-- entry count, threshold, rebuilds, total weight; then the entries
unfoldable pub entries_seen : Settings → Tree → List (List ℕ)
entries_seen s t = (length t.entries ∷ bits t.running.threshold ∷ t.running.rebuilds ∷ total_of t.entries ∷ []) ∷ lines s 0 t.entries

unfoldable pub leaves_seen : List Node → List (List ℕ)
leaves_seen [] = []
leaves_seen (n ∷ ns) = cond n.leaf (n.list ∷ leaves_seen ns) (leaves_seen ns)

-- the weights of all nodes but the root
unfoldable pub others_seen : Tree → List ℕ
others_seen t = map (λ n. row_count n.summary) (take t.root t.nodes ++ drop (suc t.root) t.nodes)

unfoldable pub root_seen : Tree → ℕ
root_seen t = row_count (node_at t t.root).summary

pub data Says : Type 0 where
  lists : List (List ℕ) → Says
  leaves : List (List ℕ) → Says
  weights : List ℕ → ℕ → Says
  refuses : List ℕ → Says

abbrev pub Accepts : Left → Type 0
Accepts o = answer_seen o.answer ≡ 0 ∷ []

abbrev pub Seen : Left → Says → Type 0
Seen o (lists l) = Accepts o × (entries_seen (settings_of o.head) (tree_left o) ≡ l)
Seen o (leaves l) = Accepts o × (leaves_seen (tree_left o).nodes ≡ l)
Seen o (weights others root) = Accepts o × (others_seen (tree_left o) ≡ others) × (root_seen (tree_left o) ≡ root)
Seen o (refuses l) = answer_seen o.answer ≡ l

-- a new tree's rows and what is then seen, or a text and its listing
pub data Reading : Type 0 where
  rows : Head → List (List Float) → Says → Reading
  text : List ℕ → List ℕ → Reading

abbrev pub Holds : List Reading → Type 0
Holds [] = Unit
Holds (rows h xs what ∷ rs) = Seen (row_by_row xs (new_tree h)) what × Holds rs
Holds (text input output ∷ rs) = (rowlist input ≡ output) × Holds rs

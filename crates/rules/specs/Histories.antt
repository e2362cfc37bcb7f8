-- A history: calls on a tree, and what each answers as numbers, so that answers of the Rust stand beside what the rules compute.
use Rattle.std.specs.Prelude.{ℕ, suc, ◌*◌, ◌/◌, ◌≡◌, cond, List, [], ◌∷◌, ◌++◌, map, length, take, replicate, Float, Option, None, Some}
use Rattle.std.specs.Float.{binary64}
use Rattle.std.specs.Float.Ieee.{of_bits, to_bits}
use Rattle.binary64.specs.Operators.{f0}
use Rattle.feature.specs.Summaries.{slots_of}
use Rattle.feature.specs.declared.Summary.{Summary}
use Rattle.head.specs.Refusals.{number_of, values_of}
use Rattle.head.specs.declared.Settings.{Settings}
use Rattle.head.specs.declared.refusal.Refusal.{Refusal}
use Rattle.rules.specs.Lists.{concat, rows_of}
use Rattle.rules.specs.Tree.{Node, Tree}
use Rattle.rules.specs.Refit.{refitted}
use Rattle.rules.specs.Check.{checked}
use Rattle.rules.specs.Slices.{eight}
use Rattle.rules.specs.Calls.{tree_refusal, row_asked, batch_asked, refit_asked, route_asked, spread_asked}
use Rattle.rules.specs.Route.{greedy}
use Rattle.rules.specs.Spread.{spread_of}
use Rattle.rules.specs.Rows.{inserted, inserted_all}

-- ---- numbers for values

unfoldable pub bits : Float → ℕ
bits x = to_bits binary64 x

unfoldable pub floats : List ℕ → List Float
floats ns = map (of_bits binary64) ns

-- a summary by the bits of its weight, means and deviations
unfoldable pub summary : ℕ → List ℕ → List ℕ → Summary
summary w ms vs = record { weight = of_bits binary64 w; mean = eight (length ms) (floats ms); deviation = eight (length vs) (floats vs) }

unfoldable pub summary_seen : Settings → Summary → List ℕ
summary_seen s c = bits c.weight ∷ (map bits (take s.dim c.mean) ++ map bits (take (slots_of s.feature s.dim) c.deviation))

-- 0 for no parent, n + 1 for node n
unfoldable pub parent_seen : Option ℕ → ℕ
parent_seen None = 0
parent_seen (Some p) = suc p

unfoldable pub node_seen : Settings → Node → List ℕ
node_seen s n = parent_seen n.parent ∷ cond n.leaf 1 0 ∷ length n.list ∷ (n.list ++ summary_seen s n.summary)

-- the counters, then the nodes, then the entries
unfoldable pub tree_seen : Settings → Tree → List (List ℕ)
tree_seen s t =
    (bits t.running.threshold ∷ t.running.rebuilds ∷ t.running.merged ∷ length t.nodes ∷ length t.entries ∷ t.root ∷ [])
    ∷ (map (node_seen s) t.nodes ++ map (summary_seen s) t.entries)

-- ---- calls

pub data Call : Type 0 where
  Insert Batch Refit Route : List ℕ → Call
  Spread Validate State : Call

-- a refusal's number and values; nothing where there is none
unfoldable pub refusal_seen : List Refusal → List ℕ
refusal_seen [] = []
refusal_seen (r ∷ rs) = number_of r ∷ values_of r

-- the answer to a call that changes the tree, and the tree after it
pub record Step : Type 0 where
  pub answer : List (List ℕ)
  pub tree : Tree

unfoldable pub change : List Refusal → Tree → Tree → Step
change [] t u = record { answer = [] ∷ []; tree = u }
change (r ∷ rs) t u = record { answer = refusal_seen (r ∷ rs) ∷ []; tree = t }

unfoldable pub look : List Refusal → Tree → List (List ℕ) → Step
look [] t seen = record { answer = seen; tree = t }
look (r ∷ rs) t seen = record { answer = refusal_seen (r ∷ rs) ∷ []; tree = t }

-- one call; an output is as long as what is written to it
unfoldable pub step : Settings → Tree → Call → Step
step s t (Insert x) = change (tree_refusal (checked s t) ++ row_asked s t (floats x)) t (inserted s (floats x) t)
step s t (Batch xs) =
    change (tree_refusal (checked s t) ++ batch_asked s t (floats xs)) t (inserted_all s (rows_of (length xs / s.dim) s.dim (floats xs)) t)
step s t (Refit xs) =
    change (tree_refusal (checked s t) ++ refit_asked s t (floats xs)) t (refitted s (greedy s) (rows_of (length xs / s.dim) s.dim (floats xs)) t)
step s t (Route xs) =
    let n = length xs / s.dim in
    look (tree_refusal (checked s t) ++ route_asked s t (floats xs) (replicate n 0)) t (map (greedy s t) (rows_of n s.dim (floats xs)) ∷ [])
step s t Spread =
    look (tree_refusal (checked s t) ++ spread_asked s t (replicate (length t.entries * s.dim) f0)) t
    (map bits (concat (map (spread_of s.feature s.dim) t.entries)) ∷ [])
step s t Validate = record { answer = refusal_seen (tree_refusal (checked s t)) ∷ []; tree = t }
step s t State = record { answer = tree_seen s t; tree = t }

unfoldable pub answers : Settings → List Call → Tree → List (List (List ℕ))
answers s [] t = []
answers s (c ∷ cs) t = let r = step s t c in r.answer ∷ answers s cs r.tree

-- a history: settings, the tree at its start, calls, and what they answer
pub record History : Type 0 where
  pub settings : Settings
  pub start : Tree
  pub calls : List Call
  pub says : List (List (List ℕ))

abbrev pub Holds : List History → Type 0
Holds [] = Unit
Holds (h ∷ hs) = (answers h.settings h.calls h.start ≡ h.says) × Holds hs

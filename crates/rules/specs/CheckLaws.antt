-- The verdict and the conditions by name: a tree passes exactly where each holds.
use Rattle.std.specs.Prelude.{◌≤◌, ◌≡◌, refl, Bool, true, false, ◌&&◌, List, [], ◌∷◌, map, T, leb, length, Ok}
use Rattle.std.proofs.Common.{leb-true}
use Rattle.std.specs.Float.Ieee.Bits.{is_true}
use Rattle.binary64.specs.Whole.{most}
use Rattle.binary64.specs.Counts.{is_count}
use Rattle.head.specs.declared.Settings.{Settings}
use Rattle.head.specs.declared.refusal.Condition.{Condition}
use Rattle.head.specs.Limits.{both}
use Rattle.head.specs.Refusals.{number_of_condition}
use Rattle.rules.specs.Lists.{every, up_from}
use Rattle.rules.specs.Tree.{Tree}
use Rattle.rules.specs.Check.{Passing, lowest, conditions, checked, weighs, weighed, total_of}

-- the conditions are asked in the order of their numbers, 1 to 8: the lowest that fails is the first
pub conditions_in_order : (s : Settings) (t : Tree) → map (λ c. number_of_condition c.0) (conditions s t) ≡ up_from 8 1
unfolding conditions number_of_condition up_from
conditions_in_order s t = refl

abbrev Trues : List (Condition × Bool) → Type 0
Trues [] = Unit
Trues ((c, b) ∷ cs) = T b × Trues cs

lowest_trues : (cs : List (Condition × Bool)) → lowest cs ≡ Ok tt → Trues cs
unfolding lowest
lowest_trues [] h = tt
lowest_trues ((c, true) ∷ cs) h = (tt, lowest_trues cs h)
lowest_trues ((c, false) ∷ cs) h = absurd cc

trues_lowest : (cs : List (Condition × Bool)) → Trues cs → lowest cs ≡ Ok tt
unfolding lowest
trues_lowest [] h = refl
trues_lowest ((c, true) ∷ cs) h = trues_lowest cs h.1
trues_lowest ((c, false) ∷ cs) h = absurd h.0

pub passing_of : (s : Settings) (t : Tree) → checked s t ≡ Ok tt → Passing s t
unfolding checked conditions
passing_of s t e =
    let (a, (b, (c, (d, (f, (g, (h, (k, _)))))))) = lowest_trues (conditions s t) e in
    record { counts = a; root = b; lists = c; links = d; full = f; even = g; weights = h; merged = k }

pub passing_passes : (s : Settings) (t : Tree) → Passing s t → checked s t ≡ Ok tt
unfolding checked conditions
passing_passes s t w = trues_lowest (conditions s t) (w.counts, (w.root, (w.lists, (w.links, (w.full, (w.even, (w.weights, (w.merged, tt))))))))

-- the entries' weights in a passing tree are counts, and their total is at most 2^53
module _ (s : Settings) (t : Tree) (e : checked s t ≡ Ok tt) where
  entries_weigh : (every (λ c. is_count c.weight) t.entries && leb (total_of t.entries) most) ≡ true
  unfolding weighed
  entries_weigh = (both _ (every (weighs t) (up_from (length t.nodes) 0)) (is_true _ (passing_of s t e).weights)).0

  pub passes_counts : every (λ c. is_count c.weight) t.entries ≡ true
  passes_counts = (both _ (leb (total_of t.entries) most) entries_weigh).0

  pub passes_total : total_of t.entries ≤ most
  passes_total = leb-true (total_of t.entries) most (both (every (λ c. is_count c.weight) t.entries) _ entries_weigh).1

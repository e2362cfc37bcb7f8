-- Heads and answers as numbers: every number of the head, and of an answer document 01's number and values.
use Rattle.std.specs.Prelude.{ℕ, ◌<◌, ◌≡◌, refl, get_or, Ok, Err}
use Rattle.std.proofs.Common.{arith}
use Rattle.head.specs.Refusals.{number_of, values_of, Answer}
use Rattle.head.specs.declared.Head.{Head}
use Rattle.head.specs.declared.refusal.Refusal.{Refusal}
use Rattle.head.specs.declared.refusal.Refusal.TheVariants.{Settings, Room, Tree, Shape, Empty, Full, Output}
use Rattle.boundary.specs.declared.HeadNumbers.{HeadNumbers}
use Rattle.boundary.specs.declared.AnswerNumbers.{AnswerNumbers}
use Rattle.head.specs.declared.Running.{Running}

-- of the boundary, 0.1.0: what header, Rust crate and archive have to agree on
abbrev pub version : ℕ
version = 100

unfoldable pub head_of : HeadNumbers → Head
head_of h =
    let running : Running = record { threshold = h.threshold; rebuilds = h.rebuilds; merged = h.merged } in
    record {
      dim = h.dim;
      branching = h.branching;
      leaf_cap = h.leaf_cap;
      max_leaves = h.max_leaves;
      feature = h.feature;
      dist = h.dist;
      abs = h.abs;
      counters = record { nodes = h.nodes; entries = h.entries; root = h.root; running = running };
    }

unfoldable pub head_numbers : Head → HeadNumbers
head_numbers h =
    let n = h.counters in
    record {
      dim = h.dim;
      branching = h.branching;
      leaf_cap = h.leaf_cap;
      max_leaves = h.max_leaves;
      nodes = n.nodes;
      entries = n.entries;
      root = n.root;
      rebuilds = n.running.rebuilds;
      merged = n.running.merged;
      threshold = n.running.threshold;
      feature = h.feature;
      dist = h.dist;
      abs = h.abs;
    }

-- the head that goes out in numbers comes back as the same head
pub head_back : (h : Head) → head_of (head_numbers h) ≡ h
unfolding head_of head_numbers
head_back h = refl

abbrev pub with_values : ℕ → ℕ → ℕ → AnswerNumbers
with_values number first second = record { first = first; second = second; number = number }

-- document 01's number, and the values that come with it, 0 where there is none
unfoldable pub refusal_numbers : Refusal → AnswerNumbers
refusal_numbers r = with_values (number_of r) (get_or (values_of r) 0 0) (get_or (values_of r) 1 0)

unfoldable pub answer_numbers : Answer → AnswerNumbers
answer_numbers (Ok tt) = with_values 0 0 0
answer_numbers (Err r) = refusal_numbers r

some_number : (r : Refusal) → 0 < number_of r
unfolding number_of
some_number Settings = omega arith
some_number Room = omega arith
some_number (Tree condition) = omega arith
some_number (Shape dim length) = omega arith
some_number Empty = omega arith
some_number Full = omega arith
some_number Output = omega arith

-- the number 0 says that a call was accepted
pub zero_accepts : (a : Answer) → (answer_numbers a).number ≡ 0 → a ≡ Ok tt
unfolding answer_numbers refusal_numbers
zero_accepts (Ok tt) e = refl
zero_accepts (Err r) e = let n = some_number r in absurd (omega arith)

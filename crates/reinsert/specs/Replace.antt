-- Summaries placed one after the other: what a tree has to be for all of them, and for each in turn.
use Prim.Native.Nat.{ℕ, suc, ◌+◌, ◌-◌, ◌≤◌, ◌<◌}
use Rattle.std.specs.Prelude.{◌≡◌, List, ◌∷◌, reverse, Float}
use Rattle.std.proofs.Math.Path.{ap}
use Rattle.std.proofs.Common.{◌∙◌, arith}
use Rattle.std.proofs.Math.Logic.{inr}
use Rattle.std.proofs.Math.ListN.{length}
use Rattle.std.proofs.lemmas.List.{length-reverse}
use Rattle.binary64.specs.Whole.{most}
use Rattle.feature.specs.declared.Summary.{Summary}
use Rattle.head.specs.declared.Settings.{Settings}
use Rattle.head.specs.Limits.{Sized}
use Rattle.head.specs.Sizes.{entry_cap, slot_width}
use Rattle.rules.specs.Lists.{table}
use Rattle.rules.specs.Tree.{Tree, row_count}
use Rattle.rules.specs.Slices.{summary_in}
use Rattle.rules.specs.Reinsert.{replaced, replaced_all}
use Rattle.rules.specs.Check.{total_of}
use Rattle.counting.specs.Lists.{snoc-length}
use Rattle.laws.specs.Invariant.Sound.{caps_of}
use Rattle.laws.specs.Inserting.First.{Holding}
use Rattle.laws.specs.Inserting.Items.{replaced_holds}
use Rattle.laws.specs.Rebuilding.Reinsert.{Rows, place_entries}
use Rattle.arena.specs.Numbered.{SlotIn, summary_at, cut, slot_cut}
use Rattle.grow.specs.Room.{Placeable}
use Rattle.scratch.specs.Slots.{slots_in, length_slots, slots_back}

-- a tree that takes the summaries es, each of some rows, with room for all
pub record Replaceable (s : Settings) (t : Tree) (es : List Summary) : Type 0 where
  pub total : ℕ
  pub holds : Holding s t total
  pub rows : Rows es
  pub few : total + total_of es ≤ most
  pub room : length t.entries + length es ≤ entry_cap s

module _ (s : Settings) (t : Tree) (e : Summary) (es : List Summary) (g : Replaceable s t (e ∷ es)) where
  first : Placeable s t e
  unfolding total_of
  first = record {
    total = g.total;
    holds = g.holds;
    exact = g.rows.0;
    some = g.rows.1;
    few = (let a = g.few in omega arith);
    room = (let a = g.room in omega arith);
  }

  rest : Sized s → Replaceable s (replaced s e t) es
  unfolding total_of
  rest z =
      let few = g.few in
      let room = g.room in
      let more : length (replaced s e t).entries ≡ suc (length t.entries) = ap (λ l. length l) (place_entries s e t) ∙ snoc-length t.entries e in
      record {
        total = g.total + row_count e;
        holds = inr (replaced_holds s e t g.total (caps_of z) g.holds g.rows.0 g.rows.1 (omega arith));
        rows = g.rows.2;
        few = omega arith;
        room = omega arith;
      }

-- ---- the summaries in scratch, from the last to the first; `left` of them are left

-- the one in a slot that the code has cut out by the width k
pub cut-summary : (s : Settings) (fs : List Float) (i k : ℕ) → SlotIn s i (length fs) → k ≡ slot_width s → summary_in s (cut fs i k) ≡ summary_at s fs i
unfolding summary_at
cut-summary s fs i k h e = ap (summary_in s) (slot_cut s fs i k h e)

pub left-few : (s : Settings) (fs : List Float) (left : ℕ) (t : Tree) → Replaceable s t (reverse (slots_in s fs left)) → left ≤ entry_cap s
left-few s fs left t g = let a = length-reverse (slots_in s fs left) ∙ length_slots s fs left in let b = g.room in omega arith

module _ (s : Settings) (fs : List Float) (left : ℕ) (t : Tree) (l : 0 < left) (g : Replaceable s t (reverse (slots_in s fs left))) where
  opened : Replaceable s t (summary_at s fs (left - 1) ∷ reverse (slots_in s fs (left - 1)))
  opened = rw (slots_back s fs left l) at g

  pub last_placeable : Placeable s t (summary_at s fs (left - 1))
  last_placeable = first s t (summary_at s fs (left - 1)) (reverse (slots_in s fs (left - 1))) opened

  module _ {u : Tree} (p : u ≡ replaced s (summary_at s fs (left - 1)) t) where
    pub replace_on : Sized s → Replaceable s u (reverse (slots_in s fs (left - 1)))
    replace_on z = rw p (rest s t (summary_at s fs (left - 1)) (reverse (slots_in s fs (left - 1))) opened z)

    pub replace_turn : replaced_all s (reverse (slots_in s fs (left - 1))) u ≡ replaced_all s (reverse (slots_in s fs left)) t
    unfolding replaced_all
    replace_turn = rw (slots_back s fs left l, p)

pub replace_end : (s : Settings) (fs : List Float) (left : ℕ) (t : Tree) → left ≡ 0 → replaced_all s (reverse (slots_in s fs left)) t ≡ t
unfolding replaced_all slots_in table
replace_end s fs left t e = rw e

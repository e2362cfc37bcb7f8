-- A tree between calls with room for so many rows more, and what one row asks of it.
use Prim.Native.Nat.{ℕ, suc, ◌+◌, ◌≤◌, ◌<◌}
use Rattle.std.specs.Prelude.{◌≡◌, List, length, Float}
use Rattle.std.proofs.Common.{sym, arith, lt-ltb, le-ltb}
use Rattle.std.proofs.Math.Path.{subst}
use Rattle.binary64.specs.Whole.{most}
use Rattle.head.specs.declared.Settings.{Settings}
use Rattle.head.specs.Limits.{Sized}
use Rattle.head.specs.Sizes.{entry_cap}
use Rattle.rules.specs.Tree.{Tree}
use Rattle.rules.specs.Insert.{grown, row_item}
use Rattle.rules.specs.Rebuild.{rebuilt}
use Rattle.laws.specs.Running.{grown_running, Below}
use Rattle.laws.specs.Invariant.Sound.{caps_of}
use Rattle.laws.specs.Check.Both.{AtRest}
use Rattle.laws.specs.Resting.Rests.{row_rests}
use Rattle.grow.specs.Room.{Growable, rest_growable}
use Rattle.rebuild.specs.Rebuilding.{Rebuildable}
use Rattle.laws.specs.Inserting.Items.{one_more_lem, grown_holds}
use Rattle.rules.specs.Rows.{inserted}

pub record Resting (s : Settings) (more : ℕ) (t : Tree) : Type 0 where
  pub rows : ℕ
  pub rests : AtRest s t rows
  pub room : rows + more ≤ most

module _ (s : Settings) (x : List Float) (t : Tree) where
  module _ {more : ℕ} (r : Resting s (suc more) t) where
    some_room : r.rows < most
    some_room = let room = r.room in omega arith

    pub rest-one : Resting s 1 t
    rest-one = let room = some_room in record { rows = r.rows; rests = r.rests; room = omega arith }

    pub rest_grows : Growable s t
    rest_grows = rest_growable s t r.rows r.rests some_room

    -- one entry over M: a tree to rebuild
    pub rest_rebuilds : Sized s → s.max_leaves < length (grown s (row_item s x) t).entries → Rebuildable s (grown s (row_item s x) t)
    unfolding entry_cap
    rest_rebuilds z h =
        let one = one_more_lem s (row_item s x) t in
        let few = r.rests.few in
        record {
          rows = suc r.rows;
          whole = grown_holds s x t r.rows (caps_of z) r.rests.holds some_room;
          more = h;
          few = omega arith;
          below = subst (Below s) (sym (grown_running s (row_item s x) t)) r.rests.below;
        }

    pub rest-next : Sized s → Resting s more (inserted s x t)
    rest-next z =
        let room = r.room in
        record { rows = suc r.rows; rests = row_rests z x t r.rows r.rests some_room; room = omega arith }

  pub with_rebuild : s.max_leaves < length (grown s (row_item s x) t).entries → rebuilt s (grown s (row_item s x) t) ≡ inserted s x t
  unfolding inserted
  with_rebuild h = rw (lt-ltb s.max_leaves (length (grown s (row_item s x) t).entries) h)

  pub without_rebuild : length (grown s (row_item s x) t).entries ≤ s.max_leaves → grown s (row_item s x) t ≡ inserted s x t
  unfolding inserted
  without_rebuild h = rw (le-ltb s.max_leaves (length (grown s (row_item s x) t).entries) h)

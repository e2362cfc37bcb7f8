-- What an accepted call may lean on: no refusal applies.
use Rattle.std.specs.Prelude.{ℕ, ◌+◌, ◌*◌, ◌/◌, ◌≤◌, ◌<◌, T, length, get_or, Float}
use Rattle.std.proofs.Common.{div-mul-le_self}
use Rattle.std.specs.Float.{binary64}
use Rattle.std.specs.Float.Ieee.{fits}
use Rattle.binary64.specs.Whole.{most}
use Rattle.head.specs.declared.Head.{Head}
use Rattle.head.specs.declared.Settings.{Settings}
use Rattle.head.specs.Heads.{settings_of}
use Rattle.rules.specs.Tree.{Tree}
use Rattle.rules.specs.Check.{total_of}
use Rattle.rules.specs.Calls.{Lent, lent_tree}
use Rattle.rules.specs.CallLaws.{Ready}
use Rattle.laws.specs.Check.Both.{AtRest, passing_rests}
use Rattle.validate.specs.Granted.{lent_binary64}
use Rattle.work.specs.declared.Work.TheVariants.{Insert, Refit}
use Rattle.work.specs.Worked.{Workable}

-- whole rows fill no more than there is
pub rows_in : (n dim : ℕ) → n / dim * dim ≤ n
rows_in n dim = div-mul-le_self n dim

module _ (h : Head) (l : Lent) where
  abbrev s : Settings
  s = settings_of h

  abbrev t : Tree
  t = lent_tree h l.floats l.links

  -- a tree of lent floats that passes the check rests
  module _ (ready : Ready h l) (d : Float) (all : (i : ℕ) → T (fits binary64 (get_or l.floats i d))) where
    rests : AtRest s t (total_of t.entries)
    unfolding lent_tree
    rests = passing_rests s t (lent_binary64 s h.counters l.floats l.links d all) ready.passes

    pub insertable : (more : ℕ) → total_of t.entries + more ≤ most → Workable Insert s more t
    unfolding Workable
    insertable more room = record { rows = total_of t.entries; rests = rests; room = room }

    pub refittable : (count : ℕ) → (0 < length t.entries → count ≤ most) → Workable Refit s count t
    unfolding Workable
    refittable count few = record { rows = total_of t.entries; rests = rests; few = few }

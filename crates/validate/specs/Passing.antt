-- What a tree that passes the check gives to the code of the calls.
use Rattle.std.specs.Prelude.{ℕ, ◌≤◌, ◌≡◌, true, List, length, Float, Ok}
use Rattle.binary64.specs.Whole.{most}
use Rattle.head.specs.declared.Settings.{Settings}
use Rattle.head.specs.declared.Counters.{Counters}
use Rattle.head.specs.Limits.{Sized}
use Rattle.head.specs.Sizes.{floats_needed, links_needed}
use Rattle.rules.specs.Check.{sized, total_of, checked}
use Rattle.rules.specs.CheckLaws.{passing_of, passes_counts, passes_total}
use Rattle.std.specs.Float.Ieee.Bits.{is_true}
use Rattle.rules.specs.Slices.{tree_of}
use Rattle.arena.specs.Trees.{AnyLinks, Floats, Links}
use Rattle.lists.specs.Lent.{EntriesCount}
use Rattle.validate.specs.Granted.{sized-floats, sized_links}

module _ (s : Settings) (n : Counters) (fs : List Float) (ls : List ℕ) (ok : checked s (tree_of s n fs ls) ≡ Ok tt) where
  passing_sized : sized s (tree_of s n fs ls) ≡ true
  passing_sized = is_true _ (passing_of s (tree_of s n fs ls) ok).counts

  pub passing_floats : Sized s → floats_needed s ≤ length fs → Floats s n (length fs)
  passing_floats z r = sized-floats s n fs ls z r passing_sized

  pub passing_links : Sized s → links_needed s ≤ length ls → Links s n (length ls)
  passing_links z r = sized_links s n fs ls z r passing_sized

  -- the entries' weights are counts, and their total is at most 2^53, whatever the links
  pub passing_counts : EntriesCount s n fs
  unfolding tree_of
  passing_counts other = passes_counts s (tree_of s n fs ls) ok

  pub passing_total : AnyLinks s n fs (λ t. total_of t.entries ≤ most)
  unfolding tree_of
  passing_total other = passes_total s (tree_of s n fs ls) ok

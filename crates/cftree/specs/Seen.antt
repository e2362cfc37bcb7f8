-- What an accepted call that only reads may lean on: no refusal applies.
use Rattle.std.specs.Prelude.{ℕ, ◌*◌, ◌≤◌, ◌<◌, ◌≡◌, List, T, length, get_or, Float, Ok}
use Rattle.std.specs.Float.{binary64}
use Rattle.std.specs.Float.Ieee.{fits}
use Rattle.head.specs.declared.Head.{Head}
use Rattle.head.specs.declared.Settings.{Settings}
use Rattle.head.specs.Heads.{settings_of}
use Rattle.head.specs.Limits.{Sized}
use Rattle.rules.specs.Check.{checked, total_of}
use Rattle.rules.specs.Tree.{Tree}
use Rattle.rules.specs.Slices.{tree_of}
use Rattle.rules.specs.Calls.{answer_of, lent_tree, tree_refusals, spread_refusals}
use Rattle.rules.specs.CallLaws.{Readable, spread_taken}
use Rattle.laws.specs.Check.Both.{passing_rests}
use Rattle.arena.specs.Trees.{Floats, Links, count_entries_lem}
use Rattle.validate.specs.Granted.{lent_binary64}
use Rattle.validate.specs.Passing.{passing_floats, passing_links}
use Rattle.refusals.specs.Granted.{look_grants}
use Rattle.route.specs.Routing.{Routable, rest_routable}

module _ (h : Head) (fs : List Float) (ls : List ℕ) where
  abbrev s : Settings
  s = settings_of h

  abbrev t : Tree
  t = lent_tree h fs ls

  -- the tree passes, and its slices serve
  pub record Seen : Type 0 where
    pub sized : Sized s
    pub floats_in_lem : Floats s h.counters (length fs)
    pub links_in : Links s h.counters (length ls)
    pub passes : checked s (tree_of s h.counters fs ls) ≡ Ok tt

  pub readable_seen : Readable h fs ls → Seen
  unfolding lent_tree
  readable_seen r =
      let z = r.roomy.sized in
      record {
        sized = z;
        floats_in_lem = passing_floats s h.counters fs ls r.passes z r.roomy.floats_room;
        links_in = passing_links s h.counters fs ls r.passes z r.roomy.links_room;
        passes = r.passes;
      }

  pub look_seen : answer_of (tree_refusals h fs ls) ≡ Ok tt → Seen
  look_seen e = readable_seen (look_grants h fs ls e)

  pub spread_seen : (out : List Float) → answer_of (spread_refusals h fs ls out) ≡ Ok tt → Seen × (h.counters.entries * s.dim ≤ length out)
  unfolding lent_tree
  spread_seen out e = let a = spread_taken h fs ls out e in (readable_seen a.readable, rw (count_entries_lem s h.counters fs ls) at a.room)

  pub routable : Seen → (d : Float) → ((i : ℕ) → T (fits binary64 (get_or fs i d))) → 0 < length t.entries → Routable s t
  unfolding lent_tree
  routable g d all some = rest_routable s t (total_of t.entries) (passing_rests s t (lent_binary64 s h.counters fs ls d all) g.passes) some

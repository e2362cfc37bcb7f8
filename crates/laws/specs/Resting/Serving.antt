-- What every call but creation finds and leaves: a head within its limits, buffers with room, and in them a tree at rest.
use Rattle.std.specs.Prelude.{ℕ, ◌≤◌, ◌≡◌, true, List, [], drop, Float, Ok}
use Rattle.std.proofs.Common.{sym, arith, length-append, length-drop}
use Rattle.std.proofs.Math.Path.{subst}
use Rattle.std.proofs.Math.ListN.{length}
use Rattle.head.specs.declared.Settings.{Settings}
use Rattle.head.specs.declared.Head.{Head}
use Rattle.head.specs.Heads.{new_counters, settings_of, with_counters}
use Rattle.head.specs.Counting.{new_running}
use Rattle.head.specs.Sizes.{links_needed, floats_needed}
use Rattle.head.specs.Limits.{allowed-sized, Sized, sizes_within, choices_within, allowed}
use Rattle.rules.specs.Calls.{Made, Lent, lent_tree, create_refusals, fronted, changed, made_by, created}
use Rattle.rules.specs.CallLaws.{create_allows, create_roomy, changed_settings}
use Rattle.rules.specs.Cleared.{changed-tree}
use Rattle.rules.specs.Creation.{made-done}
use Rattle.rules.specs.Slices.{counters_of, floats_of, links_of}
use Rattle.rules.specs.Stored.{stored}
use Rattle.rules.specs.Tree.{Tree, fresh}
use Rattle.laws.specs.Shapes.{fresh_shaped, ShapedTree}
use Rattle.laws.specs.Check.Both.{AtRest}
use Rattle.laws.specs.Running.{Fine}
use Rattle.laws.specs.Resting.Rests.{fresh_rests}
use Rattle.laws.specs.Resting.Threshold.{fine_lent, limits_kept}
use Rattle.laws.specs.Resting.Fitting.{resting_fits}

pub record Serving (h : Head) (fs : List Float) (ls : List ℕ) (rows : ℕ) : Type 0 where
  pub allows : allowed h ≡ true
  pub floats_room : floats_needed (settings_of h) ≤ length fs
  pub links_room : links_needed (settings_of h) ≤ length ls
  pub rests : AtRest (settings_of h) (lent_tree h fs ls) rows
  pub shaped : ShapedTree (settings_of h) (lent_tree h fs ls)

pub sizes_of : {h : Head} {fs : List Float} {ls : List ℕ} {rows : ℕ} → Serving h fs ls rows → Sized (settings_of h)
sizes_of {h} p = allowed-sized h p.allows

room_kept : {A : Type 0} (new old : List A) (n : ℕ) → n ≤ length old → n ≤ length (fronted new old)
unfolding fronted
room_kept new old n h = let a = length-append new (drop (length new) old) in let b = length-drop (length new) old in omega arith

-- ---- a call that leaves another tree at rest

module _ (h : Head) (l : Lent) {rows : ℕ} (p : Serving h l.floats l.links rows) (u : Tree) {n : ℕ} (r : AtRest (settings_of h) u n)
    (k : ShapedTree (settings_of h) u) where
  -- the buffers hold it
  pub left-tree : lent_tree (changed h l u).head (changed h l u).lent.floats (changed h l u).lent.links ≡ u
  left-tree = changed-tree h l u (sizes_of p) (resting_fits (sizes_of p) u n r k)

  pub serving_next : (Fine (lent_tree h l.floats l.links).running → Fine u.running)
      → Serving (changed h l u).head (changed h l u).lent.floats (changed h l u).lent.links n
  serving_next fine = record {
    allows = (unfold changed in limits_kept h u p.allows (fine (fine_lent h l.floats l.links p.allows)));
    floats_room = subst (λ s. floats_needed s ≤ length (changed h l u).lent.floats) (sym q)
        (unfold changed in room_kept (floats_of (settings_of h) u) l.floats _ p.floats_room);
    links_room = subst (λ s. links_needed s ≤ length (changed h l u).lent.links) (sym q)
        (unfold changed in room_kept (links_of (settings_of h) u) l.links _ p.links_room);
    rests = subst (λ s. AtRest s (lent_tree (changed h l u).head (changed h l u).lent.floats (changed h l u).lent.links) n) (sym q)
        (subst (λ t. AtRest (settings_of h) t n) (sym left-tree) r);
    shaped = subst (λ s. ShapedTree s (lent_tree (changed h l u).head (changed h l u).lent.floats (changed h l u).lent.links)) (sym q)
        (subst (ShapedTree (settings_of h)) (sym left-tree) k);
  }
    where
      q : settings_of (changed h l u).head ≡ settings_of h
      q = changed_settings h l u

-- ---- creation

-- what it leaves serves, and holds a fresh tree
pub record Fresh (m : Made) : Type 0 where
  pub serving : Serving m.head m.floats m.links 0
  pub threshold : Float
  pub is : lent_tree m.head m.floats m.links ≡ fresh threshold

module _ (h : Head) (fs : List Float) (ls : List ℕ) where
  abbrev new : Settings
  new = settings_of h

  fresh-made : allowed h ≡ true → floats_needed new ≤ length fs → links_needed new ≤ length ls → Fresh (made_by [] h fs ls)
  unfolding made_by fronted with_counters settings_of lent_tree counters_of new_counters new_running fresh allowed sizes_within choices_within
  fresh-made ok p q =
      let z = allowed-sized h ok in
      let thr = h.counters.running.threshold in
      let rest = fresh_rests z thr in
      let f = resting_fits z (fresh thr) 0 rest (fresh_shaped new thr) in
      let back = stored new z (fresh thr) f (drop (length (floats_of new (fresh thr))) fs) (drop (length (links_of new (fresh thr))) ls) in
      record {
        serving = record {
          allows = ok;
          floats_room = room_kept (floats_of new (fresh thr)) fs _ p;
          links_room = room_kept (links_of new (fresh thr)) ls _ q;
          rests = subst (λ t. AtRest new t 0) (sym back) rest;
          shaped = subst (ShapedTree new) (sym back) (fresh_shaped new thr);
        };
        threshold = thr;
        is = back;
      }

  pub created-fresh : (created h fs ls).answer ≡ Ok tt → Fresh (created h fs ls)
  unfolding created
  created-fresh e =
      let (none, is) = made-done (create_refusals h fs ls) h fs ls e in
      let r = create_roomy h fs ls none in
      subst Fresh (sym is) (fresh-made (create_allows h fs ls none) r.floats_room r.links_room)

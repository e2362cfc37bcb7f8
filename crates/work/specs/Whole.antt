-- The whole slices after a changing call: the front new, the rest as lent.
use Rattle.std.specs.Prelude.{ℕ, ◌≡◌, List, ◌++◌, length, drop, take, Float, Ok}
use Rattle.std.proofs.Common.{arith}
use Rattle.head.specs.declared.Head.{Head}
use Rattle.head.specs.declared.Counters.{Counters}
use Rattle.head.specs.Heads.{settings_of, with_counters}
use Rattle.head.specs.Limits.{Sized, allowed-sized}
use Rattle.head.specs.Sizes.{floats_needed, links_needed, scratch_floats_needed, scratch_links_needed}
use Rattle.rules.specs.Tree.{Tree}
use Rattle.rules.specs.Slices.{tree_of}
use Rattle.rules.specs.Calls.{Lent, Left, lent_tree, changed}
use Rattle.rules.specs.CallLaws.{Ready, put_front}
use Rattle.arena.specs.Trees.{Floats, Links}
use Rattle.arena.specs.Cut.{tree-cut}
use Rattle.validate.specs.Passing.{passing_floats, passing_links}
use Rattle.refusals.specs.Lending.{lending}
use Rattle.fronts.specs.Fronts.{Fronts, AllLeft}

-- what an accepted call gives back and leaves
abbrev pub head_left : Head → List Float → List ℕ → List Float → List ℕ → Left
head_left g fs ls sf sl = record { head = g; answer = Ok tt; lent = lending fs ls sf sl }

module _ (h : Head) (l : Lent) (ready : Ready h l) where
  pub sized : Sized (settings_of h)
  sized = allowed-sized h ready.allows

  floats_in_lem : Floats (settings_of h) h.counters (length l.floats)
  unfolding lent_tree
  floats_in_lem = passing_floats (settings_of h) h.counters l.floats l.links ready.passes sized ready.floats_room

  links_in : Links (settings_of h) h.counters (length l.links)
  unfolding lent_tree
  links_in = passing_links (settings_of h) h.counters l.floats l.links ready.passes sized ready.links_room

  -- the needed fronts serve, and hold the tree that is lent
  pub fronts : {a b c d : ℕ} → a ≡ floats_needed (settings_of h) → b ≡ links_needed (settings_of h) → c ≡ scratch_floats_needed (settings_of h)
      → d ≡ scratch_links_needed (settings_of h) → Fronts (settings_of h) h.counters a b c d
  fronts p q r o =
      let f = floats_in_lem in
      let k = links_in in
      record {
        tree = record {
          floats_in_lem = record { sized = sized; nodes_in = f.nodes_in; entries_in = f.entries_in; room = omega arith };
          links_in = record { sized = sized; nodes_in = k.nodes_in; room = omega arith };
          floats_exact = p;
          links_exact = q;
        };
        scratch_exact = r;
        numbers_exact = o;
      }

  pub cut : {j k : ℕ} → j ≡ floats_needed (settings_of h) → k ≡ links_needed (settings_of h)
      → tree_of (settings_of h) h.counters (take j l.floats) (take k l.links) ≡ lent_tree h l.floats l.links
  unfolding lent_tree
  cut p q = tree-cut (settings_of h) h.counters l.floats l.links floats_in_lem links_in p q

pub left-whole : (h : Head) (l : Lent) (t : Tree) {g : Head} {n : Counters} {gs : List Float} {ks : List ℕ} {ss : List Float} {ns : List ℕ} {i j k m : ℕ}
    → AllLeft (settings_of h) t n gs ks ss ns → g ≡ with_counters h n → length gs ≡ i → length ks ≡ j → length ss ≡ k → length ns ≡ m
    → head_left g (gs ++ drop i l.floats) (ks ++ drop j l.links) (ss ++ drop k l.scratch_floats) (ns ++ drop m l.scratch_links) ≡ changed h l t
unfolding changed
left-whole h l t {g} {n} {gs} {ks} {ss} {ns} {i} {j} {k} {m} d c p o u v =
    rw (put_front gs l.floats i p, put_front ks l.links j o, put_front ss l.scratch_floats k u, put_front ns l.scratch_links m v, c, d.tree.counters, d.tree.floats, d.tree.links, d.scratch, d.numbers)

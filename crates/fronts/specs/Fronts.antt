-- What is lent to a call's work, and what it leaves: as much of each slice as is needed, holding the tree and 0 besides.
use Rattle.std.specs.Prelude.{ℕ, ◌≡◌, List, replicate, Float}
use Rattle.std.proofs.Common.{sym, ap₂, ◌∙◌}
use native.Mathlib.Omega.{arith}
use Rattle.binary64.specs.Operators.{f0}
use Rattle.head.specs.declared.Settings.{Settings}
use Rattle.head.specs.declared.Counters.{Counters}
use Rattle.head.specs.Heads.{new_counters}
use Rattle.head.specs.Limits.{Sized}
use Rattle.head.specs.Sizes.{floats_needed, links_needed, scratch_floats_needed, scratch_links_needed, nodes_some}
use Rattle.rules.specs.Tree.{Tree, fresh}
use Rattle.rules.specs.Reinsert.{cleared}
use Rattle.rules.specs.Slices.{tree_of, counters_of, floats_of, links_of}
use Rattle.arena.specs.Trees.{Floats, Links, count_nodes_lem, count_entries_lem}
use Rattle.scratch.specs.Stored.{Scratch}

-- ---- what is lent

pub record TreeFronts (s : Settings) (n : Counters) (floats links : ℕ) : Type 0 where
  pub floats_in_lem : Floats s n floats
  pub links_in : Links s n links
  pub floats_exact : floats ≡ floats_needed s
  pub links_exact : links ≡ links_needed s

pub record Fronts (s : Settings) (n : Counters) (floats links scratch numbers : ℕ) : Type 0 where
  pub tree : TreeFronts s n floats links
  pub scratch_exact : scratch ≡ scratch_floats_needed s
  pub numbers_exact : numbers ≡ scratch_links_needed s

-- ---- what is left: the tree t

pub record TreeLeft (s : Settings) (t : Tree) (r : Counters) (fs : List Float) (ls : List ℕ) : Type 0 where
  pub counters : r ≡ counters_of t
  pub floats : fs ≡ floats_of s t
  pub links : ls ≡ links_of s t

pub record AllLeft (s : Settings) (t : Tree) (r : Counters) (fs : List Float) (ls : List ℕ) (sf : List Float) (sl : List ℕ) : Type 0 where
  pub tree : TreeLeft s t r fs ls
  pub scratch : sf ≡ replicate (scratch_floats_needed s) f0
  pub numbers : sl ≡ replicate (scratch_links_needed s) 0

-- the counters that say what is in the slices are the tree's
pub counters_back : (s : Settings) (n : Counters) (fs : List Float) (ls : List ℕ) → n ≡ counters_of (tree_of s n fs ls)
unfolding counters_of tree_of
counters_back s n fs ls =
    ap₂ (λ (a b : ℕ). counting a b) (sym (count_nodes_lem s n fs ls)) (sym (count_entries_lem s n fs ls))
  where
    counting : ℕ → ℕ → Counters
    counting a b = record { nodes = a; entries = b; root = n.root; running = n.running }

-- ---- with other counters, after work that keeps the lengths

module _ {s : Settings} {n m : Counters} {a b : ℕ} where
  pub tree_fronts : {a' b' : ℕ} → TreeFronts s n a b → a' ≡ a → b' ≡ b → Floats s m a → Links s m b → TreeFronts s m a' b'
  tree_fronts t p q f l = rw (p, q) record { floats_in_lem = f; links_in = l; floats_exact = t.floats_exact; links_exact = t.links_exact }

  pub all_fronts : {c d a' b' c' d' : ℕ} → Fronts s n a b c d → a' ≡ a → b' ≡ b → c' ≡ c → d' ≡ d → Floats s m a → Links s m b → Fronts s m a' b' c' d'
  all_fronts t p q r o f l =
      record { tree = tree_fronts t.tree p q f l; scratch_exact = r ∙ t.scratch_exact; numbers_exact = o ∙ t.numbers_exact }

pub scratch_in : {s : Settings} {n : Counters} {a b c d : ℕ} → Fronts s n a b c d → Scratch s c d
unfolding scratch_floats_needed scratch_links_needed
scratch_in t = let p = t.scratch_exact in let q = t.numbers_exact in record { floats_in_lem = omega arith; numbers_in = omega arith }

-- ---- an empty tree

module _ (s : Settings) (z : Sized s) (n : Counters) (threshold : Float) (e : n ≡ new_counters threshold) where
  pub new_fronts : {a b : ℕ} → a ≡ floats_needed s → b ≡ links_needed s → TreeFronts s n a b
  unfolding new_counters
  new_fronts p q =
      rw e
      record {
        floats_in_lem = record { sized = z; nodes_in = nodes_some s; entries_in = omega arith; room = omega arith };
        links_in = record { sized = z; nodes_in = nodes_some s; room = omega arith };
        floats_exact = p;
        links_exact = q;
      }

  pub new-cleared : (fs : List Float) (ls : List ℕ) → cleared (tree_of s n fs ls) ≡ fresh threshold
  unfolding cleared fresh tree_of new_counters
  new-cleared fs ls = rw e

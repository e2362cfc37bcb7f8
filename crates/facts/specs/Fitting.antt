-- Room, and what a passing tree lists, as tests that compute: a roomy tree passes the one, a tree that passes the check the other.
use Rattle.std.specs.Prelude.{◌+◌, ◌≡◌, Bool, true, ◌&&◌, leb, length, Ok, Err}
use Rattle.std.proofs.Common.{le-leb, arith}
use denote.Floats.{is_true}
use Rattle.head.specs.declared.Settings.{Settings}
use Rattle.head.specs.Sizes.{node_cap, entry_cap}
use Rattle.rules.specs.Lists.{every, up_from}
use Rattle.rules.specs.Tree.{Tree, node_at, cap}
use Rattle.rules.specs.Check.{once_each, leaf_lists, checked, Verdict}
use Rattle.laws.specs.Check.Both.{passing_linked}
use Rattle.laws.specs.Room.Nodes.{Roomy}
use Rattle.facts.specs.Spared.{every-below}

-- at most N nodes and M + 1 entries, and no list over its cap by more than one
unfoldable pub roomy : Settings → Tree → Bool
roomy s t =
    leb (length t.nodes) (node_cap s)
    && (leb (length t.entries) (entry_cap s)
    && every (λ i. leb (length (node_at t i).list) (cap s (node_at t i).leaf + 1)) (up_from (length t.nodes) 0))

pub roomy-told : (s : Settings) (t : Tree) → Roomy s t → roomy s t ≡ true
unfolding roomy
roomy-told s t r =
    rw (le-leb (length t.nodes) (node_cap s) r.nodes, le-leb (length t.entries) (entry_cap s) r.entries)
    (every-below (λ i. leb (length (node_at t i).list) (cap s (node_at t i).leaf + 1)) (length t.nodes) 0
    (λ i h. le-leb (length (node_at t i).list) (cap s (node_at t i).leaf + 1) (r.lists i (omega arith))))

-- a tree that is said to pass lists each entry once
unfoldable pub trusted : Verdict → Tree → Bool
trusted (Ok tt) t = once_each (length t.entries) (leaf_lists t.nodes)
trusted (Err condition) t = true

pub passing_trusted : (s : Settings) (t : Tree) → checked s t ≡ Ok tt → trusted (Ok tt) t ≡ true
unfolding trusted
passing_trusted s t e = is_true (once_each (length t.entries) (leaf_lists t.nodes)) (passing_linked s t e)

-- A tree of M 1 has five slots, of 17 floats at most, and the sixth is the answer's.
use Rattle.std.proofs.Common.{ℕ, ◌≡◌, ◌*◌, ◌≤◌, ap, ◌∙◌, arith}
use Rattle.std.proofs.Math.Path.{refl}
use Rattle.binary64.specs.Operators.{f0}
use Rattle.head.specs.declared.Settings.{Settings}
use Rattle.head.specs.declared.Counters.{Counters}
use Rattle.head.specs.Limits.{Sized}
use Rattle.head.specs.Heads.{new_counters}
use Rattle.head.specs.Counting.{count_entries}
use Rattle.head.specs.Sizes.{node_cap, entry_cap, slot_width, floats_needed, nodes_some}
use Rattle.arena.specs.Trees.{Floats}
use Rattle.replay_leaves.proofs.vectors.taken.Goals as goal

-- the floats of a tree with two entries, and of one slot more
room : (s : Settings) (n : Counters) (l : ℕ) → Sized s → s.max_leaves ≡ 1 → n ≡ count_entries 2 (new_counters f0) → l ≡ 102
    → Floats s n l × (n.entries ≡ 2) × (6 * slot_width s ≤ l)
unfolding node_cap entry_cap floats_needed slot_width count_entries new_counters
room s n l z e c k =
    let d = z.dim_few in
    rw (c, k)
    (record { sized = z; nodes_in = nodes_some s; entries_in = rw e (omega arith); room = rw e (omega arith) }, refl, omega arith)

pub read-requires : goal.read-requires
unfolding slot_width
read-requires g c =
    let w = c.slot_width.ensures in
    let d = c.requires.0.dim_few in
    (omega arith, omega arith)

pub agrees-requires : goal.agrees-requires
agrees-requires g c =
    room c.args.s c.with_entries-n.result _ c.requires.0 c.requires.1
    (c.with_entries-n.ensures ∙ ap (count_entries 2) c.new.ensures) c.read.auto.floats

-- `arena::clear::floats` meets its contract: the nodes' slots and the entries' slots, each tidied, are the tree's floats.
use Prim.Native.Nat.{◌*◌, ◌-◌}
use mathlib.Core.Path.{◌≡◌}
use native.Mathlib.Omega.{arith}
use borrow.Author.Rules.{rules}
use borrow.Rule.Slice.PartMut.{put_mid, same_len_mid}
use lib.ListN.{length, length-take, length-drop}
use Rattle.arena.specs.Trees.{Rooms, slots_room}
use Rattle.stretch.specs.Stretches.{put_stretch}
use Rattle.arena.specs.Tidied.{floats_tidied}
use Rattle.arena.proofs.clear.floats.Statement.{statement}
use Rattle.arena.proofs.clear.floats.Tie as tie

-- where the nodes' slots end, and what the counts take of either part
rooms : (c : tie.After-slot_width)
    → Rooms c.args.s c.args.n (c.node_cap.result * c.slot_width.result)
rooms c =
    let start = c.before.before.before in
    slots_room start.args.s start.args.n _ c.node_cap.result c.slot_width.result start.requires.0
    c.node_cap.ensures c.slot_width.ensures

-- with the nodes' slots tidied, the slice is as long as it was
long : (c : tie.After-slice_known-2-1)
    → length (put_mid 0 (c.node_cap.result * c.slot_width.result - 0)
    c.args.floats.now c.slots.new.p) ≡ length
    c.args.floats.now
long c =
    let node-cap = c.node_cap in
    let slot-width = c.slot_width in
    let start = c.before.before.before.before.before.before.before in
    same_len_mid 0 (node-cap.result * slot-width.result - 0) start.args.floats.now c.slots.new.p
    c.slots.auto.p

slots-requires : tie.Need-slots-requires
slots-requires c κs =
    let start = c.before.before.before.before in
    let r = rooms c.before in
    (start.requires.0.sized, simp (length-take, length-drop) (omega arith))

slots-requires-2 : tie.Need-slots-requires-2
slots-requires-2 c κs =
    let start = c.before.before.before.before.before.before.before.before in
    let r = rooms c.before.before.before.before.before in
    let l = long c.before in
    (start.requires.0.sized, simp (length-take, length-drop) (omega arith))

returns : tie.Need-returns
unfolding put_stretch
returns c =
    let node-cap = c.node_cap in
    let slot-width = c.slot_width in
    let slots = c.slots in
    let start = c.before.before.before.before.before.before.before.before.before.before.before in
    let end = node-cap.result * slot-width.result in
    λ ls. floats_tidied start.args.s start.args.n start.args.floats.now ls _ start.requires.0 start.requires.1 end (end - 0)
    slots.new.p c.slots-2.new.p (rooms c.before.before.before.before.before.before.before.before).end
    (omega arith) slots.auto.p slots.ensures c.slots-2.ensures

pub floats_spec : {M : Type 1} → statement M
floats_spec =
    tie.close (tie.spec (λ c κs. search rules) (λ c κs. search rules) (λ c. (let r = rooms c in omega arith)) (λ c. search rules) (λ c. search rules)
    (λ c. (let r = rooms c in omega arith)) slots-requires (λ c. (let r = rooms (c.before.before.before.before) in omega (arith, long c)))
    (λ c. (let r = rooms (c.before.before.before.before) in omega (arith, long c)))
    (λ c. (let r = rooms (c.before.before.before.before) in omega (arith, long c))) (λ c. search rules) slots-requires-2 (λ c. search rules)
    returns)

-- `arena::clear::slots` meets its contract: after i turns the first i slots are tidied and the rest stands as it was.
use Prim.Native.Nat.{◌+◌, ◌*◌, ◌-◌, ◌≤◌}
use mathlib.Core.Path.{◌≡◌, refl, sym, ◌∙◌}
use native.Mathlib.Omega.{arith}
use borrow.Author.Rules.{rules}
use borrow.Rule.Slice.PartMut.{same_len_mid}
use lib.ListN.{length}
use Rattle.head.specs.Sizes.{slot_width}
use Rattle.binary64.specs.Operators.{f0}
use Rattle.arena.specs.Numbered.{slot_long}
use Rattle.stretch.specs.Stretches.{put_stretch, turn_room}
use Rattle.stretch.specs.Tidy.{tidy_slot}
use Rattle.arena.specs.Tidied.{slot_keeps}
use Rattle.arena.specs.Pieces.{partly, partly_none, partly_turn, partly_end}
use Rattle.arena.proofs.clear.slots.Statement.{statement}
use Rattle.arena.proofs.clear.slots.Tie as tie

abbrev invariant-loop : tie.invariant-loop-i
invariant-loop s k p₀ w i₀ p i = (i ≤ k) × (length p ≡ length p₀) × (p ≡ partly (tidy_slot s) (slot_width s) p₀ i)

abbrev decreases-loop : tie.decreases-loop-i
decreases-loop s k p₀ w i₀ p i = k - i

-- in a turn, piece i is there
fits : (c : tie.In-loop-i invariant-loop decreases-loop)
    → (c.loop-i.i * c.slot_width-w.result + c.slot_width-w.result ≤ length
    c.args.p.now)
    × (c.loop-i.i * slot_width c.args.s ≤ length c.args.p.now)
fits c =
    let start = c.before.before.before.before in
    turn_room c.loop-i.i start.args.k c.slot_width-w.result (slot_width start.args.s)
    (length start.args.p.now) c.loop-i-test.true c.slot_width-w.ensures start.requires.1

-- and so are all pieces
all : (c : tie.After-slice_known-1 invariant-loop decreases-loop) → c.args.k * slot_width c.args.s ≤ length c.args.p.now
all c = let start = c.before in start.requires.1

end : (c : tie.After-loop-i invariant-loop decreases-loop)
    → c.args.k * c.slot_width-w.result ≤ length c.args.p.now
end c = rw c.slot_width-w.ensures (all c.before.before.before)

loop-holds : tie.Need-loop-i-init invariant-loop decreases-loop
loop-holds c =
    let start = c.before.before in (
      search rules,
      refl,
      partly_none (tidy_slot start.args.s) (slot_width start.args.s) (slot_keeps start.args.s start.requires.0)
          start.args.p.now,
    )

tidy-requires : tie.Need-tidy-requires invariant-loop decreases-loop
tidy-requires c κs =
    let slot-width = c.slot_width-w in
    let start = c.before.before.before.before.before in
    let room = fits c.before in (
      start.requires.0,
      slot_long start.args.s c.loop-i.p c.loop-i.i slot-width.result
          (record { sized = start.requires.0; room = rw (sym slot-width.ensures) (omega arith) }) slot-width.ensures,
    )

loop-again : tie.Need-loop-i-preserved invariant-loop decreases-loop
unfolding put_stretch tidy_slot
loop-again c =
    let loop = c.loop-i in
    let slot-width = c.slot_width-w in
    let start = c.before.before.before.before.before.before.before.before in
    let s = start.args.s in
    let i = loop.i in
    let w = slot-width.result in (
      omega arith,
      same_len_mid (i * w) (i * w + w - i * w) loop.p c.tidy.new.p c.tidy.auto.p
          ∙ loop.invariant.1,
      partly_turn (tidy_slot s) (slot_width s) (slot_keeps s start.requires.0) start.args.p.now i w loop.p
          c.tidy.new.p slot-width.ensures (fits c.before.before.before.before).1 loop.invariant.2
          c.tidy.ensures,
    )

same_length : tie.Need-shape_of-p invariant-loop decreases-loop
same_length c =
    let slot-width = c.slot_width-w in
    let loop = c.loop-i in
    let start = c.before.before.before.before.before.before.before.before in
    let at = start.args.k * slot-width.result in
    same_len_mid at (length loop.p - at) loop.p c.zero.new.p c.zero.auto.p ∙ loop.invariant.1

returns : tie.Need-returns invariant-loop decreases-loop
unfolding put_stretch
returns c =
    let loop = c.loop-i in
    let slot-width = c.slot_width-w in
    let start = c.before.before.before.before.before.before.before.before in
    let s = start.args.s in
    partly_end (tidy_slot s) (slot_width s) (slot_keeps s start.requires.0) start.args.p.now f0 loop.i slot-width.result start.args.k
    loop.p c.zero.new.p slot-width.ensures (omega arith) (all c.before.before.before.before.before.before.before)
    loop.invariant.2 c.zero.ensures

pub slots_spec : {M : Type 1} → statement M
slots_spec =
    tie.close (tie.spec invariant-loop decreases-loop (λ c κs. search rules) loop-holds (λ c. omega (arith, fits c)) (λ c. omega (arith, fits c))
    (λ c. omega (arith, fits c)) (λ c. omega (arith, fits c)) (λ c. omega (arith, fits c)) (λ c. omega (arith, fits c)) tidy-requires
    (λ c. search rules) (λ c. search rules) loop-again (λ c. omega (arith, end c)) (λ c. omega (arith, end c)) (λ c. omega (arith, end c))
    (λ c. omega (arith, end c)) (λ c. omega (arith, end c)) (λ c κs. search rules) same_length returns)

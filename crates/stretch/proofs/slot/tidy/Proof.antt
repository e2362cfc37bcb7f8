-- `stretch::slot::tidy` meets its contract: zeros behind the deviations kept make the slot of the summary that it holds.
use Prim.Native.Nat.{◌≤◌}
use native.Mathlib.Omega.{arith}
use borrow.Author.Rules.{rules}
use Rattle.stretch.specs.Stretches.{put_stretch}
use Rattle.rules.specs.Stored.{slots_in_lem}
use Rattle.stretch.specs.Tidy.{tidy_slot_lem}
use Rattle.stretch.proofs.slot.tidy.Statement.{statement}
use Rattle.stretch.proofs.slot.tidy.Tie as tie

-- no more deviations are kept than there are channels
few : (c : tie.After-slots-n) → c.slots-n.result ≤ c.args.s.dim
few c = rw c.slots-n.ensures (slots_in_lem c.args.s c.requires.0)

returns : tie.Need-returns
unfolding put_stretch
returns c =
    let slots = c.slots-n in
    let start = c.before.before.before.before.before.before in
    tidy_slot_lem start.args.s start.requires.0 start.args.p.now c.zero.new.p slots.result start.requires.1
    slots.ensures (few c.before.before.before.before) c.zero.ensures

pub tidy_spec : {M : Type 1} → statement M
tidy_spec =
    tie.close (tie.spec (λ c κs. search rules) (λ c. search rules) (λ c. omega (arith, few c)) (λ c. omega (arith, few c)) (λ c. omega (arith, few c))
    (λ c. omega (arith, few c)) (λ c. search rules) (λ c κs. search rules) (λ c. search rules) returns)

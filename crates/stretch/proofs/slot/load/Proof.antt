-- `stretch::slot::load` meets its contract: the eight numbers of a part are those of the slot.
use native.Mathlib.Omega.{arith}
use borrow.Author.Rules.{rules}
use lib.ListN.{length-take, length-drop}
use Rattle.rules.specs.Stored.{slots_in_lem}
use Rattle.stretch.specs.Slots.{loaded}
use Rattle.stretch.proofs.slot.load.Statement.{statement}
use Rattle.stretch.proofs.slot.load.Tie as tie

copied-requires-2 : tie.Need-copied-deviation-requires
copied-requires-2 c κs =
    let start = c.before.before.before.before.before in
    let slots = c.slots-n in
    let few = slots_in_lem start.args.s start.requires.0 in
    let n = slots.ensures in
    (omega arith, simp (length-take, length-drop) (omega arith))

returns : tie.Need-returns
returns c =
    let slots = c.slots-n in
    let copied = c.copied-mean in
    let start = c.before.before.before.before.before.before.before in
    loaded start.args.s start.requires.0 start.args.p.now start.requires.1 _ _ _ slots.ensures copied.ensures
    c.copied-deviation.ensures

pub load_spec : {M : Type 1} → statement M
load_spec =
    tie.close (tie.spec (λ c κs. search rules) (λ c. search rules) (λ c. search rules) (λ c. search rules) (λ c. search rules) (λ c κs. search rules)
    (λ c. search rules) (λ c. search rules) (λ c. search rules) (λ c. search rules) copied-requires-2 (λ c. search rules) returns)

-- The last of those left is placed in each turn.
use Rattle.std.proofs.Common.{◌∙◌, arith, sym}
use Rattle.rules.specs.Slices.{tree_of}
use Rattle.scratch.specs.Slots.{slot_there}
use Rattle.reinsert.specs.Replace.{left-few, last_placeable, replace_on, replace_turn, replace_end}
use Rattle.reinsert.proofs.replace_all.Goals as goal

pub replace_slot-m-requires-clause-floats : goal.replace_slot-m-requires-clause-floats
replace_slot-m-requires-clause-floats c =
    let few = left-few c.args.s c.args.scratch.now c.args.count _ c.requires.replaceable in (
      c.loop-i.invariant.0,
      c.loop-i.invariant.1,
      slot_there c.args.s _ _ c.requires.floats.0.sized c.requires.floats.2 (omega (arith, few)),
    )

pub replace_slot-m-requires-clause-placeable : goal.replace_slot-m-requires-clause-placeable
replace_slot-m-requires-clause-placeable c =
    last_placeable c.args.s c.args.scratch.now c.loop-i.i _ c.loop-i-test.true c.loop-i.invariant.2

pub loop-i-preserved : goal.loop-i-preserved
loop-i-preserved c =
    let l = c.loop-i in
    let new = c.replace_slot-m in
    let t = tree_of c.args.s l.m l.floats l.links in
    let more = c.loop-i-test.true in (
      rw (sym new.auto.floats) at new.ensures.floats_2.0,
      rw (sym new.auto.links) at new.ensures.floats_2.1,
      replace_on c.args.s c.args.scratch.now l.i t more l.invariant.2 new.ensures.links_after c.requires.floats.0.sized,
      replace_turn c.args.s c.args.scratch.now l.i t more l.invariant.2 new.ensures.links_after ∙ l.invariant.3,
    )

pub returns-clause-links_after : goal.returns-clause-links_after
returns-clause-links_after c =
    sym (replace_end c.args.s c.args.scratch.now c.loop-i.i _ (omega arith)) ∙ c.loop-i.invariant.3

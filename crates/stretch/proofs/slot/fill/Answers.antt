-- A turn below the length writes the number or the zero of its place, one past it leaves all.
use Rattle.std.proofs.Common.{◌≡◌, ◌∙◌, ◌≤◌, ◌<◌, sym, length, rules, arith}
use Rattle.kernels.specs.Laws.{turns_none, turn_acts, turn_rests, turns_end}
use Rattle.stretch.specs.Pushes.{fill_front, fill_past, up_to-whole, length-fill}
use Rattle.stretch.proofs.slot.fill.Goals as goal
use Rattle.stretch.proofs.slot.fill.Goals.{then-i-n, else-i-n+then-i-p, else-i-n+else-i-p}

pub loop-i-init : goal.loop-i-init
loop-i-init c = turns_none _ _ _

pub loop-i-preserved : goal.loop-i-preserved
loop-i-preserved c =
    let e = c.loop-i.invariant in
    let a = c.args in
    let all : length a.from ≡ 8 = search rules in
    let few : a.n ≤ length a.from = omega arith in
    let long : length c.loop-i.p ≡ length a.p.now = search rules in
    elim c.if-i-n.branch [
      | then-i-n w ↦
          let below : c.loop-i.i < length a.p.now = omega (arith, w.if-i-n.true) in
          w.p-is ∙ turn_acts _ _ _ _ _ e _ below (sym (fill_front a.n a.from a.p.now few c.loop-i.i w.if-i-n.true))
      | else-i-n+then-i-p w ↦
          let below : c.loop-i.i < length a.p.now = rw (sym long) w.if-i-p.true in
          w.p-is ∙ turn_acts _ _ _ _ _ e _ below (sym (fill_past a.n a.from a.p.now few c.loop-i.i w.if-i-n.false below))
      | else-i-n+else-i-p w ↦ w.p-is ∙ turn_rests _ _ _ _ _ e (rw (sym long) w.if-i-p.false)
    ]

pub returns : goal.returns
returns c =
    let a = c.args in
    let all : length a.from ≡ 8 = search rules in
    turns_end _ _ _ _ _ c.loop-i.invariant (omega arith) ∙ up_to-whole _ a.p.now (length-fill a.n a.from a.p.now (omega arith) (omega arith))

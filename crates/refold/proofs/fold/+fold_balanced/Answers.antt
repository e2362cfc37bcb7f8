-- `refold::fold::fold_balanced` meets its contract: the halves are folded in parts of scratch that are apart.
use Rattle.std.proofs.Common.{ℕ, ◌≡◌, ◌+◌, ◌-◌, ◌*◌, ◌/◌, ◌≤◌, List, length, take, drop, refl, sym, ap, subst, ◌∙◌, arith, rules, length-drop, length-take-le, take_all}
use Rattle.head.specs.declared.Settings.{Settings}
use Rattle.head.specs.Sizes.{slot_width}
use Rattle.rules.specs.Tree.{child}
use Rattle.rules.specs.Slices.{tree_of}
use Rattle.arena.specs.Trees.{ChildrenIn}
use Rattle.refold.specs.Folds.{fold-one, fold_two, folded_as, halves_folded, slot_there, slots_small, fewer_slots, child_in, front_in, back_in, Halved, halved}
use Rattle.refold.proofs.fold.+fold_balanced.Goals as goal

-- the back half is all that is behind the front half
whole_back : (l : List ℕ) → Halved (length l) → take (length l - length l / 2) (drop (length l / 2) l) ≡ drop (length l / 2) l
whole_back l two = take_all (length l - length l / 2) (drop (length l / 2) l) (simp length-drop (omega arith))

-- the slot behind the front half's is within scratch
place_below : (s : Settings) (at n room : ℕ) → Halved n → (at + n) * slot_width s ≤ room → at + n / 2 ≤ room
place_below s at n room two r = let few : at + n ≤ room = slots_small s _ _ r in omega (arith, two.fewer)

pub copy-requires : goal.copy-requires
copy-requires t c = (
  c.requires.floats.0,
  child_in c.args.n c.args.leaf c.args.list.now 0 c.requires.floats.1 c.requires.floats.2,
  slot_there c.args.s c.requires.floats.0.sized c.args.at (length c.args.list.now) c.args.at _
      (omega (arith, c.requires.floats.2)) c.requires.s_in_bounds,
)

pub returns-then-len-eq1 : goal.returns-then-len-eq1
returns-then-len-eq1 t c = λ ls. folded_as
    (fold-one c.args.s (child (tree_of c.args.s c.args.n c.args.floats.now ls) c.args.leaf) c.args.list.now c.if-len-eq1.true)
    (c.copy.ensures ls)

pub fold_balanced-requires : goal.fold_balanced-requires
fold_balanced-requires t c =
    let list = c.args.list.now in
    let two = halved (length list) c.requires.floats.2 c.if-len-eq1.false in
    let long : length (take (length list / 2) list) ≡ length list / 2 = length-take-le (length list / 2) list (omega (arith, two.fewer)) in (
      omega (arith, c.decreases, two.fewer),
      (
        (c.requires.floats.0, front_in c.args.n c.args.leaf list (length list / 2) c.requires.floats.1, omega (arith, two.some)),
        fewer_slots c.args.s (c.args.at + length (take (length list / 2) list)) (c.args.at + length list) _ (omega (arith, two.fewer))
            c.requires.s_in_bounds,
      ),
    )

pub overflow_add-at : goal.overflow_add-at
overflow_add-at t c =
    let two = halved (length c.args.list.now) c.requires.floats.2 c.if-len-eq1.false in
    let h = place_below c.args.s c.args.at (length c.args.list.now) _ two c.requires.s_in_bounds in
    search rules

pub fold_balanced-requires-2 : goal.fold_balanced-requires-2
fold_balanced-requires-2 t c =
    let list = c.args.list.now in
    let h = length list / 2 in
    let two = halved (length list) c.requires.floats.2 c.if-len-eq1.false in
    let back = whole_back list two in
    let long : length (take (length list - h) (drop h list)) ≡ length list - h = ap length back ∙ length-drop h list in
    let kept : length c.fold_balanced.new.scratch ≡ length c.args.scratch.now = c.fold_balanced.auto.scratch in (
      omega (arith, c.decreases, two.some, two.fewer),
      (
        (
          c.requires.floats.0,
          subst (ChildrenIn c.args.n c.args.leaf) (sym back) (back_in c.args.n c.args.leaf list h c.requires.floats.1),
          omega (arith, two.fewer),
        ),
        fewer_slots c.args.s (c.args.at + h + length (take (length list - h) (drop h list))) (c.args.at + length list) _
            (omega (arith, two.fewer)) (rw kept c.requires.s_in_bounds),
      ),
    )

pub overflow_add-at-2 : goal.overflow_add-at-2
overflow_add-at-2 t c =
    let two = halved (length c.args.list.now) c.requires.floats.2 c.if-len-eq1.false in
    let h = place_below c.args.s c.args.at (length c.args.list.now) _ two c.requires.s_in_bounds in
    search rules

pub returns : goal.returns
returns t c =
    let list = c.args.list.now in
    let two = halved (length list) c.requires.floats.2 c.if-len-eq1.false in
    λ ls. folded_as
    (fold_two c.args.s (child (tree_of c.args.s c.args.n c.args.floats.now ls) c.args.leaf) list _ _ c.requires.floats.2 c.if-len-eq1.false
    refl (whole_back list two))
    (halves_folded two.some (c.fold_balanced.ensures ls) (c.fold_balanced-2.ensures ls) c.join.ensures)

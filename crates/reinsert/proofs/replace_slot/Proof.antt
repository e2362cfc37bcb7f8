-- `reinsert::replace_slot` meets its contract: the part cut out holds the summary of the slot.
use Prim.Native.Nat.{◌+◌, ◌*◌, ◌≤◌}
use mathlib.Core.Path.{◌≡◌, sym, ap, ◌∙◌, subst}
use native.Mathlib.Omega.{arith}
use borrow.Author.Rules.{rules}
use lib.ListN.{length}
use Rattle.rules.specs.Slices.{summary_in, tree_of}
use Rattle.rules.specs.Reinsert.{replaced}
use Rattle.arena.specs.Numbered.{summary_at, cut, slot_fits, slot_long}
use Rattle.grow.specs.Room.{Placeable}
use Rattle.reinsert.specs.Replace.{cut-summary}
use Rattle.reinsert.proofs.replace_slot.Statement.{statement}
use Rattle.reinsert.proofs.replace_slot.Tie as tie

-- the start, from the width worked out
abbrev start : tie.After-slot_width-w → tie.Start
start c = c.before.before.before.before

-- slot i is there, by the width that the code has worked out, and what is cut out holds its summary
fits : (c : tie.After-slot_width-w)
    → (start c).args.i * c.slot_width-w.result + c.slot_width-w.result ≤ length (start c).args.scratch.now
fits c =
    let a = (start c).args in
    slot_fits a.s a.scratch.now a.i c.slot_width-w.result (start c).requires.0.2 c.slot_width-w.ensures

summary : (c : tie.After-slot_width-w)
    → summary_in (start c).args.s (cut (start c).args.scratch.now (start c).args.i c.slot_width-w.result)
    ≡ summary_at (start c).args.s (start c).args.scratch.now (start c).args.i
summary c =
    let a = (start c).args in
    cut-summary a.s a.scratch.now a.i c.slot_width-w.result (start c).requires.0.2 c.slot_width-w.ensures

mul_at : tie.Need-overflow_mul-at
mul_at c = omega (arith, fits c)

add-place-cf : tie.Need-overflow_add-at
add-place-cf c = omega (arith, fits c.before.before)

mul-place-cf : tie.Need-offset_bounds-scratch-at
mul-place-cf c = omega (arith, fits c.before.before)

sub-place-cf : tie.Need-slice_bounds-place_cf-count
sub-place-cf c = omega (arith, fits c.before.before)

part-place-cf-start : tie.Need-slice_bounds-place_cf-start
part-place-cf-start c = omega (arith, fits c.before.before)

part-place-cf-end : tie.Need-slice_bounds-place_cf-end
part-place-cf-end c = omega (arith, fits c.before.before)

place-cf-requires : tie.Need-place_cf-requires
place-cf-requires c κs =
    let width = c.before.before.before in
    let start = start width in
    let a = start.args in (
      (
        start.requires.0.0,
        start.requires.0.1,
        slot_long a.s a.scratch.now a.i width.slot_width-w.result start.requires.0.2 width.slot_width-w.ensures,
      ),
      subst (Placeable a.s (tree_of a.s a.n a.floats.now a.links.now)) (sym (summary width)) start.requires.1,
    )

returns : tie.Need-returns
returns c =
    let new = c.before.before.before.before in
    let width = new.before.before.before.before in
    let a = (start width).args in
    let t = tree_of a.s a.n a.floats.now a.links.now in
    (new.place_cf.ensures.0, new.place_cf.ensures.1 ∙ ap (λ e. replaced a.s e t) (summary width))

pub replace_slot_spec : {M : Type 1} → statement M
replace_slot_spec =
    tie.close (tie.spec (λ c κs. search rules) mul_at add-place-cf mul-place-cf sub-place-cf part-place-cf-start part-place-cf-end place-cf-requires
    (λ c. search rules) (λ c. search rules) returns)

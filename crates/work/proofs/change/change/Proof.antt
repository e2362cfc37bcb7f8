-- `work::change::change` meets its contract: the tree in front, scratch zero, the rest of the slices as lent.
use Prim.Native.Nat.{◌-◌, ◌≤◌}
use mathlib.Core.Path.{◌≡◌, ◌∙◌}
use native.Mathlib.Omega.{arith}
use borrow.Author.Rules.{rules}
use lib.ListN.{length}
use Rattle.work.specs.Worked.{worked}
use Rattle.work.specs.Whole.{sized, fronts, cut, left-whole}
use Rattle.refusals.specs.Lending.{lending}
use Rattle.head.specs.Heads.{settings_of}
use Rattle.head.specs.Sizes.{floats_needed, links_needed, scratch_floats_needed, scratch_links_needed}
use Rattle.rules.specs.Calls.{Lent, lent_tree}
use Rattle.rules.specs.Lists.{rows_of}
use native.Mathlib.Nat.{sub-zero}
use lib.Seq.{length-take-le}
use Rattle.work.proofs.change.change.Statement.{statement}
use Rattle.work.proofs.change.change.Tie as tie

abbrev lent : tie.Start → Lent
lent c = lending c.args.floats.now c.args.links.now c.args.scratch.now c.args.numbers.now

-- how much of each slice is lent, and that it is there
abbrev start : tie.After-scratch_links_needed-sl → tie.Start
start c = c.before.before.before.before.before.before.before.before.before.before

floats : (c : tie.After-scratch_links_needed-sl) → c.floats_needed-f.result - 0 ≡ floats_needed (settings_of (start c).args.h)
floats c = sub-zero _ ∙ rw c.settings-s.ensures at c.floats_needed-f.ensures

floats-end : (c : tie.After-scratch_links_needed-sl) → c.floats_needed-f.result - 0 ≤ length (start c).args.floats.now
floats-end c = rw (floats c) (start c).requires.0.0.floats_room

links : (c : tie.After-scratch_links_needed-sl) → c.links_needed-l.result - 0 ≡ links_needed (settings_of (start c).args.h)
links c = sub-zero _ ∙ rw c.settings-s.ensures at c.links_needed-l.ensures

links_end : (c : tie.After-scratch_links_needed-sl) → c.links_needed-l.result - 0 ≤ length (start c).args.links.now
links_end c = rw (links c) (start c).requires.0.0.links_room

scratch : (c : tie.After-scratch_links_needed-sl) → c.scratch_floats_needed-sf.result - 0 ≡ scratch_floats_needed (settings_of (start c).args.h)
scratch c = sub-zero _ ∙ rw c.settings-s.ensures at c.scratch_floats_needed-sf.ensures

scratch-end : (c : tie.After-scratch_links_needed-sl) → c.scratch_floats_needed-sf.result - 0 ≤ length (start c).args.scratch.now
scratch-end c = rw (scratch c) (start c).requires.0.0.scratch_floats_room

numbers : (c : tie.After-scratch_links_needed-sl) → c.scratch_links_needed-sl.result - 0 ≡ scratch_links_needed (settings_of (start c).args.h)
numbers c = sub-zero _ ∙ rw c.settings-s.ensures at c.scratch_links_needed-sl.ensures

numbers-end : (c : tie.After-scratch_links_needed-sl) → c.scratch_links_needed-sl.result - 0 ≤ length (start c).args.numbers.now
numbers-end c = rw (numbers c) (start c).requires.0.0.scratch_links_room

floats-needed-requires : tie.Need-floats_needed-f-requires
floats-needed-requires c κs = rw c.settings-s.ensures (sized _ _ c.requires.0.0)

links-needed-requires : tie.Need-links_needed-l-requires
links-needed-requires c κs = rw c.settings-s.ensures (sized _ _ c.requires.0.0)

scratch-floats-needed-requires : tie.Need-scratch_floats_needed-sf-requires
scratch-floats-needed-requires c κs = rw c.settings-s.ensures (sized _ _ c.requires.0.0)

scratch-links-needed-requires : tie.Need-scratch_links_needed-sl-requires
scratch-links-needed-requires c κs = rw c.settings-s.ensures (sized _ _ c.requires.0.0)

part-perform-tidily-end : tie.Need-slice_bounds-perform_tidily-end
part-perform-tidily-end c = let e = floats-end c.before in omega arith

part-perform-tidily-end-2 : tie.Need-slice_bounds-perform_tidily-end-2
part-perform-tidily-end-2 c = let e = links_end (c.before.before) in omega arith

part-perform-tidily-end-3 : tie.Need-slice_bounds-perform_tidily-end-3
part-perform-tidily-end-3 c = let e = scratch-end (c.before.before.before) in omega arith

part-perform-tidily-end-4 : tie.Need-slice_bounds-perform_tidily-end-4
part-perform-tidily-end-4 c = let e = numbers-end (c.before.before.before.before) in omega arith

perform-tidily-requires : tie.Need-perform_tidily-n-requires
perform-tidily-requires c κs =
    let sizes = c.before.before.before.before.before in
    let start = c.before.before.before.before.before.before.before.before.before.before.before.before.before.before.before in
    let h = start.args.h in
    let ready = start.requires.0.0 in
    rw c.settings-s.ensures (
      fronts h (lent start) ready (length-take-le _ _ (floats-end sizes) ∙ floats sizes) (length-take-le _ _ (links_end sizes) ∙ links sizes)
          (length-take-le _ _ (scratch-end sizes) ∙ scratch sizes) (length-take-le _ _ (numbers-end sizes) ∙ numbers sizes),
      (start.requires.0.1, rw (cut h (lent start) ready (floats sizes) (links sizes)) start.requires.1),
    )

returns : tie.Need-returns
returns c =
    let sizes = c.before.before.before.before.before.before.before.before.before.before.before.before.before.before.before in
    let start = c.before.before.before.before.before.before.before.before.before.before.before.before.before.before.before.before.before.before.before.before.before.before.before.before.before in
    let a = start.args in
    let s = settings_of a.h in
    let new = c.perform_tidily-n in
    let tree = cut a.h (lent start) start.requires.0.0 (floats sizes) (links sizes) in
    left-whole a.h (lent start) (worked a.w s (rows_of a.count s.dim a.rows.now) (lent_tree a.h a.floats.now a.links.now))
    (rw tree at (rw c.settings-s.ensures at new.ensures)) c.with_counters.ensures
    (new.auto.floats ∙ length-take-le _ _ (floats-end sizes)) (new.auto.links ∙ length-take-le _ _ (links_end sizes))
    (new.auto.scratch ∙ length-take-le _ _ (scratch-end sizes)) (new.auto.numbers ∙ length-take-le _ _ (numbers-end sizes))

pub change_spec : {M : Type 1} → statement M
change_spec = tie.close (tie.spec (λ c κs. search rules) floats-needed-requires links-needed-requires scratch-floats-needed-requires scratch-links-needed-requires (λ c. search rules) (λ c. search rules) part-perform-tidily-end (λ c. search rules) (λ c. search rules) part-perform-tidily-end-2 (λ c. search rules) (λ c. search rules) part-perform-tidily-end-3 (λ c. search rules) (λ c. search rules) part-perform-tidily-end-4 perform-tidily-requires (λ c κs. search rules) (λ c. search rules) (λ c. search rules) (λ c. search rules) (λ c. search rules) returns)

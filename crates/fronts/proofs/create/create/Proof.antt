-- `fronts::create::create` meets its contract: an empty tree in front, the rest of the slices as lent.
use Prim.Native.Nat.{◌-◌, ◌≤◌}
use mathlib.Core.Path.{◌≡◌, ◌∙◌}
use native.Mathlib.Omega.{arith}
use borrow.Author.Rules.{rules}
use lib.ListN.{length}
use Rattle.fronts.specs.Fronts.{TreeLeft}
use Rattle.fronts.specs.Whole.{made-whole}
use Rattle.head.specs.Heads.{settings_of}
use Rattle.head.specs.Sizes.{floats_needed, links_needed}
use Rattle.rules.specs.Tree.{fresh}
use native.Mathlib.Nat.{sub-zero}
use lib.Seq.{length-take-le}
use Rattle.fronts.proofs.create.create.Statement.{statement}
use Rattle.fronts.proofs.create.create.Tie as tie

-- how much of each slice is lent, and that it is there
abbrev start : tie.After-links_needed-l → tie.Start
start c = c.before.before.before.before.before

floats : (c : tie.After-links_needed-l) → c.floats_needed-f.result - 0 ≡ floats_needed (settings_of (start c).args.h)
floats c = sub-zero _ ∙ rw c.settings-s.ensures at c.floats_needed-f.ensures

floats-end : (c : tie.After-links_needed-l) → c.floats_needed-f.result - 0 ≤ length (start c).args.floats.now
floats-end c = rw (floats c) (start c).requires.floats_room

links : (c : tie.After-links_needed-l) → c.links_needed-l.result - 0 ≡ links_needed (settings_of (start c).args.h)
links c = sub-zero _ ∙ rw c.settings-s.ensures at c.links_needed-l.ensures

links_end : (c : tie.After-links_needed-l) → c.links_needed-l.result - 0 ≤ length (start c).args.links.now
links_end c = rw (links c) (start c).requires.links_room

floats-needed-requires : tie.Need-floats_needed-f-requires
floats-needed-requires c κs = rw c.settings-s.ensures c.requires.sized

links-needed-requires : tie.Need-links_needed-l-requires
links-needed-requires c κs = rw c.settings-s.ensures c.requires.sized

part-empty-end : tie.Need-slice_bounds-empty-end
part-empty-end c = let e = floats-end c in omega arith

part-empty-end-2 : tie.Need-slice_bounds-empty-end-2
part-empty-end-2 c = let e = links_end (c.before) in omega arith

empty-requires : tie.Need-empty-n-requires
empty-requires c κs =
    let sizes = c.before.before in
    rw c.settings-s.ensures (c.requires.sized, length-take-le _ _ (floats-end sizes) ∙ floats sizes, length-take-le _ _ (links_end sizes) ∙ links sizes)

returns : tie.Need-returns
returns c =
    let a = c.args in
    let sizes = c.before.before.before.before.before.before.before.before in
    let new = c.empty-n in
    let settings = c.settings-s.ensures in
    let empty : TreeLeft (settings_of a.h) (fresh a.h.counters.running.threshold) new.result new.new.floats new.new.links =
    rw settings at new.ensures in
    made-whole a.h a.floats.now a.links.now empty c.with_counters.ensures
    (new.auto.floats ∙ length-take-le _ _ (floats-end sizes)) (new.auto.links ∙ length-take-le _ _ (links_end sizes))

pub create_spec : {M : Type 1} → statement M
create_spec = tie.close (tie.spec (λ c κs. search rules) floats-needed-requires links-needed-requires (λ c. search rules) (λ c. search rules) part-empty-end (λ c. search rules) (λ c. search rules) part-empty-end-2 empty-requires (λ c κs. search rules) (λ c. search rules) (λ c. search rules) returns)

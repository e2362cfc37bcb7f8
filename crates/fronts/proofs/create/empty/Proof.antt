-- `fronts::create::empty` meets its contract: the nodes forgotten, and the slices cleared.
use mathlib.Core.Path.{◌∙◌, subst}
use borrow.Author.Rules.{rules}
use lib.ListN.{length}
use Rattle.fronts.specs.Fronts.{tree_fronts, TreeLeft, TreeFronts, new_fronts, new-cleared}
use Rattle.reinsert.specs.Whole.{floats-cleared, links_cleared}
use Rattle.fronts.proofs.create.empty.Statement.{statement}
use Rattle.fronts.proofs.create.empty.Tie as tie

-- once the counters of an empty tree are there
abbrev start : tie.After-new-n → tie.Start
start c = c.before.before.before

-- the slices that it is written to
new : (c : tie.After-new-n)
    → TreeFronts (start c).args.s c.new-n.result (length (start c).args.floats.now) (length (start c).args.links.now)
new c = new_fronts (start c).args.s (start c).requires.0 c.new-n.result (start c).args.threshold c.new-n.ensures (start c).requires.1 (start c).requires.2

clear-requires : tie.Need-clear-m-requires
clear-requires c κs = let t = new c.before.before in (t.floats_in_lem, t.links_in)

tidy-requires : tie.Need-tidy-requires
tidy-requires c κs =
    let made = c.before.before.before.before.before.before.before.before.before in
    let clear = c.clear-m in
    let s = (start made).args.s in
    let n = made.new-n.result in
    tree_fronts (new made) clear.auto.floats clear.auto.links (floats-cleared s n _ clear.ensures.0 (new made).floats_in_lem)
    (links_cleared s n _ clear.ensures.0 (new made).links_in)

returns : tie.Need-returns
returns c =
    let clear = c.before.before.before.before.before.before.before.before.before.before.before in
    let made = clear.before.before.before in
    let tidy = c.tidy in
    let a = (start made).args in
    let empty = new-cleared a.s (start made).requires.0 made.new-n.result a.threshold made.new-n.ensures a.floats.now a.links.now in
    subst (λ t. TreeLeft a.s t clear.clear-m.result tidy.new.floats tidy.new.links) (clear.clear-m.ensures.1 ∙ empty) tidy.ensures

pub empty_spec : {M : Type 1} → statement M
empty_spec = tie.close (tie.spec (λ c κs. search rules) clear-requires tidy-requires (λ c. search rules) (λ c. search rules) returns)

-- `validate` meets its contract: the conditions are tested in their order, and each gives what the next ones lean on.
use mathlib.Core.Path.{◌≡◌, sym, ap, ◌∙◌}
use mathlib.Core.Bool.{true}
use borrow.Author.Rules.{rules}
use borrow.Author.Tests.{not-true, not-false, lt-ltb, le-ltb}
use lib.ListN.{length, drop}
use Rattle.head.specs.declared.refusal.Condition.TheVariants as C
use Rattle.rules.specs.Slices.{tree_of}
use Rattle.rules.specs.Tree.{Tree}
use Rattle.rules.specs.Check.{rooted, merged_below, lowest, checked}
use Rattle.arena.specs.Trees.{AnyFloats, Floats, Links}
use Rattle.std.proofs.Common.{Some}
use Rattle.tour.specs.Walking.{whole, even}
use Prim.Native.Nat.{ℕ, ◌≤◌, ◌<◌}
use mathlib.Core.List.{[]}
use Rattle.validate.specs.Examined.{walked_once, tested, examined, checked-is, fails, holds}
use Rattle.lists.specs.Lent.{ListsFit}
use Rattle.validate.specs.Granted.{sized_links, sized-floats, sized-few, rooted_in, lent_binary64}
use Rattle.validate.proofs.validate.Statement.{statement}
use Rattle.validate.proofs.validate.Tie as tie

-- the tree that is lent
abbrev lent : tie.Start → Tree
lent c = tree_of c.args.s c.args.n c.args.floats.now c.args.links.now

-- the verdict is left to the conditions after the first k
abbrev Met : ℕ → tie.Start → Type 0
Met k c = checked c.args.s (lent c) ≡ lowest (drop k (tested c.args.s (lent c)))

-- ---- where each condition has passed

abbrev start-1 : tie.Else-not-sized → tie.Start
start-1 c = c.before.before.before.before

abbrev start-2 : tie.Else-not-rooted → tie.Start
start-2 c = start-1 c.before.before

abbrev start-3 : tie.Else-not-lists_fit → tie.Start
start-3 c = start-2 c.before.before

abbrev start-4 : tie.In-Some → tie.Start
start-4 c = start-3 c.before.before

abbrev start-5 : tie.Else-not-filled → tie.Start
start-5 c = start-4 c.before.before

abbrev start-6 : tie.Else-not-level → tie.Start
start-6 c = start-5 c.before.before

abbrev start-7 : tie.Else-not-summed → tie.Start
start-7 c = start-6 c.before.before

met-0 : (c : tie.After-shared_slice_known-2-1) → Met 0 c.before.before
unfolding examined
met-0 c =
    checked-is c.args.s (lent c.before.before) c.requires.0.most-few
    (lent_binary64 c.args.s c.args.n c.args.floats.now c.args.links.now _
    c.shared_slice_known-1.given)

met-1 : (c : tie.Else-not-sized) → Met 1 (start-1 c)
unfolding tested
met-1 c = holds C.Counts _ _ (met-0 c.before.before) (sym (c.sized.ensures (start-1 c).args.floats.now (start-1 c).args.links.now) ∙ not-false
    _ c.if-not-sized.false-raw)

met-2 : (c : tie.Else-not-rooted) → Met 2 (start-2 c)
unfolding tested
met-2 c = holds C.Root _ _ (met-1 c.before.before) (sym (c.rooted.ensures (start-2 c).args.floats.now) ∙ not-false _ c.if-not-rooted.false-raw)

met-3 : (c : tie.Else-not-lists_fit) → Met 3 (start-3 c)
unfolding tested
met-3 c = holds C.Lists _ _ (met-2 c.before.before) (sym (c.lists_fit.ensures (start-3 c).args.floats.now) ∙ not-false _ c.if-not-lists_fit.false-raw)

-- the walk that is whole
walked : (c : tie.In-Some) → walked_once (lent (start-4 c)) ≡ Some c.in-Some.depths
walked c = sym (c.walk_once.ensures (start-4 c).args.floats.now) ∙ c.in-Some.is

met-4 : (c : tie.In-Some) → Met 4 (start-4 c)
unfolding tested whole
met-4 c = holds C.Links _ _ (met-3 c.before.before) (ap whole (walked c))

met-5 : (c : tie.Else-not-filled) → Met 5 (start-5 c)
unfolding tested
met-5 c = holds C.Filled _ _ (met-4 c.before.before) (sym (c.filled.ensures (start-5 c).args.floats.now) ∙ not-false _ c.if-not-filled.false-raw)

met-6 : (c : tie.Else-not-level) → Met 6 (start-6 c)
unfolding tested even
met-6 c = holds C.Level _ _ (met-5 c.before.before) (ap even (walked c.before.before.before.before) ∙ sym c.level.ensures ∙ not-false _
    c.if-not-level.false-raw)

met-7 : (c : tie.Else-not-summed) → Met 7 (start-7 c)
unfolding tested
met-7 c = holds C.Weights _ _ (met-6 c.before.before) (sym c.summed.ensures ∙ not-false _ c.if-not-summed.false-raw)

-- ---- what they give to the code after them

links : (c : tie.Else-not-sized) → Links (start-1 c).args.s (start-1 c).args.n (length (start-1 c).args.links.now)
links c =
    let start = start-1 c in
    sized_links start.args.s start.args.n start.args.floats.now start.args.links.now start.requires.0 start.requires.2
    (sym (c.sized.ensures start.args.floats.now start.args.links.now) ∙ not-false _ c.if-not-sized.false-raw)

floats : (c : tie.Else-not-sized) → Floats (start-1 c).args.s (start-1 c).args.n (length (start-1 c).args.floats.now)
floats c =
    let start = start-1 c in
    sized-floats start.args.s start.args.n start.args.floats.now start.args.links.now start.requires.0 start.requires.1
    (sym (c.sized.ensures start.args.floats.now start.args.links.now) ∙ not-false _ c.if-not-sized.false-raw)

few : (c : tie.Else-not-sized) → (start-1 c).args.n.entries ≤ 256
few c =
    let start = start-1 c in
    sized-few start.args.s start.args.n start.args.floats.now start.args.links.now start.requires.0
    (sym (c.sized.ensures start.args.floats.now start.args.links.now) ∙ not-false _ c.if-not-sized.false-raw)

rooted-so : (c : tie.Else-not-rooted) → AnyFloats (start-2 c).args.s (start-2 c).args.n (start-2 c).args.links.now (λ t. rooted t ≡ true)
rooted-so c = λ fs. sym (c.rooted.ensures fs) ∙ not-false _ c.if-not-rooted.false-raw

root_in : (c : tie.Else-not-rooted) → (start-2 c).args.n.root < (start-2 c).args.n.nodes
root_in c =
    let start = start-2 c in
    rooted_in start.args.s start.args.n start.args.floats.now start.args.links.now
    (sym (c.rooted.ensures start.args.floats.now) ∙ not-false _ c.if-not-rooted.false-raw)

listed : (c : tie.Else-not-lists_fit) → ListsFit (start-3 c).args.s (start-3 c).args.n (start-3 c).args.links.now
listed c = λ fs. sym (c.lists_fit.ensures fs) ∙ not-false _ c.if-not-lists_fit.false-raw

returns : tie.Need-returns-then-not-sized
unfolding tested
returns c = fails C.Counts _ _ (met-0 c.before.before) (sym (c.sized.ensures c.args.floats.now
    c.args.links.now) ∙ not-true _ c.if-not-sized.true-raw)

rooted-requires : tie.Need-rooted-requires
rooted-requires c κs = links c

returns-2 : tie.Need-returns-then-not-rooted
unfolding tested
returns-2 c = fails C.Root _ _ (met-1 c.before.before) (sym (c.rooted.ensures (start-1 c.before.before).args.floats.now) ∙ not-true _
    c.if-not-rooted.true-raw)

lists-fit-requires : tie.Need-lists_fit-requires
lists-fit-requires c κs = links c.before.before

returns-3 : tie.Need-returns-then-not-lists_fit
unfolding tested
returns-3 c = fails C.Lists _ _ (met-2 c.before.before) (sym (c.lists_fit.ensures (start-2 c.before.before).args.floats.now) ∙ not-true _
    c.if-not-lists_fit.true-raw)

walk-once-requires : tie.Need-walk_once-requires
walk-once-requires c κs = (links c.before.before.before.before, listed c, few c.before.before.before.before, rooted-so c.before.before)

returns-4 : tie.Need-returns-in_default
unfolding tested whole
returns-4 c = fails C.Links _ _ (met-3 c.before.before) (ap whole (sym (c.walk_once.ensures
    (start-3 c.before.before).args.floats.now) ∙ c.in_default.is))

filled-requires : tie.Need-filled-requires
filled-requires c κs = links c.before.before.before.before.before.before

returns-5 : tie.Need-returns-then-not-filled
unfolding tested
returns-5 c = fails C.Filled _ _ (met-4 c.before.before) (sym (c.filled.ensures (start-4 c.before.before).args.floats.now) ∙ not-true _
    c.if-not-filled.true-raw)

returns-6 : tie.Need-returns-then-not-level
unfolding tested even
returns-6 c = fails C.Level _ _ (met-5 c.before.before) (ap even (walked c.before.before.before.before) ∙ sym c.level.ensures ∙ not-true _
    c.if-not-level.true-raw)

summed-requires : tie.Need-summed-requires
summed-requires c κs =
    let c3 = c.before.before.before.before.before.before in
    let c1 = c3.before.before.before.before in
    (floats c1, links c1, listed c3, root_in c3.before.before)

returns-7 : tie.Need-returns-then-not-summed
unfolding tested
returns-7 c = fails C.Weights _ _ (met-6 c.before.before) (sym c.summed.ensures ∙ not-true _ c.if-not-summed.true-raw)

returns-8 : tie.Need-returns-then-n-s
unfolding tested merged_below tree_of
returns-8 c = let start = start-7 c.before.before.before in fails C.Merged _ _ (met-7 c.before.before.before)
    (le-ltb start.args.n.running.merged start.args.s.max_leaves c.if-n-s.true)

returns-9 : tie.Need-returns
unfolding tested merged_below tree_of lowest
returns-9 c = let start = start-7 c.before.before.before in sym
    (holds C.Merged _ [] (met-7 c.before.before.before) (lt-ltb start.args.n.running.merged start.args.s.max_leaves c.if-n-s.false))

pub validate_spec : {M : Type 1} → statement M
validate_spec = tie.close (tie.spec (λ c κs. search rules) returns rooted-requires returns-2 lists-fit-requires returns-3 walk-once-requires
    (λ c. search rules) (λ c. search rules) returns-4 filled-requires returns-5 (λ c κs. search rules) returns-6 summed-requires returns-7 returns-8 returns-9)

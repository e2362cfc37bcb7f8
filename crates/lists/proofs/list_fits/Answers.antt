-- `lists::list_fits` meets its contract: a test each.
use Rattle.std.proofs.Common.{ap, ◌∙◌, ltb, le-leb}
use Rattle.std.proofs.lemmas.Bool.{lt-leb}
use Rattle.rules.specs.Lists.{every}
use Rattle.rules.specs.Tree.{node_at}
use Rattle.rules.specs.Slices.{tree_of}
use Rattle.rules.specs.Check.{list_fits}
use Rattle.lists.proofs.list_fits.Goals as goal

pub returns-then-list_len-cap : goal.returns-then-list_len-cap
unfolding list_fits
returns-then-list_len-cap c = λ fs.
    rw (← c.list_len.ensures fs, ← c.is_leaf-leaf.ensures fs, ← c.cap.ensures, le-leb c.list_len.result c.cap.result c.if-list_len-cap.true)
    (c.below.ensures fs ∙ ap (λ b. every (λ z. ltb z b) (node_at (tree_of c.args.s c.args.n fs c.args.links.now) c.args.i).list) (c.known.ensures fs))

pub returns-else-list_len-cap : goal.returns-else-list_len-cap
unfolding list_fits
returns-else-list_len-cap c = λ fs.
    rw (← c.list_len.ensures fs, ← c.is_leaf-leaf.ensures fs, ← c.cap.ensures, lt-leb c.list_len.result c.cap.result c.if-list_len-cap.false)

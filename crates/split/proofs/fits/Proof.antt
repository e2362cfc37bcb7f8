-- `split::fits` meets its contract: the length is held to the cap of the node's kind.
use borrow.Author.Rules.{rules}
use Rattle.rules.specs.Slices.{tree_of}
use Rattle.split.specs.Up.{fits_leaf, fits_inner}
use Rattle.split.proofs.fits.Statement.{statement}
use Rattle.split.proofs.fits.Tie as tie

returns : tie.Need-returns-then-is_leaf
returns c =
    let a = c.args in
    λ fs. fits_leaf a.s (tree_of a.s a.n fs a.links.now) a.i (c.list_len-len.ensures fs)
    (c.is_leaf.ensures fs) c.if-is_leaf.true

returns-2 : tie.Need-returns-else-is_leaf
returns-2 c =
    let a = c.args in
    λ fs. fits_inner a.s (tree_of a.s a.n fs a.links.now) a.i (c.list_len-len.ensures fs)
    (c.is_leaf.ensures fs) c.if-is_leaf.false

pub fits_spec : {M : Type 1} → statement M
fits_spec = tie.close (tie.spec (λ c κs. search rules) (λ c κs. search rules) returns returns-2)

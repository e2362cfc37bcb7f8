-- `grow::split_if_over` meets its contract: a tree whose node i is within its cap stays as it is.
use mathlib.Core.Path.{sym, ◌∙◌}
use borrow.Author.Rules.{rules}
use Rattle.rules.specs.Slices.{tree_of}
use Rattle.split.specs.Up.{up_start, up_fits}
use Rattle.grow.proofs.split_if_over.Statement.{statement}
use Rattle.grow.proofs.split_if_over.Tie as tie

returns : tie.Need-returns-then-fits
returns c =
    let start = c.before.before.before.before in
    let a = start.args in
    let t = tree_of a.s a.n a.floats.now a.links.now in
    let within = sym (c.fits.ensures a.floats.now) ∙ c.if-fits.true in
    (start.requires.0, sym (up_fits a.s a.n.nodes a.i t within) ∙ up_start a.s a.n.nodes a.i t start.requires.1.nodes)

pub split_if_over_spec : {M : Type 1} → statement M
split_if_over_spec =
    tie.close (tie.spec (λ c κs. search rules) (λ c. search rules) returns (λ c κs. search rules) (λ c. search rules) (λ c. search rules)
    (λ c. search rules))

-- `refit::rounds::is_hollow` meets its contract: a leaf, and no list.
use mathlib.Core.Path.{sym, ◌∙◌}
use borrow.Author.Rules.{rules}
use borrow.Author.Tests.{not-true, not-false}
use Rattle.refit.specs.Hollow.{hollow-inner, hollow-leaf}
use Rattle.refit.proofs.rounds.is_hollow.Statement.{statement}
use Rattle.refit.proofs.rounds.is_hollow.Tie as tie

returns : tie.Need-returns-then-not-is_leaf
returns c = λ fs. hollow-inner _ (sym (c.is_leaf.ensures fs) ∙ not-true _ c.if-not-is_leaf.true-raw)

returns-2 : tie.Need-returns
returns-2 c = λ fs. hollow-leaf _ _ (sym (c.is_leaf.ensures fs) ∙ not-false _ c.if-not-is_leaf.false-raw) (c.list_len.ensures fs)

pub is_hollow_spec : {M : Type 1} → statement M
is_hollow_spec = tie.close (tie.spec (λ c κs. search rules) returns (λ c κs. search rules) returns-2)

-- `entries_count` meets its contract: each entry weighs a count.
use Rattle.std.proofs.Common.{rules, ◌∙◌}
use Rattle.binary64.specs.Counts.{is_count}
use Rattle.rules.specs.Tree.{entry_at}
use Rattle.rules.specs.Slices.{tree_of}
use Rattle.lists.specs.Lent.{entries_placed}
use Rattle.weights.proofs.entries_count.Goals as goal

pub returns : goal.returns
returns c = λ ls.
    c.every_below.ensures (λ e. is_count (entry_at (tree_of c.args.s c.args.n c.args.floats.now ls) e).weight) (λ k b l h. search rules)
    ∙ entries_placed c.args.s c.args.n c.args.floats.now ls _

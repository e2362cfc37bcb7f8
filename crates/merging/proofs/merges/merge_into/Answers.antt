-- The summary merged is entry two's.
use Rattle.std.proofs.Common.{[], ◌∙◌, ap}
use Rattle.rules.specs.Tree.{merge}
use Rattle.rules.specs.Slices.{tree_of}
use Rattle.arena.specs.Trees.{on_entry, entry_shaped}
use Rattle.merging.specs.Merging.{TwoMerged}
use Rattle.merging.proofs.merges.merge_into.Goals as goal

pub merge-requires : goal.merge-requires
merge-requires c = (
  c.requires.0,
  c.requires.1,
  rw (c.summary-c.ensures []) (entry_shaped c.args.s c.requires.0.sized c.args.n c.args.floats.now [] c.args.two c.requires.2),
)

pub returns : goal.returns
unfolding TwoMerged
returns c = λ ls.
    c.merge.ensures ls ∙ ap (λ b. on_entry (λ x. merge c.args.s x b) c.args.one (tree_of c.args.s c.args.n c.args.floats.now ls)) (c.summary-c.ensures ls)

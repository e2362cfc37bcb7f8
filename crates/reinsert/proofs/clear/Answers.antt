-- The root becomes an empty leaf, and the counters forget all else.
use Rattle.std.proofs.Common.{◌≡◌, ◌∙◌, sym, ap, subst, arith}
use Rattle.feature.specs.Shape.{Shaped, blank_shaped}
use Rattle.head.specs.Sizes.{block_width, nodes_some}
use Rattle.head.specs.Counting.{count_nodes, count_entries, root_at}
use Rattle.head.specs.declared.Counters.{Counters}
use Rattle.rules.specs.Tree.{summed}
use Rattle.rules.specs.Slices.{tree_of}
use Rattle.arena.specs.Trees.{block_in, on_node}
use Rattle.reinsert.specs.Whole.{cleared_counts, floats-cleared, root_cleared, cleared-is}
use Rattle.reinsert.proofs.clear.Goals as goal

counts : (n : Counters) {r : Counters} → r ≡ root_at 0 (count_entries 0 (count_nodes 1 n)) → r ≡ cleared_counts n
unfolding cleared_counts
counts n e = e

pub put-requires : goal.put-requires
put-requires c =
    let made = counts c.args.n (c.with_root-m.ensures ∙ ap (root_at 0) (c.with_entries.ensures ∙ ap (count_entries 0) c.with_nodes.ensures)) in (
      floats-cleared c.args.s c.args.n _ made c.requires.0,
      root_cleared c.args.s c.args.n _ made,
      subst (Shaped c.args.s.feature c.args.s.dim) (sym c.empty.ensures) (blank_shaped c.args.s.feature c.args.s.dim),
    )

pub link-requires : goal.link-requires
unfolding block_width
link-requires c = (block_in c.args.s c.args.n _ 0 c.requires.1 (omega (arith, nodes_some c.args.s)), tt, omega arith)

pub returns-clause-value : goal.returns-clause-value
returns-clause-value c = counts c.args.n (c.with_root-m.ensures ∙ ap (root_at 0) (c.with_entries.ensures ∙ ap (count_entries 0) c.with_nodes.ensures))

pub returns-clause-links_after : goal.returns-clause-links_after
returns-clause-links_after c =
    let t = tree_of c.args.s c.with_root-m.result c.args.floats.now c.args.links.now in
    cleared-is c.args.s c.args.n _ (counts c.args.n (c.with_root-m.ensures ∙ ap (root_at 0) (c.with_entries.ensures ∙ ap (count_entries 0) c.with_nodes.ensures))) c.args.floats.now _ c.args.links.now _
    (c.put.ensures c.args.links.now ∙ ap (λ z. on_node (summed (λ _. z)) 0 t) c.empty.ensures) c.link.ensures

-- `arena::links::set_list` meets its contract: a change of block i is one of node i.
use Prim.Native.Nat.{◌+◌, ◌*◌, ◌≤◌}
use native.Mathlib.Omega.{arith}
use borrow.Author.Rules.{rules}
use lib.ListN.{length}
use Rattle.rules.specs.Tree.{with_list}
use Rattle.arena.specs.Trees.{node_block}
use Rattle.arena.specs.Writes.{node_relinked}
use Rattle.arena.specs.Numbered.{block_fits, block_of, block_put}
use Rattle.stretch.specs.Stretches.{put_stretch}
use Rattle.arena.proofs.links.set_list.Statement.{statement}
use Rattle.arena.proofs.links.set_list.Tie as tie

-- block i is there, by the width that the code has worked out
fits : (c : tie.After-block_width-w)
    → c.args.i * c.block_width-w.result + c.block_width-w.result ≤ length c.args.links.now
fits c =
    let start = c.before.before.before in
    block_fits start.args.s start.args.links.now start.args.i c.block_width-w.result
    (node_block start.args.s start.args.n _ start.args.i start.requires.0 start.requires.1) c.block_width-w.ensures

set-list-requires : tie.Need-set_list-requires
set-list-requires c κs =
    let start = c.before.before.before.before in (
      block_of start.args.s start.args.links.now start.args.i c.block_width-w.result
          (node_block start.args.s start.args.n _ start.args.i start.requires.0 start.requires.1) c.block_width-w.ensures,
      start.requires.2,
    )

returns : tie.Need-returns
unfolding put_stretch
returns c =
    let block-width = c.block_width-w in
    let start = c.before.before.before.before.before.before.before in
    let s = start.args.s in
    λ fs. node_relinked s start.args.n fs start.args.links.now _ (with_list start.args.list.now)
    start.args.i start.requires.1 (block_put s start.args.links.now start.args.i block-width.result
    (node_block start.args.s start.args.n _ start.args.i start.requires.0 start.requires.1) block-width.ensures
    (with_list start.args.list.now) c.set_list.new.b
    c.set_list.auto.b c.set_list.ensures)

pub set_list_spec : {M : Type 1} → statement M
set_list_spec =
    tie.close (tie.spec (λ c κs. search rules) (λ c. omega (arith, fits c)) (λ c. omega (arith, fits c)) (λ c. omega (arith, fits c))
    (λ c. search rules) (λ c. search rules) (λ c. omega (arith, fits c)) set-list-requires (λ c. search rules) returns)

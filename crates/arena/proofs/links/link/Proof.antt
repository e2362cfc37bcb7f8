-- `arena::links::link` meets its contract: the one block reads back as linked, and the others stay.
use Prim.Native.Nat.{◌+◌, ◌*◌, ◌≤◌}
use mathlib.Core.Path.{◌∙◌}
use native.Mathlib.Omega.{arith}
use borrow.Author.Rules.{rules}
use lib.ListN.{length}
use Rattle.arena.specs.Numbered.{block_fits, block_of, block_put}
use Rattle.stretch.specs.Stretches.{put_stretch}
use Rattle.stretch.specs.Blocks.{linked-is, relinked}
use Rattle.arena.proofs.links.link.Statement.{statement}
use Rattle.arena.proofs.links.link.Tie as tie

-- block i is there, by the width that the code has worked out
fits : (c : tie.After-block_width-w)
    → c.args.i * c.block_width-w.result + c.block_width-w.result ≤ length c.args.links.now
fits c =
    let start = c.before.before.before in
    block_fits start.args.s start.args.links.now start.args.i c.block_width-w.result start.requires.0 c.block_width-w.ensures

link-requires : tie.Need-link-requires
link-requires c κs =
    let start = c.before.before.before.before in (
      block_of start.args.s start.args.links.now start.args.i c.block_width-w.result start.requires.0
          c.block_width-w.ensures,
      start.requires.1,
      start.requires.2,
    )

returns : tie.Need-returns
unfolding put_stretch
returns c =
    let block-width = c.block_width-w in
    let start = c.before.before.before.before.before.before.before in
    let s = start.args.s in
    block_put s start.args.links.now start.args.i block-width.result start.requires.0 block-width.ensures
    (relinked start.args.parent start.args.leaf start.args.list.now)
    c.link.new.b c.link.auto.b
    (λ p. c.link.ensures p ∙ linked-is s p _ _ _ _)

pub link_spec : {M : Type 1} → statement M
link_spec =
    tie.close (tie.spec (λ c κs. search rules) (λ c. omega (arith, fits c)) (λ c. omega (arith, fits c)) (λ c. omega (arith, fits c))
    (λ c. search rules) (λ c. search rules) (λ c. omega (arith, fits c)) link-requires (λ c. search rules) returns)

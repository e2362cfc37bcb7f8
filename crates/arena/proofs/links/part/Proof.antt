-- `arena::links::part` meets its contract: the part cut out is the block.
use Prim.Native.Nat.{◌+◌, ◌*◌, ◌≤◌}
use native.Mathlib.Omega.{arith}
use borrow.Author.Rules.{rules}
use lib.ListN.{length}
use Rattle.arena.specs.Numbered.{block_fits, block_cut}
use Rattle.arena.proofs.links.part.Statement.{statement}
use Rattle.arena.proofs.links.part.Tie as tie

-- block i is there, by the width that the code has worked out
fits : (c : tie.After-block_width-w)
    → c.args.i * c.block_width-w.result + c.block_width-w.result ≤ length c.args.links.now
fits c =
    let start = c.before.before in
    block_fits start.args.s start.args.links.now start.args.i c.block_width-w.result start.requires c.block_width-w.ensures

returns : tie.Need-returns
returns c =
    let start = c.before.before.before in
    block_cut start.args.s start.args.links.now start.args.i c.block_width-w.result start.requires
    c.block_width-w.ensures

pub part_spec : {M : Type 1} → statement M
part_spec =
    tie.close (tie.spec (λ c κs. search rules) (λ c. omega (arith, fits c)) (λ c. omega (arith, fits c)) (λ c. omega (arith, fits c))
    (λ c. search rules) (λ c. search rules) (λ c. omega (arith, fits c)) returns)

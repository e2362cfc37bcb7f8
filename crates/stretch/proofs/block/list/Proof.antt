-- `stretch::block::list` meets its contract: the list stands behind two words.
use Prim.Native.Nat.{◌+◌, ◌≤◌}
use mathlib.Core.List.{[]}
use native.Mathlib.Omega.{arith}
use borrow.Author.Rules.{rules}
use lib.ListN.{length}
use Rattle.stretch.specs.Blocks.{list_in, list_part}
use Rattle.stretch.proofs.block.list.Statement.{statement}
use Rattle.stretch.proofs.block.list.Tie as tie

-- the list is in the block
fits : (c : tie.After-list_len-len) → 2 + c.list_len-len.result ≤ length c.args.b.now
fits c =
    let start = c.before.before in
    let l = list_in start.args.s start.args.b.now start.requires [] in
    omega (arith, c.list_len-len.ensures [])

returns : tie.Need-returns
returns c =
    let start = c.before.before.before in
    λ p. list_part start.args.s start.args.b.now start.requires p c.list_len-len.result (c.list_len-len.ensures p)

pub list_spec : {M : Type 1} → statement M
list_spec = tie.close
    (tie.spec (λ c κs. search rules) (λ c. omega (arith, fits c)) (λ c. omega (arith, fits c)) (λ c. search rules) (λ c. omega (arith, fits c)) returns)

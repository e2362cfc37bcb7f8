-- `stretch::block::append` meets its contract: the place that the length names is the spare one at most, and the length goes up by one.
use Prim.Native.Nat.{◌+◌, ◌/◌, ◌<◌}
use mathlib.Core.List.{[]}
use native.Mathlib.Omega.{arith}
use borrow.Author.Rules.{rules}
use lib.ListN.{length, get_or, length-set}
use Rattle.head.specs.Sizes.{block_width}
use Rattle.stretch.specs.Blocks.{spare_said, added_is}
use Rattle.stretch.proofs.block.append.Statement.{statement}
use Rattle.stretch.proofs.block.append.Tie as tie

-- the place past the list is in the block, and the word says the length
room : (c : tie.After-slice_known-2-1) → (c.list_len-len.result + 2 < length c.args.b.now)
    × (get_or c.args.b.now 1 0 / 2 + 2 < block_width c.args.s)
room c =
    let start = c.before.before.before in
    let e = c.list_len-len.ensures [] in
    let l = start.requires.0.long in
    (omega (arith, start.requires.2 []), spare_said start.args.s start.args.b.now start.requires.0 [] (start.requires.2 []))

returns : tie.Need-returns
returns c =
    let start = c.before.before.before in
    λ p. added_is start.args.s p start.args.i c.list_len-len.result start.args.b.now start.requires.0 (start.requires.2 p)
    (c.list_len-len.ensures p)

pub append_spec : {M : Type 1} → statement M
append_spec =
    tie.close (tie.spec (λ c κs. search rules) (λ c. search rules) (λ c. search rules) (λ c. omega (arith, room c)) (λ c. omega (arith, room c))
    (λ c. omega (arith, room c)) (λ c. omega (
      arith,
      room c,
      c.requires.0.few,
      c.requires.0.long,
    )) (λ c. simp length-set (omega arith)) (λ c. search rules) returns)

-- `stretch::block::list_at` meets its contract: place i of the list stands two further on.
use Prim.Native.Nat.{◌+◌, ◌<◌}
use mathlib.Core.Path.{sym}
use mathlib.Core.List.{[]}
use native.Mathlib.Omega.{arith}
use lib.ListN.{length}
use Rattle.stretch.specs.Blocks.{list_in, list_place}
use Rattle.stretch.proofs.block.list_at.Statement.{statement}
use Rattle.stretch.proofs.block.list_at.Tie as tie

-- the place is in the block
room : (c : tie.Start) → c.args.i + 2 < length c.args.b.now
room c = let l = list_in c.args.s c.args.b.now c.requires.0 [] in omega (arith, c.requires.1 [])

returns : tie.Need-returns
returns c = (
  λ p. sym (list_place c.args.s c.args.b.now c.requires.0 p c.args.i (c.requires.1 p)),
  omega
      (arith, c.shared_slice_known-1.given (2 + c.args.i)),
)

pub list_at_spec : {M : Type 1} → statement M
list_at_spec =
    tie.close (tie.spec (λ c. omega (arith, room c)) (λ c. omega (arith, room c)) (λ c. omega (arith, room (c.before)))
    (λ c. omega (arith, c.shared_slice_known-1.given (2 + c.args.i))) returns)

-- `text::writing::write_decimal` meets its contract: as many digits as n has.
use Prim.Native.Nat.{◌+◌}
use mathlib.Core.List.{[]}
use mathlib.Core.Path.{sym, ap, ◌∙◌}
use native.Mathlib.Omega.{arith}
use borrow.Author.Rules.{rules}
use Rattle.rules.specs.Listing.{digits_of, decimal_of}
use Rattle.text.specs.Written.{written, decimal-length}
use Rattle.text.proofs.writing.write_decimal.Statement.{statement}
use Rattle.text.proofs.writing.write_decimal.Tie as tie

digits-requires : tie.Need-digits-requires
digits-requires c κs = (omega arith, omega arith, omega (arith, c.places-k.ensures, decimal-length c.args.n))

add-result : tie.Need-overflow_add-result
add-result c =
    omega (arith, c.places-k.ensures, decimal-length c.args.n)

returns : tie.Need-returns
unfolding decimal_of
returns c =
    let start = c in
    let places = c.places-k in (
      c.digits.ensures ∙ ap (λ k. written start.args.at (digits_of k 10 start.args.n []) start.args.out.now) places.ensures,
      ap (λ k. start.args.at + k) (places.ensures ∙ sym (decimal-length start.args.n)),
    )

pub write_decimal_spec : {M : Type 1} → statement M
write_decimal_spec = tie.close (tie.spec (λ c κs. search rules) digits-requires add-result (λ c. search rules) returns)

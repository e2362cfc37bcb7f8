-- `text::writing::write_hex` meets its contract: 16 digits of the bits.
use Prim.Native.Nat.{◌+◌}
use mathlib.Core.List.{[]}
use mathlib.Core.Path.{sym, ap, ◌∙◌}
use borrow.Author.Rules.{rules}
use Rattle.rules.specs.Listing.{digits_of, hex_of}
use Rattle.text.specs.Written.{written, hex_length}
use Rattle.text.proofs.writing.write_hex.Statement.{statement}
use Rattle.text.proofs.writing.write_hex.Tie as tie

returns : tie.Need-returns
unfolding hex_of
returns c =
    let start = c in (
      c.digits.ensures
          ∙ ap (λ b. written start.args.at (digits_of 16 16 b []) start.args.out.now) c.bits_of.ensures,
      ap (λ k. start.args.at + k) (sym (hex_length start.args.x)),
    )

pub write_hex_spec : {M : Type 1} → statement M
write_hex_spec = tie.close (tie.spec (λ c κs. search rules) (λ c κs. search rules) (λ c. search rules) (λ c. search rules) returns)

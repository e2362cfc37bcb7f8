-- `reports::fields::hex` meets its contract: a tab, and the digits behind it.
use mathlib.Core.Path.{◌∙◌}
use native.Mathlib.Omega.{arith}
use borrow.Author.Rules.{rules}
use lib.ListN.{length-set}
use Rattle.reports.specs.Lines.{wrote_both, wrote_is, wrote_byte, tabbed-one}
use Rattle.rules.specs.Listing.{hex_of}
use Rattle.text.specs.Written.{hex_length}
use Rattle.reports.proofs.fields.hex.Statement.{statement}
use Rattle.reports.proofs.fields.hex.Tie as tie

write-hex-requires : tie.Need-write_hex-requires
write-hex-requires c κs = simp length-set (omega arith)

same_length : tie.Need-shape_of-out
same_length c =
    let start = c in
    c.write_hex.auto.out ∙ length-set start.args.out.now _ _

returns : tie.Need-returns
returns c =
    let start = c in
    wrote_is (tabbed-one (hex_of start.args.x)) (wrote_both (wrote_byte start.args.at start.args.out.now 9 (omega arith))
    (record {
      bytes_in = c.write_hex.ensures.0;
      end = c.write_hex.ensures.1;
      room = (let e = hex_length
          start.args.x in simp length-set (omega arith));
    }))

pub hex_spec : {M : Type 1} → statement M
hex_spec = tie.close (tie.spec (λ c. search rules) (λ c. search rules) write-hex-requires same_length returns)

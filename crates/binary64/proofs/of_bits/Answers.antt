-- A pattern above infinity's is a NaN's, by the library's own account.
use Rattle.std.proofs.Common.{◌%◌, sym, ◌∙◌, rules, lt-ltb}
use Rattle.std.proofs.lemmas.Float.{not_nan_f64_bits}
use Rattle.std.specs.Float.{binary64}
use Rattle.std.specs.Float.Ieee.{of_bits}
use Rattle.std.specs.Float.Ieee.Bits.{nan_bits_is, nan_bits_above}
use Rattle.binary64.specs.Values.{nan_is}
use Rattle.binary64.proofs.of_bits.Goals as goal

pub float_from_bits-result : goal.float_from_bits-result
float_from_bits-result c = not_nan_f64_bits _ (search rules)

pub returns-then-b-gt9218868437227405312 : goal.returns-then-b-gt9218868437227405312
unfolding of_bits
returns-then-b-gt9218868437227405312 c =
    let b = c.args.b in
    let e = lt-ltb 0x7ff0_0000_0000_0000 (b % 0x8000_0000_0000_0000) c.if-b-gt9218868437227405312.true in
    sym (nan_is (of_bits binary64 b) (sym (nan_bits_is binary64 b) ∙ nan_bits_above binary64 b ∙ e))

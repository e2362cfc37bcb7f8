-- A digit more, or one that is none.
use Rattle.std.proofs.Common.{◌≡◌, get_or, refl, arith, sym, ap, ◌∙◌, Some}
use Rattle.rules.specs.Listing.{hex_digit}
use Rattle.text.specs.Numbers.{hex_small, read_stop, read_more, read_end, sixteens, sixteens_more, sixteens_fit}
use Rattle.text.proofs.numbers.of_sixteens.Goals as goal

pub loop-b-init : goal.loop-b-init
unfolding sixteens
loop-b-init c = (omega arith, refl)

pub returns-in_err-d : goal.returns-in_err-d
returns-in_err-d c =
    let loop = c.loop-b in
    c.from_residual.ensures ∙ sym (read_stop hex_digit 16 _ loop.b-index loop.n (omega arith) (sym c.hex_digit.ensures ∙ c.in_err-d.was)) ∙ loop.invariant.1

pub overflow_mul-n : goal.overflow_mul-n
overflow_mul-n c = omega (arith, sixteens_fit c.loop-b.b-index (omega arith))

pub overflow_add-n : goal.overflow_add-n
overflow_add-n c =
    let is : hex_digit (get_or c.args.field.now c.loop-b.b-index 0) ≡ Some c.from.result = sym c.hex_digit.ensures ∙ c.in_ok-d.was ∙ ap Some (sym c.from.ensures) in
    omega (arith, hex_small _ _ is, sixteens_fit c.loop-b.b-index (omega arith))

pub loop-b-preserved : goal.loop-b-preserved
loop-b-preserved c =
    let loop = c.loop-b in
    let is : hex_digit (get_or c.args.field.now loop.b-index 0) ≡ Some c.from.result = sym c.hex_digit.ensures ∙ c.in_ok-d.was ∙ ap Some (sym c.from.ensures) in (
      sixteens_more loop.b-index loop.n c.from.result loop.invariant.0 (hex_small _ _ is),
      read_more hex_digit 16 _ loop.b-index loop.n c.from.result (omega arith) is ∙ loop.invariant.1,
    )

pub returns : goal.returns
returns c = let loop = c.loop-b in sym (read_end hex_digit 16 _ loop.b-index loop.n (omega arith)) ∙ loop.invariant.1
